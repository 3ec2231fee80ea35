-- What the core of `ipx send` and of `ipx listen` does to its endpoint in a turn, as calls of a host.
-- The entry point is `MakesCalls`, at the end. Defined by this project.
use Rattle.std.specs.Prelude.{ℕ, ◌≡◌, ◌⊎◌, All, Contains, List, [], ◌∷◌, Option, Some, flat_map, option_map}
use Rattle.ipx_wire.specs.declared.address.Address.{Address}
use Rattle.spx_messages.specs.declared.arrived.Arrived.TheVariants as Arriveds
use Rattle.ipx_carrier.specs.Turns.{Given}
use Rattle.ipx_host.specs.Barring.{IsBarred}
use Rattle.ipx_host.specs.Noting.{IsPacketFrom}
use Rattle.ipx_host.specs.declared.paced_host_core.Accepted.{Accepted}
use Rattle.ipx_host.specs.declared.paced_host_core.Arrival.TheVariants as Cames
use Rattle.ipx_host.specs.declared.paced_host_core.PacedHostCore.{PacedHostCore}
use Rattle.ipx_host.specs.declared.pacing.Paced.{Paced}
use Rattle.theory_processes.specs.HostCalls.{AsksAgain, Begins, Closes, Dials, Fails, Gives, HandsIn, Hears, HostCall, Paces, Releases, Source, Takes}
use Rattle.theory_processes.specs.Loops.{HostRuns, host_gave, host_heard}

-- the id of the paced connection, if there is one
abbrev pub paced_id : Option Paced → Option ℕ
paced_id paced = option_map (λ (p : Paced). p.id) paced

-- a call that a turn makes: the endpoint receives or is polled, or the paced connection is set for a poll or
-- released. A turn hands in nothing, takes nothing and begins nothing
abbrev pub IsOfTurn : Option ℕ → HostCall → Type 0
IsOfTurn paced (Hears source bytes now answer) = Unit {0}
IsOfTurn paced (Gives now given) = Unit {0}
IsOfTurn paced (Dials socket to buffers now id) = ⊥
IsOfTurn paced (HandsIn id m) = ⊥
IsOfTurn paced (Closes id) = ⊥
IsOfTurn paced (Takes id answer) = ⊥
IsOfTurn paced (Paces id window manual) = paced ≡ Some id
IsOfTurn paced (AsksAgain id place) = paced ≡ Some id
IsOfTurn paced (Releases id) = paced ≡ Some id
IsOfTurn paced (Begins socket buffers) = ⊥
IsOfTurn paced Fails = Unit {0}

-- of these datagrams an endpoint read all, in order, except the requests from those who may not connect
abbrev pub ReadsAllowed : PacedHostCore → List (List ℕ) → List (List ℕ) → Type 0
ReadsAllowed core [] read = read ≡ []
ReadsAllowed core (bytes ∷ more) read =
    (IsBarred core bytes × ReadsAllowed core more read)
    ⊎ ((IsBarred core bytes → ⊥) × (rest : List (List ℕ)) × (read ≡ bytes ∷ rest) × ReadsAllowed core more rest)

-- who may connect, and which connection is paced, are unchanged
pub record SameRules (old new : PacedHostCore) : Type 0 where
  pub network : new.network ≡ old.network
  pub from : new.from ≡ old.from
  pub paced : paced_id new.paced ≡ paced_id old.paced

-- one of these calls read a packet from this address, and accepted it: it made the connection of this id
pub record AcceptFrom (calls : List HostCall) (id : ℕ) (from : Address) : Type 0 where
  pub source : Source
  pub bytes : List ℕ
  pub now : ℕ
  pub call : Contains calls (Hears source bytes now (Arriveds.Accepted id))
  pub packet : IsPacketFrom bytes from

-- a core received these datagrams and gave these packets, in order, by calls of its endpoint. If it notes a
-- connection as accepted, it did so before, or one of these calls accepted it
pub record MakesCalls (old new : PacedHostCore) (received : List (List ℕ)) (packets : List Given) : Type 0 where
  pub calls : List HostCall
  pub runs : HostRuns calls old.endpoint new.endpoint
  pub kinds : All (IsOfTurn (paced_id old.paced)) calls
  pub reads : ReadsAllowed old received (flat_map host_heard calls)
  pub gave : flat_map host_gave calls ≡ packets
  pub rules : SameRules old new
  pub notes : (a : Accepted) → new.came ≡ Some (Cames.Accepted a)
      → (old.came ≡ Some (Cames.Accepted a)) ⊎ AcceptFrom calls a.id a.from
