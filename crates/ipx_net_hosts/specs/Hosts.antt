-- The hosts of a network and their ends, by their numbers, and the world that they belong to.
use Rattle.std.specs.Prelude.{ℕ, ◌≡◌, ◌⊎◌, Bool, false, true, not, List, [], ◌∷◌, ◌++◌, length, map, set, Option, Some, None, Result, Ok, Err, slice_get}
use Rattle.ipx_wire.specs.declared.address.Node.{Node}
use Rattle.spx_messages.specs.Arrives.{Arrives}
use Rattle.spx_messages.specs.Taking.{TakenView}
use Rattle.spx_messages.specs.declared.arrived.Arrived.{Arrived}
use Rattle.spx_messages.specs.declared.fault.EndFault.{EndFault}
use Rattle.spx_messages.specs.declared.fault.EndFault.TheVariants as EndFaults
use Rattle.spx_messages.specs.declared.message_fault.MessageFault.TheVariants as MessageFaults
use Rattle.spx_messages.specs.EndpointView.{Held, held_at}
use Rattle.spx_messages.specs.Polls.{Polls}
use Rattle.spx_theory.specs.Note.{Note}
use Rattle.spx_theory.specs.EndCalls.{RefusesAt}
use Rattle.spx_theory.specs.HostSteps.{ends_after, here_after}
use Rattle.ipx_net_hosts.specs.declared.refusal.Refusal.{Refusal}
use Rattle.ipx_net_hosts.specs.declared.refusal.Refusal.TheVariants as Refusals
use Rattle.spx_theory.specs.World.{EndNow, InOrder, ParcelView, HostState, World, end_at, home_at}

pub record HostsView : Type 0 where
  pub stations : List HostState
  pub ends : List EndNow

-- the world with these hosts and ends, these parcels and this log, at this time
abbrev pub world_of : HostsView → List ParcelView → List Note → ℕ → World
world_of v parcels log now =
    record { hosts = v.stations; ends = v.ends; parcels = parcels; log = log; moment = now }

-- for all parcels and every log, with these entries appended
abbrev pub Noting : HostsView → HostsView → ℕ → List Note → (World → World → Type 0) → Type 0
Noting old new now notes P = (parcels : List ParcelView) (log : List Note)
    → P (world_of old parcels log now) (world_of new parcels (log ++ notes) now)

-- hosts and ends that are consistent
abbrev pub FitTogether : HostsView → Type 0
FitTogether v = (parcels : List ParcelView) (log : List Note) (now : ℕ)
    → InOrder (world_of v parcels log now)

abbrev pub is_present_now : Option EndNow → Bool
is_present_now None = false
is_present_now (Some e) = not e.released

-- hosts keep their addresses, whatever is called and whatever is refused
abbrev pub SameHomes : HostsView → HostsView → Type 0
SameHomes old new = map home_at new.stations ≡ map home_at old.stations

-- for each end, in order, whether a message of it grew too long
abbrev pub marks_of : List EndNow → List Bool
marks_of ends = map (λ e. e.overlong) ends

-- the same marks, or one more: of a new end, of which no message grew too long
abbrev pub FollowsMarks : List Bool → List Bool → Type 0
FollowsMarks old new = (new ≡ old) ⊎ (new ≡ old ++ false ∷ [])

-- every end keeps its mark, and none is new. This holds for every call and every refusal, except a dial, a
-- delivery, and a take that answers that a message grew too long
abbrev pub KeepsMarks : HostsView → HostsView → Type 0
KeepsMarks old new = marks_of new.ends ≡ marks_of old.ends

-- the same, except that one end may be new. This holds for a dial and a delivery, whatever is refused
abbrev pub MayAddEnd : HostsView → HostsView → Type 0
MayAddEnd old new = FollowsMarks (marks_of old.ends) (marks_of new.ends)

-- there is such an end, and it is not released
abbrev pub is_present : HostsView → ℕ → Bool
is_present v who = is_present_now (slice_get v.ends who)

-- an end that is not released: its host, its id there, and what is held under that id
pub record StillPresent (v : HostsView) (who host id : ℕ) : Type 0 where
  pub end' : EndNow
  pub at : slice_get v.ends who ≡ Some end'
  pub stands : end'.released ≡ false
  pub host_is : end'.host ≡ host
  pub id_is : end'.id ≡ id
  pub station : HostState
  pub there : slice_get v.stations host ≡ Some station
  pub known : end_at station.here id ≡ Some who
  pub held : Held
  pub live : held_at station.endpoint id ≡ Some held

-- a host refused, and the world is unchanged
abbrev pub LeftAt : ℕ → HostsView → HostsView → ℕ → Type 0
LeftAt host old new now = (parcels : List ParcelView) (log : List Note)
    → RefusesAt (world_of old parcels log now) host (world_of new parcels log now)

-- the host of an end refused, and the world is unchanged
pub record LeftAs (who : ℕ) (old new : HostsView) (now : ℕ) : Type 0 where
  pub end' : EndNow
  pub at : slice_get old.ends who ≡ Some end'
  pub left : LeftAt end'.host old new now

-- a refusal by a host leaves the world unchanged. If out of memory, nothing is promised
abbrev pub LeftBy : Refusal → ℕ → HostsView → HostsView → ℕ → Type 0
LeftBy (Refusals.ByEnd f) host old new now = LeftAt host old new now
LeftBy Refusals.OutOfMemory host old new now = Unit {0}

-- a take was refused, but not as out of memory
abbrev pub is_lost : Result TakenView EndFault → Bool
is_lost (Ok t) = false
is_lost (Err (EndFaults.Message MessageFaults.OutOfMemory)) = false
is_lost (Err f) = true

-- a host was polled, and nothing else changed
pub record PolledAt (old : HostsView) (host now : ℕ) (result : Option (Node × ℕ))
    (room written : List ℕ) (new : HostsView) : Type 0 where
  pub before : HostState
  pub there : slice_get old.stations host ≡ Some before
  pub after : HostState
  pub polls : Polls before.endpoint now result room written after.endpoint
  pub here : after.here ≡ before.here
  pub stations : new.stations ≡ set old.stations host after
  pub ends : new.ends ≡ old.ends

-- a datagram was delivered to a host, and nothing else changed
pub record DeliveredAt (old : HostsView) (host : ℕ) (bytes : List ℕ) (now : ℕ) (answer : Arrived)
    (new : HostsView) : Type 0 where
  pub before : HostState
  pub there : slice_get old.stations host ≡ Some before
  pub after : HostState
  pub arrives : Arrives before.endpoint bytes now answer after.endpoint
  pub here : after.here ≡ here_after answer (length old.ends) before.here
  pub stations : new.stations ≡ set old.stations host after
  pub ends : new.ends ≡ ends_after answer host old.ends
