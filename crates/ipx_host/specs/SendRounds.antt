-- The rounds of a sending host, one after another. In each round the host takes a turn, what it received is
-- dropped, and the link is fed. The entry points are `Transfers`, of a run that ended well, and `EndsWith`,
-- of any outcome. Nothing here is from a public standard.
use Rattle.std.specs.Prelude.{◌≡◌, ◌≤◌, ◌^◌, ◌-◌, ℕ, Bool, true, List, [], ◌∷◌, length, Option, Some, None, Result, Err}
use Rattle.std.specs.Io.KnownBytes.{Consumes}
use Rattle.std.specs.List.{All, concat}
use Rattle.ipx_carrier.specs.Turns.{Peers, Turn}
use Rattle.spx_link.specs.declared.state.State.{State}
use Rattle.spx_messages.specs.EndpointView.{held_at}
use Rattle.ipx_host.specs.Books.{EntersAcknowledged}
use Rattle.ipx_host.specs.Feeding.{FeedState, feed_state}
use Rattle.ipx_host.specs.SendSteps.{FeedsOn, GoesOnOrEnds, IsStepFault, SeenSoFar, Sees}
use Rattle.ipx_host.specs.Transfer.{IsWholeAt}
use Rattle.ipx_host.specs.Turning.{TakesHostTurn}
use Rattle.ipx_host.specs.declared.paced_host_core.PacedHostCore.{PacedHostCore}
use Rattle.ipx_host.specs.declared.acked_bytes.Ledger.{Ledger}
use Rattle.ipx_host.specs.declared.running_host.Activity.{Activity}
use Rattle.ipx_host.specs.declared.send_outcome.SendOutcome.{SendOutcome}
use Rattle.ipx_host.specs.declared.send_outcome.SendOutcome.TheVariants.{Done, GivenUp}

-- the state of a run: its clock and its core, what is noted of the connection, whether everything is read,
-- whether the end is queued, what is counted, and what the reader has left, if known
pub record SendState (K : Type 0) : Type 0 where
  pub around : K
  pub core : PacedHostCore
  pub noted : SeenSoFar
  pub read : Bool
  pub closed : Bool
  pub acked_bytes : Ledger
  pub known : Option (List ℕ)

abbrev pub place : {K : Type 0} → K → PacedHostCore → SeenSoFar → Bool → Bool → Ledger → Option (List ℕ) → SendState K
place around core noted read closed acked_bytes known = record {
  around = around;
  core = core;
  noted = noted;
  read = read;
  closed = closed;
  acked_bytes = acked_bytes;
  known = known;
}

abbrev pub feeding_of : {K : Type 0} → SendState K → FeedState
feeding_of p = feed_state p.core.endpoint p.read p.closed p.acked_bytes p.known

-- one step, and its result. A turn leaves a core, whose connection is noted and judged, and the transfer ends
-- or continues. Nothing else of the core changes. Whether the host waits then depends on what the turn did
pub record IsSendStep {K T : Type 0} (faults : Option State → SendOutcome → Type 0) (waits : Activity → Type 0)
    (old new : SendState K)
    (answer : Result T SendOutcome) (drives : K → Turn → K → Type 0) (peers : Peers) (id : ℕ) : Type 0 where
  pub seen : PacedHostCore
  pub turn : Activity
  pub turned : TakesHostTurn old.around new.around drives peers old.core seen turn
  pub verdict : Option SendOutcome
  pub sees : Sees old.noted new.noted seen.endpoint seen.moment id old.closed verdict
  pub goes : GoesOnOrEnds faults id seen.endpoint (feeding_of old) (feeding_of new) verdict answer
  pub waited : waits turn
  pub core : new.core ≡ record seen { endpoint = new.core.endpoint }

-- one round: a step without an outcome, which feeds these bytes
pub record Round {K : Type 0} (old new : SendState K) (bytes : List ℕ) (drives : K → Turn → K → Type 0)
    (peers : Peers) (id : ℕ) : Type 0 where
  pub seen : PacedHostCore
  pub turn : Activity
  pub turned : TakesHostTurn old.around new.around drives peers old.core seen turn
  pub sees : Sees old.noted new.noted seen.endpoint seen.moment id old.closed None
  pub fed : FeedsOn id seen.endpoint (feeding_of old) (feeding_of new) bytes
  pub core : new.core ≡ record seen { endpoint = new.core.endpoint }

-- the last round is only a turn, after which everything is done
pub record LastRound {K : Type 0} (old new : SendState K) (drives : K → Turn → K → Type 0) (peers : Peers)
    (id : ℕ) : Type 0 where
  pub turn : Activity
  pub turned : TakesHostTurn old.around new.around drives peers old.core new.core turn
  pub sees : Sees old.noted new.noted new.core.endpoint new.core.moment id old.closed (Some Done)
  pub follows : EntersAcknowledged (held_at new.core.endpoint id) old.acked_bytes new.acked_bytes
  pub read : new.read ≡ old.read
  pub closed : new.closed ≡ old.closed
  pub known : new.known ≡ old.known

-- one round after another, which feed these bytes in order
abbrev pub Rounds : {K : Type 0} → SendState K → List (List ℕ) → SendState K → (K → Turn → K → Type 0) → Peers → ℕ → Type 0
Rounds old [] new drives peers id = new ≡ old
Rounds {K} old (bytes ∷ more) new drives peers id = (next : SendState K)
    × Round old next bytes drives peers id × Rounds next more new drives peers id

-- the same rounds, followed by a last round
abbrev pub RunsOut : {K : Type 0} → SendState K → List (List ℕ) → SendState K → (K → Turn → K → Type 0) → Peers → ℕ → Type 0
RunsOut {K} old bodies new drives peers id = (last : SendState K)
    × Rounds old bodies last drives peers id × LastRound last new drives peers id

-- a transfer that ended well. The bytes that left the reader were fed, one body after another, each of at
-- most 65,535 bytes. Everything is read, the end is queued, and the peer has acknowledged everything, and
-- that end too
pub record Transfers {K : Type 0} (old new : SendState K) (drives : K → Turn → K → Type 0) (peers : Peers)
    (id : ℕ) : Type 0 where
  pub bodies : List (List ℕ)
  pub runs : RunsOut old bodies new drives peers id
  pub short : All (λ b. length b ≤ 65535) bodies
  pub fed : Consumes old.known new.known (concat bodies)
  pub read : new.read ≡ true
  pub closed : new.closed ≡ true
  pub whole : IsWholeAt new.core.endpoint id

-- a transfer that a step ended with an outcome, after some rounds
pub record EndsWith {K : Type 0} (old new : SendState K) (verdict : SendOutcome) (drives : K → Turn → K → Type 0)
    (peers : Peers) (id : ℕ) : Type 0 where
  pub bodies : List (List ℕ)
  pub last : SendState K
  pub rounds : Rounds old bodies last drives peers id
  pub step : IsSendStep {T = Unit {0}} IsStepFault (λ turn. Unit {0}) last new (Err verdict) drives peers id

-- a transfer that did not end in 2^64 - 1 rounds, and is given up
pub record LastsOn {K : Type 0} (old new : SendState K) (verdict : SendOutcome) (drives : K → Turn → K → Type 0)
    (peers : Peers) (id : ℕ) : Type 0 where
  pub bodies : List (List ℕ)
  pub rounds : Rounds old bodies new drives peers id
  pub count : length bodies ≡ 2 ^ 64 - 1
  pub given_up : verdict ≡ GivenUp
