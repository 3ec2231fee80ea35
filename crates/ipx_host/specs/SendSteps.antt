-- One step of a sending host: what it notes, what follows from that, and what it feeds then. Nothing here is
-- from a public standard.
use Rattle.std.specs.Prelude.{◌≡◌, ◌≢◌, ◌↔◌, ◌⊎◌, ℕ, Bool, IsTrue, List, Option, Some, None, Result, Err, IfErr, OnOk}
use Rattle.std.specs.Option.{option_map}
use Rattle.spx_link.specs.declared.state.State.{State}
use Rattle.spx_link.specs.declared.state.State.TheVariants.{Live}
use Rattle.spx_messages.specs.EndpointView.{EndpointView, held_at}
use Rattle.ipx_host.specs.Books.{EntersAcknowledged}
use Rattle.ipx_host.specs.Dropping.{DropsCame}
use Rattle.ipx_host.specs.Feeding.{Feeds, FeedState, LeavesIntake}
use Rattle.ipx_host.specs.Transfer.{IsWaiting, IsWholeAt, ended_at, joined_at, left_at, state_at, verdict_at}
use Rattle.ipx_host.specs.declared.acked_bytes.Ledger.{Ledger}
use Rattle.ipx_host.specs.declared.send_outcome.SendOutcome.{SendOutcome}
use Rattle.ipx_host.specs.declared.send_outcome.SendOutcome.TheVariants as Verdicts

-- what is noted of a connection: whether it was ever open, and when its peer's end was seen
pub record SeenSoFar : Type 0 where
  pub joined : Bool
  pub left : Option ℕ

abbrev pub noted : Bool → Option ℕ → SeenSoFar
noted joined left = record { joined = joined; left = left }

-- the endpoint was seen at this time, and its state is noted and judged
pub record Sees (old new : SeenSoFar) (seen : EndpointView) (moment id : ℕ) (closed : Bool)
    (verdict : Option SendOutcome) : Type 0 where
  pub joined : new.joined ≡ joined_at old.joined (state_at seen id)
  pub left : new.left ≡ left_at old.left (state_at seen id) moment
  pub whole : Bool
  pub all : IsTrue whole ↔ IsWholeAt seen id
  pub waits : Bool
  pub waiting : IsTrue waits ↔ IsWaiting closed new.left moment
  pub tells : verdict
      ≡ option_map (ended_at closed) (verdict_at whole new.joined waits (state_at seen id))

-- the units that the seen link acknowledges are counted, and what was received is dropped. Then the link is
-- fed these bytes if it was Live, and nothing otherwise
pub record FeedsOn (id : ℕ) (seen : EndpointView) (old new : FeedState) (bytes : List ℕ) : Type 0 where
  pub acked_bytes : Ledger
  pub follows : EntersAcknowledged (held_at seen id) old.acked_bytes acked_bytes
  pub dropped : EndpointView
  pub drops : DropsCame seen dropped id
  pub feeds : Feeds (record old { endpoint = dropped; acked_bytes = acked_bytes }) new id bytes
  pub only : state_at seen id ≢ Some Live
      → LeavesIntake (record old { endpoint = dropped; acked_bytes = acked_bytes }) new bytes

-- the units that the seen link acknowledges are counted, and nothing is dropped or fed
pub record FeedsNothing (id : ℕ) (seen : EndpointView) (old new : FeedState) : Type 0 where
  pub follows : EntersAcknowledged (held_at seen id) old.acked_bytes new.acked_bytes
  pub is : new ≡ record old { endpoint = seen; acked_bytes = new.acked_bytes }

-- an outcome ends the transfer, and nothing is fed. Without an outcome the transfer continues, unless one of
-- these faults occurs
abbrev pub GoesOnOrEnds : {T : Type 0} → (Option State → SendOutcome → Type 0) → ℕ → EndpointView → FeedState → FeedState → Option SendOutcome → Result T SendOutcome → Type 0
GoesOnOrEnds faults id seen old new (Some v) answer = (answer ≡ Err v) × FeedsNothing id seen old new
GoesOnOrEnds faults id seen old new None answer = IfErr answer (faults (state_at seen id))
    × OnOk answer ((bytes : List ℕ) × FeedsOn id seen old new bytes)

-- the faults of reading and queueing
abbrev pub IsReadFault : SendOutcome → Type 0
IsReadFault v = (v ≡ Verdicts.Unread) ⊎ (v ≡ Verdicts.OutOfMemory)

-- these faults occur only if the link was seen Live
abbrev pub IsFeedFault : Option State → SendOutcome → Type 0
IsFeedFault state v = (state ≡ Some Live) × IsReadFault v

-- the fault of waiting
abbrev pub IsStepFault : Option State → SendOutcome → Type 0
IsStepFault state v = IsFeedFault state v ⊎ (v ≡ Verdicts.Unwaited)
