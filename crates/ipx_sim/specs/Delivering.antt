-- Which places a parcel reaches, which parcels were delivered, and how the others are delivered. Defined by
-- this project.
use Rattle.std.specs.Prelude.{ℕ, ◌≡◌, ◌≤◌, ◌+◌, ◌==◌, ◌&&◌, ◌||◌, Bool, true, false, not, nat_lt, if◌then◌else◌, MatchBool, List, length, slice_get, slice_index_or, Option, Some, None, Result, Ok, Err, IfOk}
use Rattle.std.specs.List.{range_with_len}
use Rattle.std.specs.Str.{bytes_eq}
use Rattle.ipx_wire.specs.Assigned.{broadcast_node}
use Rattle.spx_theory.specs.World.{AtHost, AtPort, ParcelView}
use Rattle.spx_theory.specs.World as Worlds
use Rattle.ipx_net.specs.AnswerView.{AnswerView}
use Rattle.ipx_net.specs.NetView.{NetView}
use Rattle.ipx_net.specs.declared.event.Event.TheVariants as Events
use Rattle.ipx_net.specs.declared.place.Place.{Place}
use Rattle.ipx_net.specs.declared.place.Place.TheVariants as Places
use Rattle.ipx_net.specs.declared.fault.NetFault.{NetFault}
use Rattle.ipx_sim.specs.ScriptDoing.{DoesEach, DoesNothing, TakesEvent}
use Rattle.ipx_sim.specs.declared.names.ScriptTarget.{ScriptTarget}
use Rattle.ipx_sim.specs.declared.delivering.Delivered.{Delivered}
use Rattle.ipx_sim.specs.declared.stop.LineFault.{LineFault}
use Rattle.ipx_sim.specs.declared.stop.LineFault.TheVariants as Stops

abbrev pub is_sender : Option Worlds.Place → Place → Bool
is_sender None place = false
is_sender (Some (AtHost a)) (Places.Host b) = a == b
is_sender (Some (AtHost a)) (Places.Port router port) = false
is_sender (Some (AtPort router port)) (Places.Host b) = false
is_sender (Some (AtPort router port)) (Places.Port r p) = (router == r) && (port == p)

-- whether a parcel reaches a place of its network: that of its next node, or, for a broadcast, each except
-- its sender's
abbrev pub comes_to : ParcelView → ScriptTarget → Bool
comes_to p spot =
    (p.segment.0 == spot.network.0)
    && (if bytes_eq p.next.0 broadcast_node then not (is_sender p.sent_by spot.place)
    else bytes_eq p.next.0 spot.node.0)

abbrev pub comes_from : Option ParcelView → ScriptTarget → Bool
comes_from None spot = false
comes_from (Some p) spot = comes_to p spot

-- whether the parcel with this number reaches a place
abbrev pub is_due_parcel : NetView → ℕ → ScriptTarget → Bool
is_due_parcel n parcel spot = comes_from (slice_get n.now.world.parcels parcel) spot

abbrev pub reached_of : Result AnswerView NetFault → Result Bool LineFault
reached_of (Ok a) = Ok true
reached_of (Err f) = Err (Stops.Fault f)

-- it is delivered if it reaches the place
abbrev pub DeliversParcelTo : ℕ → ScriptTarget → NetView → Result Bool LineFault → NetView → Type 0
DeliversParcelTo parcel spot old result new =
    MatchBool (is_due_parcel old parcel spot)
    (TakesEvent reached_of (Events.Deliver parcel spot.place) old result new)
    (DoesNothing old result new)

-- which parcels count as delivered: all below a number, and those that are marked
pub record DeliveredView : Type 0 where
  pub below : ℕ
  pub marks : List Bool

abbrev pub delivered_view : Delivered → DeliveredView
delivered_view d = record { below = d.below; marks = d.marks.items }

abbrev pub is_delivered : DeliveredView → ℕ → Bool
is_delivered d parcel = slice_index_or d.marks parcel false

abbrev pub was_delivered : DeliveredView → ℕ → Bool
was_delivered d parcel = nat_lt parcel d.below || is_delivered d parcel

-- this parcel is now delivered too, and no other one
pub record Marks (parcel : ℕ) (old new : DeliveredView) : Type 0 where
  pub below : new.below ≡ old.below
  pub marked : (k : ℕ) → was_delivered new k ≡ (was_delivered old k || (k == parcel))

-- to each place that it reaches, if it was never delivered
abbrev pub DeliversNew : DeliveredView → List ScriptTarget → ℕ
    → NetView → Result Bool LineFault → NetView → Type 0
DeliversNew d spots parcel old result new =
    MatchBool (is_delivered d parcel) (DoesNothing old result new)
    (DoesEach (DeliversParcelTo parcel) spots old result new)

-- a network, and which of its parcels were delivered
pub record Stage : Type 0 where
  pub net : NetView
  pub delivered : DeliveredView

-- all parcels from that number on, in order, including those that are made meanwhile: none is left, and all
-- count as delivered
abbrev pub DeliversAll : List ScriptTarget → Stage → Result Bool LineFault → Stage → Type 0
DeliversAll spots old result new =
    (count : ℕ)
    × DoesEach (DeliversNew old.delivered spots) (range_with_len old.delivered.below count)
    old.net result new.net
    × (new.delivered.marks ≡ old.delivered.marks)
    × IfOk result (λ any. (new.delivered.below ≡ old.delivered.below + count)
    × (length new.net.now.world.parcels ≤ new.delivered.below))
