-- A delivery to a host, a poll of a host and a take leave a world in order.
use Rattle.std.proofs.Common.{◌≡◌, ℕ, false, List, set, Option, Some, None, refl, sym, ◌∙◌, inl, inr, ap, subst, arith}
use Rattle.std.specs.Prelude.{Result, slice_get}
use Rattle.std.proofs.lemmas.Bool.{cases_eq, cases_lt}
use Rattle.ipx_wire.specs.declared.address.Node.{Node}
use Rattle.spx_link.specs.declared.received.Received.{Received}
use Rattle.spx_link.specs.Offer.{accepted_from}
use Rattle.spx_messages.specs.Changes.{SameBut, ChangesEnd}
use Rattle.spx_messages.specs.EndpointView.{Held, EndpointView, held_at}
use Rattle.spx_messages.specs.declared.arrived.Arrived.{Arrived}
use Rattle.spx_messages.specs.Arrives.{IsAccepted}
use Rattle.spx_messages.specs.Polls.{RestsAt, polled_held, GivesNothing, Polls}
use Rattle.spx_messages.specs.declared.fault.EndFault.{EndFault}
use Rattle.spx_messages.specs.Taking.{TakenView, take_end}
use Rattle.spx_theory.specs.World.{World, HostState, InOrder}
use Rattle.spx_theory.specs.HostSteps.{Delivers, PollsHost, TakesOf, marked_over}
use Rattle.spx_theory.proofs.StillPresent.{none_held}
use Rattle.spx_theory.proofs.Keeping.{SameIds, SameEnds, same_ends, set_ends, ids_kept, id_comes, cases_option}
use Rattle.spx_theory.proofs.WorldTakes.{marked_host, marked_id, marked_holds}
use Rattle.spx_messages.specs.declared.arrived.Arrived.TheVariants as Arriveds
use Rattle.spx_messages.specs.Polls as Polled

pub ids_changed : (old new : EndpointView) (id : ℕ) (h after : Held) → held_at old id ≡ Some h → ChangesEnd old new id after → SameIds old new
ids_changed old new id h after was c =
    record {
      on = λ q x is. elim (cases_eq q id) [ inl own ↦ (after, ap (held_at new) own ∙ c.held) | inr other ↦ (x, c.others q other ∙ is) ];
      back = λ q x is. elim (cases_eq q id) [ inl own ↦ (h, ap (held_at old) own ∙ was) | inr other ↦ (x, sym (c.others q other) ∙ is) ];
    }

ids_same : (old new : EndpointView) → SameBut old new → SameIds old new
ids_same old new same = record { on = λ q x is. (x, same.held q ∙ is); back = λ q x is. (x, sym (same.held q) ∙ is) }

-- ---- a delivery

pub left_kept : (old new : World) (host : ℕ) (s s' : HostState) → InOrder old → slice_get old.hosts host ≡ Some s → new.hosts ≡ set old.hosts host s' → SameBut s.endpoint s'.endpoint
    → s'.here ≡ s.here → new.ends ≡ old.ends → InOrder new
left_kept old new host s s' o there hosts same here ends = ids_kept old new o host s s' there hosts same.self here (ids_same s.endpoint s'.endpoint same) (same_ends old.ends new.ends ends)

accepted_kept : (old new : World) (parcel host id : ℕ) → InOrder old → (d : Delivers old parcel host (Arriveds.Accepted id) new) → IsAccepted d.before.endpoint d.letter.bytes old.moment id d.after.endpoint → InOrder new
accepted_kept old new parcel host id o d a =
    id_comes old new o host d.before d.after d.there d.hosts a.adds.self id (record { host = host; id = id; released = false; overlong = false }) refl refl refl
    (none_held d.before.endpoint id a.free.free)
    (record { link = accepted_from id a.packet.header.to.socket a.packet.header.from a.header a.buffers old.moment; rest = None }) a.adds.held a.adds.others d.here d.ends

link_kept : (old new : World) (parcel host id : ℕ) (r : Received) → InOrder old → (d : Delivers old parcel host (Arriveds.Link id r) new) (h after : Held)
    → held_at d.before.endpoint id ≡ Some h → ChangesEnd d.before.endpoint d.after.endpoint id after → InOrder new
link_kept old new parcel host id r o d h after was c =
    ids_kept old new o host d.before d.after d.there d.hosts c.self d.here (ids_changed d.before.endpoint d.after.endpoint id h after was c) (same_ends old.ends new.ends d.ends)

pub delivers_kept : (old new : World) (parcel host : ℕ) (answer : Arrived) → InOrder old → Delivers old parcel host answer new → InOrder new
delivers_kept old new parcel host (Arriveds.Bad f) o d = left_kept old new host d.before d.after o d.there d.hosts d.arrives.answers.1.same d.here d.ends
delivers_kept old new parcel host Arriveds.NotOurs o d = left_kept old new host d.before d.after o d.there d.hosts d.arrives.answers.1.same d.here d.ends
delivers_kept old new parcel host (Arriveds.BadSpx f) o d = left_kept old new host d.before d.after o d.there d.hosts d.arrives.answers.1.same d.here d.ends
delivers_kept old new parcel host Arriveds.NoListener o d = left_kept old new host d.before d.after o d.there d.hosts d.arrives.answers.1.same d.here d.ends
delivers_kept old new parcel host Arriveds.NoRoom o d = left_kept old new host d.before d.after o d.there d.hosts d.arrives.answers.1.same d.here d.ends
delivers_kept old new parcel host Arriveds.Stranger o d = left_kept old new host d.before d.after o d.there d.hosts d.arrives.answers.1.same d.here d.ends
delivers_kept old new parcel host (Arriveds.Accepted id) o d = accepted_kept old new parcel host id o d d.arrives.answers
delivers_kept old new parcel host (Arriveds.Link id r) o d = elim d.arrives.answers [
  | inl again ↦ link_kept old new parcel host id r o d again.0.held _ again.0.at again.0.changes
  | inr read ↦ link_kept old new parcel host id r o d read.held _ read.at read.changes
]

-- ---- a poll

rests_on : (old new : EndpointView) (now q : ℕ) (h : Held) → RestsAt old new now q → held_at old q ≡ Some h → (h' : Held) × (held_at new q ≡ Some h')
rests_on old new now q h r is = (polled_held h now, (r.asked h is).1)

rests_back : (old new : EndpointView) (now q : ℕ) (h' : Held) → RestsAt old new now q → held_at new q ≡ Some h' → (h : Held) × (held_at old q ≡ Some h)
rests_back old new now q h' r is = elim (cases_option (held_at old q)) [
  | inl none ↦ absurd (cc (sym (r.none none) ∙ is))
  | inr some ↦ some
]

ids_polled : (old new : EndpointView) (now : ℕ) (result : Option (Node × ℕ)) (room written : List ℕ) → Polls old now result room written new → SameIds old new
ids_polled old new now None room written p =
    let g : GivesNothing old now room written new = p.gives in
    record { on = λ q h is. rests_on old new now q h (g.each q) is; back = λ q h is. rests_back old new now q h (g.each q) is }
ids_polled old new now (Some r) room written p =
    let g : Polled.FirstLinkGives old now r.0 r.1 room written new = p.gives in
    record {
      on = λ q h is. elim (cases_lt q g.id) [
        | inl below ↦ rests_on old new now q h (g.below q below) is
        | inr not_below ↦ elim (cases_eq q g.id) [
          | inl own ↦ (polled_held g.held now, ap (held_at new) own ∙ g.becomes)
          | inr apart ↦ (h, g.above q (omega (arith, not_below, apart)) ∙ is)
        ]
      ];
      back = λ q h is. elim (cases_lt q g.id) [
        | inl below ↦ rests_back old new now q h (g.below q below) is
        | inr not_below ↦ elim (cases_eq q g.id) [
          | inl own ↦ (g.held, ap (held_at old) own ∙ g.at)
          | inr apart ↦ (h, sym (g.above q (omega (arith, not_below, apart))) ∙ is)
        ]
      ];
    }

pub polls_kept : (old new : World) (host : ℕ) (result : Option (Node × ℕ)) → InOrder old → PollsHost old host result new → InOrder new
polls_kept old new host result o d =
    ids_kept old new o host d.before d.after d.there d.hosts d.polls.self d.here (ids_polled d.before.endpoint d.after.endpoint old.moment result d.room d.written d.polls) (same_ends old.ends new.ends d.ends)

-- ---- a take

pub takes_kept : (old new : World) (who : ℕ) (answer : Result TakenView EndFault) → InOrder old → TakesOf old who answer new → InOrder new
takes_kept old new who answer o t =
    ids_kept old new o t.end'.host t.before t.after t.there t.hosts t.changes.self t.here
    (ids_changed t.before.endpoint t.after.endpoint t.end'.id t.held (take_end t.held).1 t.holds t.changes)
    (subst (SameEnds old.ends) (sym t.ends)
    (set_ends old.ends who t.end' (marked_over answer t.end') t.at (record { host = marked_host answer t.end'; id = marked_id answer t.end'; released = marked_holds answer t.end' })))
