-- The buffers of every end are in range.
use Rattle.std.proofs.Common.{ℕ, zero, suc, ◌≤◌, ◌≡◌, true, List, [], ◌∷◌, ◌++◌, length, refl, sym, ap, subst, inl, inr, arith}
use Rattle.std.specs.Prelude.{slice_index_or}
use Rattle.std.proofs.lemmas.Bool.{cond_both}
use Rattle.spx_link.specs.declared.outgoing.Sent.{Sent}
use Rattle.spx_link.specs.declared.received.Received.{Received}
use Rattle.spx_link.specs.Limits.{most_units}
use Rattle.spx_link.specs.Receive.{receive_link}
use Rattle.spx_messages.specs.Message.{MessageView}
use Rattle.spx_theory.specs.Note.{Note, Opened, Accepted, Joined, HandsIn, HandsOut, TakesUnit, AsksEnd, Got, Released, SendsUnit, SendsAgain, SendsSystem, Told, Carried, Injected}
use Rattle.spx_theory.specs.Scan.{Each, Scan, Role, Maker, seen, seen_all, scan, unread, role_of, mark_of, joined_by, asker, no_role}
use Rattle.spx_theory.specs.Scene.{Scene}
use Rattle.spx_theory.specs.Deeds.{Deed, DoesDeed, Dials, Accepts, Reads, OwesReply, Paces, AsksAgain, Gives, Rests, Sends, Takes, Overruns, Closes, Releases, Carries, Tells, Injects, Reached, begun, happened}
use Rattle.spx_theory.specs.PacketsOnWay.{note_of, notes_of, out_notes}
use Rattle.spx_theory.proofs.Lists.{get_last, get_set}
use Rattle.spx_theory.proofs.Folding.{seen_all-append}
use Rattle.spx_link.specs.declared.outgoing.Sent.TheVariants as Sents
use Rattle.spx_link.specs.declared.received.Received.TheVariants as R
use Rattle.spx_theory.proofs.Fields.{log_of}

abbrev pub InRange : Role → Type 0
InRange r = r.buffers ≤ most_units

abbrev pub Ranged : Note → Type 0
Ranged (Opened who host buffers) = buffers ≤ most_units
Ranged (Accepted who parcel buffers) = buffers ≤ most_units
Ranged n = Unit {0}

abbrev pub AllRanged : List Note → Type 0
AllRanged [] = Unit {0}
AllRanged (n ∷ ns) = Ranged n × AllRanged ns

index_ranged : (rs : List Role) (k : ℕ) → Each InRange rs → InRange (slice_index_or rs k no_role)
index_ranged [] k e = omega arith
index_ranged (r ∷ rs) zero e = e 0 r refl
index_ranged (r ∷ rs) (suc k) e = index_ranged rs k (λ j x at. e (suc j) x at)

joins_ranged : (m : Maker) (r : Role) → InRange r → InRange (joined_by m r)
joins_ranged m r e = cond_both r.joined r (record r { joined = true; partner = asker m }) InRange (λ y. e) (λ n. e)

one_ranged : (s : Scan) (n : Note) → Ranged n → Each InRange s.roles → Each InRange (seen s n).roles
one_ranged s (Opened who host buffers) range e = λ k r at. elim (get_last s.roles _ r k at) [ inl was ↦ e k r was | inr new ↦ subst InRange new.1 range ]
one_ranged s (Accepted who parcel buffers) range e = λ k r at. elim (get_last s.roles _ r k at) [ inl was ↦ e k r was | inr new ↦ subst InRange new.1 range ]
one_ranged s (Joined who parcel) range e = λ k r at.
    elim (get_set s.roles who k _ r at) [ inl here ↦ subst InRange here.1 (joins_ranged (mark_of s parcel).maker (role_of s who) (index_ranged s.roles who e)) | inr other ↦ e k r other.1 ]
one_ranged s (HandsIn who m) range e = e
one_ranged s (HandsOut who m) range e = e
one_ranged s (TakesUnit who u) range e = e
one_ranged s (AsksEnd who) range e = e
one_ranged s (Got who parcel) range e = e
one_ranged s (Released who) range e = e
one_ranged s (SendsUnit who parcel) range e = e
one_ranged s (SendsAgain who parcel) range e = e
one_ranged s (SendsSystem who parcel) range e = e
one_ranged s (Told router parcel) range e = e
one_ranged s (Carried from parcel) range e = e
one_ranged s (Injected parcel) range e = e

all_ranged : (s : Scan) (ns : List Note) → AllRanged ns → Each InRange s.roles → Each InRange (seen_all s ns).roles
all_ranged s [] range e = e
all_ranged s (n ∷ ns) range e = all_ranged (seen s n) ns range.1 (one_ranged s n range.0 e)

given_ranged : (what : Sent) (who k : ℕ) → Ranged (note_of what who k)
given_ranged Sents.Request who k = tt
given_ranged Sents.Reply who k = tt
given_ranged Sents.Confirm who k = tt
given_ranged Sents.Unit who k = tt
given_ranged Sents.Again who k = tt
given_ranged Sents.Ack who k = tt
given_ranged Sents.Probe who k = tt

read_ranged : (r : Received) (who k : ℕ) → AllRanged (notes_of r who k)
read_ranged R.Joined who k = (tt, (tt, tt))
read_ranged R.Kept who k = (tt, tt)
read_ranged R.Repeat who k = (tt, tt)
read_ranged R.Ahead who k = (tt, tt)
read_ranged R.OverAllocation who k = (tt, tt)
read_ranged R.System who k = (tt, tt)
read_ranged R.PeerEnded who k = (tt, tt)
read_ranged R.Confirmed who k = (tt, tt)
read_ranged R.Stranger who k = tt

outs_ranged : (who : ℕ) (ms : List MessageView) → AllRanged (out_notes who ms)
outs_ranged who [] = tt
outs_ranged who (m ∷ ms) = (tt, outs_ranged who ms)

abbrev pub RolesRanged : List Note → Type 0
RolesRanged log = Each InRange (scan log).roles

grown : (log ns log' : List Note) → log' ≡ log ++ ns → AllRanged ns → RolesRanged log → RolesRanged log'
grown log ns log' is range e = subst RolesRanged (sym is) (subst (λ (t : Scan). Each InRange t.roles) (sym (seen_all-append unread log ns)) (all_ranged (scan log) ns range e))

same : (log log' : List Note) → log' ≡ log → RolesRanged log → RolesRanged log'
same log log' is e = subst RolesRanged (sym is) e

next_ranged : (s s' : Scene) (deed : Deed) → DoesDeed deed s s' → RolesRanged s.log → RolesRanged s'.log
next_ranged s s' (Dials host id socket to buffers now) does e = grown s.log (Opened (length s.ends) host buffers ∷ []) s'.log (ap log_of does.after) (does.range.1, tt) e
next_ranged s s' (Accepts host id socket parcel buffers now) does e = grown s.log (Accepted (length s.ends) parcel buffers ∷ Got (length s.ends) parcel ∷ []) s'.log (ap log_of does.after) (does.range.1, (tt, tt)) e
next_ranged s s' (Reads who parcel) does e = grown s.log (notes_of (receive_link does.link does.header does.body).0 who parcel) s'.log (ap log_of does.after) (read_ranged (receive_link does.link does.header does.body).0 who parcel) e
next_ranged s s' (OwesReply who) does e = same s.log s'.log (ap log_of does.after) e
next_ranged s s' (Paces who window manual) does e = same s.log s'.log (ap log_of does.after) e
next_ranged s s' (AsksAgain who place) does e = same s.log s'.log (ap log_of does.after) e
next_ranged s s' (Gives who now segment bytes) does e = grown s.log (note_of does.given.what who (length s.parcels) ∷ []) s'.log (ap log_of does.after) (given_ranged does.given.what who (length s.parcels), tt) e
next_ranged s s' (Rests who now) does e = same s.log s'.log (ap log_of does.after) e
next_ranged s s' (Sends who m) does e = grown s.log (HandsIn who m ∷ []) s'.log (ap log_of does.after) (tt, tt) e
next_ranged s s' (Takes who u) does e = grown s.log (TakesUnit who u ∷ out_notes who does.joins.messages) s'.log (ap log_of does.after) (tt, outs_ranged who does.joins.messages) e
next_ranged s s' (Overruns who u) does e = same s.log s'.log (ap log_of does.after) e
next_ranged s s' (Closes who) does e = grown s.log (AsksEnd who ∷ []) s'.log (ap log_of does.after) (tt, tt) e
next_ranged s s' (Releases who) does e = grown s.log (Released who ∷ []) s'.log (ap log_of does.after) (tt, tt) e
next_ranged s s' (Carries from network segment bytes) does e = grown s.log (Carried from (length s.parcels) ∷ []) s'.log (ap log_of does.after) (tt, tt) e
next_ranged s s' (Tells router segment bytes) does e = grown s.log (Told router (length s.parcels) ∷ []) s'.log (ap log_of does.after) (tt, tt) e
next_ranged s s' (Injects segment bytes) does e = grown s.log (Injected (length s.parcels) ∷ []) s'.log (ap log_of does) (tt, tt) e

pub roles_ranged : {s : Scene} → Reached s → RolesRanged s.log
roles_ranged {s} (begun is) = subst RolesRanged (sym is.log) (λ k r at. absurd (cc at))
roles_ranged {s} (happened old deed reached does) = next_ranged old s deed does (roles_ranged reached)

pub in_range : {s : Scene} → Reached s → (k : ℕ) → (role_of (scan s.log) k).buffers ≤ most_units
in_range {s} reached k = index_ranged (scan s.log).roles k (roles_ranged reached)
