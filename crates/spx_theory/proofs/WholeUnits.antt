-- All units of an end, joined, are the messages that it handed in.
use Rattle.std.proofs.Common.{◌≡◌, ◌+◌, ◌<◌, ◌==◌, ℕ, zero, suc, Bool, true, false, cond, List, [], ◌∷◌, ◌++◌, length, Option, Some, None, refl, sym, ◌∙◌, ap, arith}
use Rattle.std.specs.Prelude.{slice_get}
use Rattle.std.proofs.lemmas.List.{append-nil, append_assoc}
use Rattle.spx_link.specs.declared.unit.Unit.{Unit}
use Rattle.spx_link.specs.LinkView.{is_end}
use Rattle.spx_link.specs.Offer.{the_end}
use Rattle.spx_messages.specs.Message.{MessageView}
use Rattle.spx_messages.specs.Joining.{Joining, added, join_unit, join_all, joined}
use Rattle.spx_messages.specs.Cut.{cut_of}
use Rattle.spx_theory.specs.Note.{Note, Opened, Accepted, Joined, HandsIn, HandsOut, TakesUnit, AsksEnd, Got, Released, SendsUnit, SendsAgain, SendsSystem, Told, Carried, Injected}
use Rattle.spx_theory.specs.Handed.{in_by, units_by, taken_by, handed_in, units_of, taken_of}
use Rattle.spx_theory.proofs.Joining.{cut_join, join_all-append}
use Rattle.spx_theory.proofs.Telling.{NoteOk, AreOk}

-- no partial message
abbrev pub with_none : List MessageView → Joining
with_none ms = record { messages = ms; rest = None }

handed_joins : (b : Bool) (m : MessageView) (ms : List MessageView) → m.stream < 254 → join_all (with_none ms) (cond b (cut_of m) []) ≡ with_none (ms ++ cond b (m ∷ []) [])
handed_joins true m ms low = cut_join ms m low
handed_joins false m ms low = ap with_none (sym (append-nil ms))

end_joins : (b : Bool) (ms : List MessageView) → join_all (with_none ms) (cond b (the_end ∷ []) []) ≡ with_none (ms ++ [])
end_joins true ms = ap with_none (sym (append-nil ms))
end_joins false ms = ap with_none (sym (append-nil ms))

note_joins : (e : ℕ) (n : Note) (ms : List MessageView) → NoteOk n → join_all (with_none ms) (units_by e n) ≡ with_none (ms ++ in_by e n)
note_joins e (HandsIn who m) ms ok = handed_joins (who == e) m ms ok.stream
note_joins e (AsksEnd who) ms ok = end_joins (who == e) ms
note_joins e (Opened who host buffers) ms ok = ap with_none (sym (append-nil ms))
note_joins e (Accepted who parcel buffers) ms ok = ap with_none (sym (append-nil ms))
note_joins e (Joined who parcel) ms ok = ap with_none (sym (append-nil ms))
note_joins e (HandsOut who m) ms ok = ap with_none (sym (append-nil ms))
note_joins e (TakesUnit who u) ms ok = ap with_none (sym (append-nil ms))
note_joins e (Got who parcel) ms ok = ap with_none (sym (append-nil ms))
note_joins e (Released who) ms ok = ap with_none (sym (append-nil ms))
note_joins e (SendsUnit who parcel) ms ok = ap with_none (sym (append-nil ms))
note_joins e (SendsAgain who parcel) ms ok = ap with_none (sym (append-nil ms))
note_joins e (SendsSystem who parcel) ms ok = ap with_none (sym (append-nil ms))
note_joins e (Told router parcel) ms ok = ap with_none (sym (append-nil ms))
note_joins e (Carried from parcel) ms ok = ap with_none (sym (append-nil ms))
note_joins e (Injected parcel) ms ok = ap with_none (sym (append-nil ms))

all_joined : (e : ℕ) (log : List Note) (ms : List MessageView) → AreOk log → join_all (with_none ms) (units_of e log) ≡ with_none (ms ++ handed_in e log)
all_joined e [] ms ok = ap with_none (sym (append-nil ms))
all_joined e (n ∷ ns) ms ok =
    join_all-append (with_none ms) (units_by e n) (units_of e ns)
    ∙ (ap (λ j. join_all j (units_of e ns)) (note_joins e n ms ok.0)
    ∙ (all_joined e ns (ms ++ in_by e n) ok.1 ∙ ap with_none (append_assoc ms (in_by e n) (handed_in e ns))))

pub whole_joined : (e : ℕ) (log : List Note) → AreOk log → (joined (units_of e log)).messages ≡ handed_in e log
whole_joined e log ok = ap (λ (j : Joining). j.messages) (all_joined e log [] ok)

-- ---- messages that are there stay first
abbrev pub behind : List MessageView → Joining → Joining
behind ms j = record { messages = ms ++ j.messages; rest = j.rest }

one_after : (ms : List MessageView) (j : Joining) (u : Unit) → join_unit (behind ms j) u ≡ behind ms (join_unit j u)
one_after ms j u = cases (is_end u) u.last
  where
    cases : (end last : Bool) → cond {A = Joining} end (behind ms j) (cond {A = Joining} last (record { messages = (ms ++ j.messages) ++ added j.rest u ∷ []; rest = None }) (record { messages = ms ++ j.messages; rest = Some (added j.rest u) }))
        ≡ behind ms (cond {A = Joining} end j (cond {A = Joining} last (record { messages = j.messages ++ added j.rest u ∷ []; rest = None }) (record { messages = j.messages; rest = Some (added j.rest u) })))
    cases true last = refl
    cases false true = ap with_none (append_assoc ms j.messages (added j.rest u ∷ []))
    cases false false = refl

pub all_behind : (ms : List MessageView) (j : Joining) (us : List Unit) → join_all (behind ms j) us ≡ behind ms (join_all j us)
all_behind ms j [] = refl
all_behind ms j (u ∷ us) = ap (λ k. join_all k us) (one_after ms j u) ∙ all_behind ms (join_unit j u) us

-- units that were joined, followed by those that come after
pub joined_on : (us vs : List Unit) (o : Option MessageView) → o ≡ (joined us).rest
    → (joined (us ++ vs)).messages ≡ (joined us).messages ++ (join_all (record { messages = []; rest = o }) vs).messages
joined_on us vs o is =
    let j : Joining = joined us in
    let start : behind j.messages (record { messages = []; rest = j.rest }) ≡ j = ap (λ ms. record { messages = ms; rest = j.rest }) (append-nil j.messages) in
    let both : joined (us ++ vs) ≡ behind j.messages (join_all (record { messages = []; rest = j.rest }) vs) =
    join_all-append (with_none []) us vs ∙ (ap (λ k. join_all k vs) (sym start) ∙ all_behind j.messages (record { messages = []; rest = j.rest }) vs) in
    ap (λ (k : Joining). k.messages) both ∙ ap (λ r. j.messages ++ (join_all (record { messages = []; rest = r }) vs).messages) (sym is)

-- ---- a unit that was taken is one of those taken
in_front : {A : Type 0} (xs ys : List A) (k : ℕ) (z : A) → slice_get ys k ≡ Some z → slice_get (xs ++ ys) (length xs + k) ≡ Some z
in_front [] ys k z at = ap (slice_get ys) (omega arith) ∙ at
in_front (x ∷ xs) ys k z at =
    let e : suc (length xs) + k ≡ suc (length xs + k) = omega arith in
    ap (slice_get (x ∷ xs ++ ys)) e ∙ in_front xs ys k z at

same_taken : (b : Bool) (u : Unit) (vs : List Unit) → b ≡ true → slice_get (cond b (u ∷ []) [] ++ vs) 0 ≡ Some u
same_taken true u vs is = refl
same_taken false u vs is = absurd (cc is)

pub taken_there : (e : ℕ) (u : Unit) (log : List Note) (k : ℕ) → (e == e) ≡ true → slice_get log k ≡ Some (TakesUnit e u) → (j : ℕ) × (slice_get (taken_of e log) j ≡ Some u)
taken_there e u [] k own at = absurd (cc at)
taken_there e u (n ∷ ns) zero own at =
    let is : n ≡ TakesUnit e u = cc at in
    (0, ap (λ m. slice_get (taken_by e m ++ taken_of e ns) 0) is ∙ same_taken (e == e) u (taken_of e ns) own)
taken_there e u (n ∷ ns) (suc k) own at =
    let there = taken_there e u ns k own at in
    (length (taken_by e n) + there.0, in_front (taken_by e n) (taken_of e ns) there.0 u there.1)
