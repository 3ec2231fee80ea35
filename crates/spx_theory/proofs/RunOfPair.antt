-- Steps from two new ends with their buffers reach the machine of two peers.
use Rattle.std.proofs.Common.{ℕ, ◌≡◌, Bool, List, [], ◌∷◌, Option, None, Some, refl, sym, ◌∙◌, subst, cond}
use Rattle.std.proofs.lemmas.Bool.{cond_both}
use Rattle.spx_link.specs.Machine.{End, IsRun, Machine, Packet, Step, start}
use Rattle.spx_theory.specs.Note.{Note, Opened, Accepted, Joined, HandsIn, HandsOut, TakesUnit, AsksEnd, Got, Released, SendsUnit, SendsAgain, SendsSystem, Told, Carried, Injected}
use Rattle.spx_theory.specs.PairLog.{Half, Pair, got_mail, half_after, mail_of, new_half, pair_after, pair_from}
use Rattle.spx_theory.specs.Scan.{role_of, scan}
use Rattle.spx_theory.specs.Scene.{Scene}
use Rattle.spx_theory.specs.Deeds.{Reached}
use Rattle.spx_theory.specs.InStep.{pair_in}
use Rattle.spx_theory.specs.InSteps.{PairsTakeSteps}
use Rattle.spx_theory.specs.Below.{LawsBelow}
use Rattle.spx_theory.proofs.Along.{held_along, joined_differ}
use Rattle.spx_theory.proofs.PairPremises.{to_pair}
use Rattle.spx_theory.proofs.Ranges.{in_range}
use Rattle.spx_theory.proofs.Reading.{got_same}
use Rattle.spx_theory.proofs.Running.{Runs}

-- no entry changes how many buffers an end has
same_if : (test : Bool) (x y : Half) → x.end.buffers ≡ y.end.buffers → (cond test x y).end.buffers ≡ y.end.buffers
same_if test x y same = cond_both test x y (λ z. z.end.buffers ≡ y.end.buffers) (λ yes. same) (λ no. refl)

got_buffers : (o : Option Packet) (x : Half) → (got_mail o x).end.buffers ≡ x.end.buffers
got_buffers None x = refl
got_buffers (Some q) x = got_same (λ (e : End). e.buffers) q x.end (λ b l e. refl) (λ r ks e. refl)

buffers_after : (parcels : List (List ℕ)) (c : ℕ) (x y : Half) (n : Note) → (half_after parcels c x y n).end.buffers ≡ x.end.buffers
buffers_after parcels c x y (Opened who host buffers) = refl
buffers_after parcels c x y (Accepted who parcel buffers) = refl
buffers_after parcels c x y (Joined who parcel) = refl
buffers_after parcels c x y (HandsIn who m) = same_if _ _ x refl
buffers_after parcels c x y (HandsOut who m) = refl
buffers_after parcels c x y (TakesUnit who u) = same_if _ _ x refl
buffers_after parcels c x y (AsksEnd who) = same_if _ _ x refl
buffers_after parcels c x y (Got who parcel) = same_if _ _ x (got_buffers (mail_of y parcel) x)
buffers_after parcels c x y (Released who) = refl
buffers_after parcels c x y (SendsUnit who parcel) = cond_both _ _ _ (λ (z : Half). z.end.buffers ≡ x.end.buffers) (λ yes. refl) (λ no. refl)
buffers_after parcels c x y (SendsAgain who parcel) = cond_both _ _ _ (λ (z : Half). z.end.buffers ≡ x.end.buffers) (λ yes. refl) (λ no. refl)
buffers_after parcels c x y (SendsSystem who parcel) = cond_both _ _ _ (λ (z : Half). z.end.buffers ≡ x.end.buffers) (λ yes. refl) (λ no. refl)
buffers_after parcels c x y (Told router parcel) = refl
buffers_after parcels c x y (Carried from parcel) = refl
buffers_after parcels c x y (Injected parcel) = refl

both_buffers : (parcels : List (List ℕ)) (c d : ℕ) (p : Pair) (log : List Note)
    → let q : Pair = pair_from parcels c d p log in (q.one.end.buffers ≡ p.one.end.buffers) × (q.two.end.buffers ≡ p.two.end.buffers)
both_buffers parcels c d p [] = (refl, refl)
both_buffers parcels c d p (n ∷ ns) =
    let rest = both_buffers parcels c d (pair_after parcels c d p n) ns in
    (rest.0 ∙ buffers_after parcels c p.one p.two n, rest.1 ∙ buffers_after parcels d p.two p.one n)

-- steps from two new ends, whose buffers are known
from_these : (laws : LawsBelow) (a b : ℕ) (x y : End) → x.buffers ≡ a → y.buffers ≡ b → Runs x y
    → (steps : List Step) × IsRun steps (start a b) (record { one = x; two = y })
from_these laws a b x y one two r =
    let last : Machine = record { one = x; two = y } in
    let a_is : r.one ≡ a = sym (laws.grows_one r.steps (start r.one r.two) last r.run).buffers ∙ one in
    let b_is : r.two ≡ b = sym (laws.grows_two r.steps (start r.one r.two) last r.run).buffers ∙ two in
    (r.steps, subst (λ j. IsRun r.steps (start j b) last) a_is (subst (λ k. IsRun r.steps (start r.one k) last) b_is r.run))

pub pairs_take_steps : (laws : LawsBelow) (s : Scene) → Reached s → PairsTakeSteps s
pairs_take_steps laws s reached premises c d j =
    let a : ℕ = (role_of (scan s.log) c).buffers in
    let b : ℕ = (role_of (scan s.log) d).buffers in
    let all = held_along laws c d a b (joined_differ (scan s.log) c d j) (in_range reached c) (in_range reached d) reached (to_pair s.log c d premises j) in
    let p : Pair = pair_in s c d in
    let same = both_buffers s.parcels c d (record { one = new_half a; two = new_half b }) s.log in
    from_these laws a b p.one.end p.two.end same.0 same.1 all.0.whole.run
