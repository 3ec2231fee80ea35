-- Units and their stamps as one list: what becomes of it where both change alike.
use Rattle.std.proofs.Common.{◌≡◌, ℕ, zero, suc, ◌+◌, List, [], ◌∷◌, ◌++◌, map, length, drop, replicate, set, Option, None, Some, IfSome, slice_get, subst, refl, sym, ap, ◌∙◌, arith}
use Rattle.spx_link.specs.declared.unit.Unit.{Unit}
use Rattle.spx_link.specs.declared.stamped.Stamp.{Stamp}
use Rattle.spx_link.specs.declared.queue.Queued.{Queued}
use Rattle.spx_link.specs.Offer.{queued}
use Rattle.spx_link.specs.Sequences.{paired, with_stamp, unsent}

-- as many as there are units
pub length_paired : (us : List Unit) (ss : List Stamp) → length ss ≡ length us → length (paired us ss) ≡ length us
length_paired [] ss same = refl
length_paired (u ∷ us) [] same = absurd (omega (arith, same))
length_paired (u ∷ us) (s ∷ ss) same =
    let rest : length ss ≡ length us = omega (arith, same) in
    let more = length_paired us ss rest in
    omega (arith, more)

some_is : {A : Type 0} (x y : A) → Some x ≡ Some y → x ≡ y
some_is x y e = cc

-- what stands at a place
pub paired_at : (us : List Unit) (ss : List Stamp) (i : ℕ) (u : Unit) (s : Stamp) → slice_get us i ≡ Some u → slice_get ss i ≡ Some s → slice_get (paired us ss) i ≡ Some (with_stamp u s)
paired_at [] ss i u s unit stamp = cc
paired_at (x ∷ us) [] i u s unit stamp = cc
paired_at (x ∷ us) (y ∷ ss) zero u s unit stamp =
    let f : Unit → Option Queued = λ v. Some (with_stamp v y) in
    let g : Stamp → Option Queued = λ t. Some (with_stamp u t) in
    ap f (some_is x u unit) ∙ ap g (some_is y s stamp)
paired_at (x ∷ us) (y ∷ ss) (suc i) u s unit stamp = paired_at us ss i u s unit stamp

if_more : (o : Option Queued) (P Q : Queued → Type 0) → ((q : Queued) → P q → Q q) → IfSome o P → IfSome o Q
if_more None P Q more is = tt
if_more (Some q) P Q more is = more q is

-- a stamp is written
pub paired_set : (us : List Unit) (ss : List Stamp) (i : ℕ) (s : Stamp) → IfSome (slice_get (paired us ss) i) (λ q. paired us (set ss i s) ≡ set (paired us ss) i (with_stamp q.unit s))
paired_set [] ss i s = tt
paired_set (u ∷ us) [] i s = tt
paired_set (u ∷ us) (x ∷ ss) zero s = refl
paired_set (u ∷ us) (x ∷ ss) (suc i) s =
    let f : List Queued → List Queued = λ qs. with_stamp u x ∷ qs in
    if_more (slice_get (paired us ss) i) (λ q. paired us (set ss i s) ≡ set (paired us ss) i (with_stamp q.unit s)) (λ q. paired (u ∷ us) (set (x ∷ ss) (suc i) s) ≡ set (paired (u ∷ us) (x ∷ ss)) (suc i) (with_stamp q.unit s)) (λ q e. ap f e) (paired_set us ss i s)

-- more come behind
pub paired_append : (us vs : List Unit) (ss ts : List Stamp) → length ss ≡ length us → paired (us ++ vs) (ss ++ ts) ≡ paired us ss ++ paired vs ts
paired_append [] vs [] ts same = refl
paired_append [] vs (s ∷ ss) ts same = absurd (omega (arith, same))
paired_append (u ∷ us) vs [] ts same = absurd (omega (arith, same))
paired_append (u ∷ us) vs (s ∷ ss) ts same =
    let f : List Queued → List Queued = λ qs. with_stamp u s ∷ qs in
    ap f (paired_append us vs ss ts (omega (arith, same)))

pub paired_unsent : (us : List Unit) → paired us (replicate (length us) unsent) ≡ map queued us
paired_unsent [] = refl
paired_unsent (u ∷ us) =
    let next : length (u ∷ us) ≡ suc (length us) = omega arith in
    let f : List Queued → List Queued = λ qs. queued u ∷ qs in
    ap (λ (n : ℕ). paired (u ∷ us) (replicate n unsent)) next ∙ ap f (paired_unsent us)

-- the first leave
pub paired_drop : (n : ℕ) (us : List Unit) (ss : List Stamp) → length ss ≡ length us → paired (drop n us) (drop n ss) ≡ drop n (paired us ss)
paired_drop zero us ss same = refl
paired_drop (suc n) [] [] same = refl
paired_drop (suc n) [] (s ∷ ss) same = absurd (omega (arith, same))
paired_drop (suc n) (u ∷ us) [] same = absurd (omega (arith, same))
paired_drop (suc n) (u ∷ us) (s ∷ ss) same = paired_drop n us ss (omega (arith, same))

-- ---- the view of both sequences

pub view_at : (us : List Unit) (ss : List Stamp) (view : List Queued) (i : ℕ) (u : Unit) (s : Stamp) → paired us ss ≡ view → slice_get us i ≡ Some u → slice_get ss i ≡ Some s → slice_get view i ≡ Some (with_stamp u s)
view_at us ss view i u s is unit stamp = ap (λ (qs : List Queued). slice_get qs i) (sym is) ∙ paired_at us ss i u s unit stamp

pub view_set : (us : List Unit) (ss after : List Stamp) (view : List Queued) (i : ℕ) (s : Stamp) → paired us ss ≡ view → after ≡ set ss i s → IfSome (slice_get view i) (λ q. paired us after ≡ set view i (with_stamp q.unit s))
view_set us ss after view i s is written =
    let P : List Queued → Type 0 = λ qs. IfSome (slice_get qs i) (λ q. paired us after ≡ set qs i (with_stamp q.unit s)) in
    let Q : List Stamp → Type 0 = λ ts. IfSome (slice_get (paired us ss) i) (λ q. paired us ts ≡ set (paired us ss) i (with_stamp q.unit s)) in
    subst P is (subst Q (sym written) (paired_set us ss i s))

pub view_more : (us units vs : List Unit) (ss stamps ts : List Stamp) (view : List Queued) → paired us ss ≡ view → length ss ≡ length us → units ≡ us ++ vs → stamps ≡ ss ++ ts → paired units stamps ≡ view ++ paired vs ts
view_more us units vs ss stamps ts view is same more_units more_stamps =
    ap (λ (xs : List Unit). paired xs stamps) more_units ∙ ap (paired (us ++ vs)) more_stamps ∙ paired_append us vs ss ts same ∙ ap (λ (qs : List Queued). qs ++ paired vs ts) is

pub view_less : (us units : List Unit) (ss stamps : List Stamp) (view : List Queued) (n : ℕ) → paired us ss ≡ view → length ss ≡ length us → units ≡ drop n us → stamps ≡ drop n ss → paired units stamps ≡ drop n view
view_less us units ss stamps view n is same fewer_units fewer_stamps =
    ap (λ (xs : List Unit). paired xs stamps) fewer_units ∙ ap (paired (drop n us)) fewer_stamps ∙ paired_drop n us ss same ∙ ap (λ (qs : List Queued). drop n qs) is
