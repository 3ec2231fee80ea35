-- Items of a list that are found by a number of each, and how a change of the list affects that.
use Rattle.std.proofs.Common.{◌≡◌, ◌≢◌, ℕ, ◌<◌, List, [], ◌∷◌, ◌++◌, Bool, true, false, not, cond, ◌==◌, refl, ap, sym, subst, ◌∙◌, nat_lt, position, Option, None, Some, slice_get, get_or, set, length, arith, filter, find}
use Rattle.std.specs.List.{position_or_len}
use Rattle.std.specs.Option.{option_or}
use Rattle.std.proofs.lemmas.Bool.Decides.{nat_tests, Decides-eqb, Decides-ltb}
use Rattle.std.proofs.lemmas.List.Folds.{find_at, find-set, find_past, find-append}
use Rattle.std.proofs.lemmas.Option.{slice_get_read, slice_get_past}

abbrev pub has : {X : Type 0} → (X → ℕ) → ℕ → X → Bool
has key id x = key x == id

abbrev pub without : {X : Type 0} → (X → ℕ) → ℕ → List X → List X
without key id xs = filter (λ x. not (key x == id)) xs

pub eq_true : (a b : ℕ) → a ≡ b → (a == b) ≡ true
eq_true a b e = (Decides-eqb a b).1 e

pub eq_from : (a b : ℕ) → (a == b) ≡ true → a ≡ b
eq_from a b e = (Decides-eqb a b).0 e

pub eq_false : (a b : ℕ) → a ≢ b → (a == b) ≡ false
eq_false a b n = grind (arith, nat_tests)

-- ---- without the items of a number

gone_step : {X : Type 0} (key : X → ℕ) (id : ℕ) (x : X) (xs : List X) (b : Bool) → has key id x ≡ b → find (has key id) (without key id xs) ≡ None → find (has key id) (cond (not b) (x ∷ without key id xs) (without key id xs)) ≡ None
gone_step key id x xs true e below = below
gone_step {X} key id x xs false e below = ap (λ c. cond c (Some x) (find (has key id) (without key id xs))) e ∙ below

pub gone : {X : Type 0} (key : X → ℕ) (id : ℕ) (xs : List X) → find (has key id) (without key id xs) ≡ None
gone key id [] = refl
gone key id (x ∷ xs) = gone_step key id x xs (has key id x) refl (gone key id xs)

stays_step : {X : Type 0} (key : X → ℕ) (id q : ℕ) (x : X) (xs : List X) (b : Bool) → q ≢ id → has key id x ≡ b → find (has key q) (without key id xs) ≡ find (has key q) xs → find (has key q) (cond (not b) (x ∷ without key id xs) (without key id xs)) ≡ cond (has key q x) (Some x) (find (has key q) xs)
stays_step key id q x xs true apart e below =
    below ∙ ap (λ c. cond c (Some x) (find (has key q) xs)) (sym (eq_false (key x) q (λ o. apart (sym o ∙ eq_from (key x) id e))))
stays_step key id q x xs false apart e below = ap (cond (has key q x) (Some x)) below

pub stays : {X : Type 0} (key : X → ℕ) (id q : ℕ) (xs : List X) → q ≢ id → find (has key q) (without key id xs) ≡ find (has key q) xs
stays key id q [] apart = refl
stays key id q (x ∷ xs) apart = stays_step key id q x xs (has key id x) apart refl (stays key id q xs apart)

-- ---- at the index of a number

place_step : {X : Type 0} (p : X → Bool) (xs : List X) (k : ℕ) (b : Bool) → nat_lt (position_or_len p xs) (length xs) ≡ b → cond b (Some (position_or_len p xs)) None ≡ Some k → (k ≡ position_or_len p xs) × (k < length xs)
place_step p xs k true e is =
    let same : position_or_len p xs ≡ k = cc in
    (sym same, subst (λ n. n < length xs) same ((Decides-ltb (position_or_len p xs) (length xs)).0 e))
place_step p xs k false e is = absurd (cc is)

pub place_of_position : {X : Type 0} (p : X → Bool) (xs : List X) (k : ℕ) → position p xs ≡ Some k → (k ≡ position_or_len p xs) × (k < length xs)
place_of_position p xs k is = place_step p xs k (nat_lt (position_or_len p xs) (length xs)) refl is

-- the item at the index is the one that is found
pub found_at_place : {X : Type 0} (p : X → Bool) (xs : List X) (k : ℕ) (x : X) → position p xs ≡ Some k → x ≡ get_or xs k x → find p xs ≡ Some x
found_at_place p xs k x is read =
    let place = place_of_position p xs k is in
    find_at p xs ∙ ap (slice_get xs) (sym place.0) ∙ slice_get_read xs (length xs) k x refl place.1 read

past_step : {X : Type 0} (p : X → Bool) (xs : List X) (b : Bool) → nat_lt (position_or_len p xs) (length xs) ≡ b → cond b (Some (position_or_len p xs)) None ≡ None → find p xs ≡ None
past_step p xs true e is = absurd (cc is)
past_step p xs false e is = find_at p xs ∙ slice_get_past xs (position_or_len p xs) (grind (arith, nat_tests))

-- if no item has an index, none is found
pub found_nowhere : {X : Type 0} (p : X → Bool) (xs : List X) → position p xs ≡ None → find p xs ≡ None
found_nowhere p xs is = past_step p xs (nat_lt (position_or_len p xs) (length xs)) refl is

found_step : {X : Type 0} (p : X → Bool) (x y : X) (b : Bool) (rest : Option X) → (rest ≡ Some y → p y ≡ true) → p x ≡ b → cond b (Some x) rest ≡ Some y → p y ≡ true
found_step p x y true rest below px e = cc
found_step p x y false rest below px e = below e

-- what is found passes
pub found_passes : {X : Type 0} (p : X → Bool) (xs : List X) (y : X) → find p xs ≡ Some y → p y ≡ true
found_passes p [] y e = cc
found_passes p (x ∷ xs) y e = found_step p x y (p x) (find p xs) (found_passes p xs y) refl e

-- ---- changes

-- an item is replaced by another one of the same number
pub written : {X : Type 0} (key : X → ℕ) (id : ℕ) (xs : List X) (k : ℕ) (y : X) → position (has key id) xs ≡ Some k → key y ≡ id → find (has key id) (set xs k y) ≡ Some y
written key id xs k y is same =
    let place = place_of_position (has key id) xs k is in
    find-set (has key id) xs k y place.0 place.1 (eq_true (key y) id same)

pub written_separate : {X : Type 0} (key : X → ℕ) (id q : ℕ) (xs : List X) (k : ℕ) (x y : X) → position (has key id) xs ≡ Some k → x ≡ get_or xs k x → key y ≡ id → q ≢ id → find (has key q) (set xs k y) ≡ find (has key q) xs
written_separate key id q xs k x y is read same apart =
    let ours : key x ≡ id = eq_from (key x) id (found_passes (has key id) xs x (found_at_place (has key id) xs k x is read)) in
    find_past (has key q) xs k y x
    (ap (has key q) (sym read) ∙ eq_false (key x) q (λ e. apart (sym e ∙ ours)))
    (eq_false (key y) q (λ e. apart (sym e ∙ same)))

or_none : {X : Type 0} (o : Option X) → option_or o None ≡ o
or_none None = refl
or_none (Some x) = refl

find_last : {X : Type 0} (p : X → Bool) (y : X) (b : Bool) → p y ≡ b → find p (y ∷ []) ≡ cond b (Some y) None
find_last p y b e = ap (λ c. cond c (Some y) None) e

-- an item is added at the end, with a number that no other has
pub pushed : {X : Type 0} (key : X → ℕ) (id : ℕ) (xs : List X) (y : X) → find (has key id) xs ≡ None → key y ≡ id → find (has key id) (xs ++ y ∷ []) ≡ Some y
pushed key id xs y free same =
    find-append (has key id) xs (y ∷ []) ∙ ap (λ o. option_or o (find (has key id) (y ∷ []))) free ∙ find_last (has key id) y true (eq_true (key y) id same)

pub pushed_separate : {X : Type 0} (key : X → ℕ) (id q : ℕ) (xs : List X) (y : X) → key y ≡ id → q ≢ id → find (has key q) (xs ++ y ∷ []) ≡ find (has key q) xs
pushed_separate key id q xs y same apart =
    find-append (has key q) xs (y ∷ []) ∙ ap (option_or (find (has key q) xs)) (find_last (has key q) y false (eq_false (key y) q (λ e. apart (sym e ∙ same)))) ∙ or_none (find (has key q) xs)
