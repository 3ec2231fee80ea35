-- What is among the elements of a list.
use Rattle.std.proofs.Common.{◌≡◌, ◌<◌, zero, suc, ◌||◌, Bool, true, false, not, List, [], ◌∷◌, Contains, Option, Some, None, get_or, refl, sym, ap, ◌∙◌, subst, arith, inl, inr, ◌⊎◌}
use Rattle.std.specs.Prelude.{position}
use Rattle.std.specs.List.{AllZip, cons_option, filter_map, position_or_len}
use Rattle.std.proofs.lemmas.List.Sums.{prefix_len_passes}
use Rattle.ipx_config.proofs.Printed.{position_missing}

pub first : {X : Type 0} (x : X) (xs : List X) → Contains (x ∷ xs) x
first x xs = (0, omega arith, refl)

pub later : {X : Type 0} (x y : X) (xs : List X) → Contains xs y → Contains (x ∷ xs) y
later x y xs at = (suc at.0, omega (arith, at.1), at.2)

pub none_among : {X : Type 0} (x : X) → Contains [] x → ⊥
none_among x at = absurd (omega (arith, at.1))

pub one_or_later : {X : Type 0} (x y : X) (xs : List X) → Contains (x ∷ xs) y → (x ≡ y) ⊎ Contains xs y
one_or_later x y xs (zero, within, at) = inl at
one_or_later x y xs (suc k, within, at) = inr (k, omega (arith, within), at)

pub or_parts : (a b : Bool) → (a || b) ≡ true → (a ≡ true) ⊎ (b ≡ true)
or_parts true b h = inl refl
or_parts false b h = inr h

not_true : (b : Bool) → not b ≡ true → b ≡ false
not_true true h = absurd cc
not_true false h = refl

-- if no index has an element that passes, none passes
pub each_fails : {X : Type 0} (p : X → Bool) (xs : List X) → position p xs ≡ None → (x : X) → Contains xs x → p x ≡ false
each_fails p xs none x at =
    let far = position_missing p xs (sym none) in
    let before : at.0 < position_or_len p xs = omega (arith, far, at.1) in
    subst (λ y. p y ≡ false) at.2 (not_true (p (get_or xs at.0 x)) (prefix_len_passes (λ y. not (p y)) xs at.0 x before))

-- ---- what is made of some of them

-- this is what `f` makes of one of the elements
abbrev pub MadeOf : {X Y : Type 0} → (X → Option Y) → List X → Y → Type 0
MadeOf {X} f xs y = (x : X) × Contains xs x × (f x ≡ Some y)

one_made : {X Y : Type 0} (f : X → Option Y) (x : X) (xs : List X) (y : Y) (o : Option Y) → f x ≡ o
    → (Contains (filter_map f xs) y → MadeOf f xs y) → Contains (cons_option o (filter_map f xs)) y → MadeOf f (x ∷ xs) y
one_made f x xs y None is behind at = let (z, there, found) = behind at in (z, later x z xs there, found)
one_made f x xs y (Some w) is behind at = elim (one_or_later w y (filter_map f xs) at) [
  | inl same ↦ (x, first x xs, is ∙ ap Some same)
  | inr more ↦ (let (z, there, found) = behind more in (z, later x z xs there, found))
]

pub made_of : {X Y : Type 0} (f : X → Option Y) (xs : List X) (y : Y) → Contains (filter_map f xs) y → MadeOf f xs y
made_of f [] y at = absurd (none_among y at)
made_of f (x ∷ xs) y at = one_made f x xs y (f x) refl (made_of f xs y) at

onto : {Y : Type 0} (o : Option Y) (ys : List Y) (y : Y) → Contains ys y → Contains (cons_option o ys) y
onto None ys y at = at
onto (Some w) ys y at = later w y ys at

pub makes : {X Y : Type 0} (f : X → Option Y) (xs : List X) (x : X) (y : Y) → Contains xs x → f x ≡ Some y → Contains (filter_map f xs) y
makes f [] x y at is = absurd (none_among x at)
makes f (z ∷ xs) x y at is = elim (one_or_later z x xs at) [
  | inl same ↦ (let made = ap f same ∙ is in
      subst (λ o. Contains (cons_option o (filter_map f xs)) y) (sym made) (first y (filter_map f xs)))
  | inr more ↦ onto (f z) (filter_map f xs) y (makes f xs x y more is)
]

-- ---- pairs of two lists

pub of_left : {A B : Type 0} (R : A → B → Type 0) (xs : List A) (ys : List B) → AllZip R xs ys → (x : A) → Contains xs x
    → (y : B) × Contains ys y × R x y
of_left R [] ys z x at = absurd (none_among x at)
of_left R (a ∷ xs) [] z x at = absurd z
of_left R (a ∷ xs) (b ∷ ys) z x at = elim (one_or_later a x xs at) [
  | inl same ↦ (b, first b ys, subst (λ w. R w b) same z.0)
  | inr more ↦ (let (y, there, holds) = of_left R xs ys z.1 x more in (y, later b y ys there, holds))
]

pub of_right : {A B : Type 0} (R : A → B → Type 0) (xs : List A) (ys : List B) → AllZip R xs ys → (y : B) → Contains ys y
    → (x : A) × R x y
of_right R xs [] z y at = absurd (none_among y at)
of_right R [] (b ∷ ys) z y at = absurd z
of_right R (a ∷ xs) (b ∷ ys) z y at = elim (one_or_later b y ys at) [
  | inl same ↦ (a, subst (λ w. R a w) same z.0)
  | inr more ↦ of_right R xs ys z.1 y more
]
