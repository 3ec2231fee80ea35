-- The items of a list that was filtered and mapped, and of two lists.
use Rattle.std.proofs.Common.{◌≡◌, ◌⊎◌, ℕ, zero, suc, ◌<◌, Bool, true, false, cond, List, [], ◌∷◌, ◌++◌, length, get_or, map, sym, ap, ◌∙◌, subst, arith, inl, inr, refl}
use Rattle.std.specs.Prelude.{Contains}
use Rattle.std.specs.List.{filter}
use Rattle.std.proofs.lemmas.List.{length-map, get_or-map}
use Rattle.std.proofs.lemmas.List.Elements.{All-contains, All-contains_itself, All-filter, Contains-get_or, filter_passes}

module _ {X Y : Type 0} (f : Y → X) where
  pub map_has : (ys : List Y) (y : Y) → Contains ys y → Contains (map f ys) (f y)
  map_has ys y c = (c.0, omega (arith, length-map ys f, c.1), get_or-map f ys c.0 y (f y) c.1 ∙ ap f c.2)

  pub map_only : (ys : List Y) (x : X) → Contains (map f ys) x → (y : Y) × Contains ys y × (x ≡ f y)
  map_only [] x c = absurd (omega (arith, c.1))
  map_only (y ∷ ys) x c =
      let lt : c.0 < length (y ∷ ys) = omega (arith, length-map (y ∷ ys) f, c.1) in
      (get_or (y ∷ ys) c.0 y, Contains-get_or (y ∷ ys) c.0 y lt, sym c.2 ∙ get_or-map f (y ∷ ys) c.0 y x lt)

module _ {X : Type 0} (p : X → Bool) where
  pub filter_has : (xs : List X) (x : X) (k : ℕ) → k < length xs → get_or xs k x ≡ x → p x ≡ true → Contains (filter p xs) x
  filter_has [] x k lt is passes = absurd (omega arith)
  filter_has (y ∷ ys) x zero lt is passes =
      subst (λ b. Contains (cond b (y ∷ filter p ys) (filter p ys)) x) (sym (ap p is ∙ passes)) (0, omega arith, is)
  filter_has (y ∷ ys) x (suc k) lt is passes =
      let rest = filter_has ys x k (omega arith) is passes in
      elim (p y) as (λ b. Contains (cond b (y ∷ filter p ys) (filter p ys)) x) [
        | true ↦ (suc rest.0, omega (arith, rest.1), rest.2)
        | false ↦ rest
      ]

  pub filter_only : (xs : List X) (x : X) → Contains (filter p xs) x → Contains xs x × (p x ≡ true)
  filter_only xs x c =
      (All-contains (Contains xs) (filter p xs) x (All-filter p (Contains xs) xs (All-contains_itself xs)) c, All-contains (λ y. p y ≡ true) (filter p xs) x (filter_passes p xs) c)

-- ---- of two lists, one after the other

pub here : {X : Type 0} (x : X) (xs : List X) → Contains (x ∷ xs) x
here x xs = (0, omega arith, refl)

pub later : {X : Type 0} (e x : X) (xs : List X) → Contains xs x → Contains (e ∷ xs) x
later e x xs m = (suc m.0, omega (arith, m.1), m.2)

pub in_first : {X : Type 0} (xs ys : List X) (x : X) → Contains xs x → Contains (xs ++ ys) x
in_first [] ys x m = absurd (omega (arith, m.1))
in_first (y ∷ xs) ys x (zero, within, at) = (0, omega arith, at)
in_first (y ∷ xs) ys x (suc k, within, at) = later y x (xs ++ ys) (in_first xs ys x (k, omega (arith, within), at))

pub in_second : {X : Type 0} (xs ys : List X) (x : X) → Contains ys x → Contains (xs ++ ys) x
in_second [] ys x m = m
in_second (y ∷ xs) ys x m = later y x (xs ++ ys) (in_second xs ys x m)

pub in_either : {X : Type 0} (xs ys : List X) (x : X) → Contains (xs ++ ys) x → Contains xs x ⊎ Contains ys x
in_either [] ys x m = inr m
in_either (y ∷ xs) ys x (zero, within, at) = inl (0, omega arith, at)
in_either (y ∷ xs) ys x (suc k, within, at) = elim (in_either xs ys x (k, omega (arith, within), at)) [
  | inl m ↦ inl (later y x xs m)
  | inr m ↦ inr m
]
