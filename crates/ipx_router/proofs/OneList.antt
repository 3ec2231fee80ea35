-- A list in the order of its keys is determined by its items.
use Rattle.std.proofs.Common.{◌≡◌, ℕ, zero, suc, ◌<◌, List, [], ◌∷◌, length, get_or, ◌⊎◌, inl, inr, refl, sym, ap, ◌∙◌, subst, arith}
use Rattle.std.specs.Prelude.{Contains}
use Rattle.std.specs.Cmp.{IsTotalOrder}
use Rattle.std.specs.Ordering.{ordering_reverse}
use Rattle.std.specs.declared.cmp.Ordering.{Ordering}
use Rattle.std.specs.declared.cmp.Ordering.TheVariants.{Less, Greater}
use Rattle.std.proofs.lemmas.Cmp.{tied_itself}
use Rattle.ipx_tables.specs.Sorted.{IsRising}
use Rattle.ipx_router.specs.AdvertisedEntries.{IsListOf}

contains_head : {X : Type 0} (x : X) (xs : List X) → Contains (x ∷ xs) x
contains_head x xs = (0, omega arith, refl)

contains_tail : {X : Type 0} (x : X) (xs : List X) (y : X) → Contains xs y → Contains (x ∷ xs) y
contains_tail x xs y c = (suc c.0, omega (arith, c.1), c.2)

contains_place : {X : Type 0} (x : X) (xs : List X) (y : X) (k : ℕ) → k < length (x ∷ xs) → get_or (x ∷ xs) k y ≡ y → (x ≡ y) ⊎ Contains xs y
contains_place x xs y zero lt is = inl is
contains_place x xs y (suc k) lt is = inr (k, omega (arith, lt), is)

contains_cases : {X : Type 0} (x : X) (xs : List X) (y : X) → Contains (x ∷ xs) y → (x ≡ y) ⊎ Contains xs y
contains_cases x xs y c = contains_place x xs y c.0 c.1 c.2

contains_none : {X : Type 0} (y : X) → Contains [] y → ⊥
contains_none y c = omega (arith, c.1)

module _ {X K : Type 0} {cmp : K → K → Ordering} (o : IsTotalOrder cmp) (key_of : X → K) where
  tail_rises : (x : X) (xs : List X) → IsRising cmp key_of (x ∷ xs) → IsRising cmp key_of xs
  tail_rises x xs rising i j d lt within = rising (suc i) (suc j) d (omega arith) (omega (arith, within))

  -- the key of the head is less than those after it
  head_below : (x : X) (xs : List X) (y : X) → IsRising cmp key_of (x ∷ xs) → Contains xs y → cmp (key_of x) (key_of y) ≡ Less
  head_below x xs y rising c =
      let less : cmp (key_of x) (key_of (get_or xs c.0 y)) ≡ Less = rising 0 (suc c.0) y (omega arith) (omega (arith, c.1)) in
      subst (λ (v : X). cmp (key_of x) (key_of v) ≡ Less) c.2 less

  not_below_itself : (a : K) → cmp a a ≡ Less → ⊥
  not_below_itself a less =
      let tie = tied_itself o a in
      cc

  never_both : (a b : K) → cmp a b ≡ Less → cmp b a ≡ Less → ⊥
  never_both a b h k =
      let turned : cmp a b ≡ Greater = o.antisymm a b ∙ ap ordering_reverse k in
      cc

  heads : (x y : X) (xs ys : List X) → IsRising cmp key_of (x ∷ xs) → IsRising cmp key_of (y ∷ ys) → Contains (y ∷ ys) x → Contains (x ∷ xs) y → x ≡ y
  heads x y xs ys up_x up_y in_y in_x = elim (contains_cases y ys x in_y) [
    | inl same ↦ sym same
    | inr behind ↦ elim (contains_cases x xs y in_x) [
      | inl same ↦ same
      | inr more ↦ absurd (never_both _ _ (head_below y ys x up_y behind) (head_below x xs y up_x more))
    ]
  ]

  -- if two heads are the same, the items after the one are items after the other
  tail_has : (x y : X) (xs ys : List X) → IsRising cmp key_of (x ∷ xs) → x ≡ y → ((z : X) → Contains (x ∷ xs) z → Contains (y ∷ ys) z) → (z : X) → Contains xs z → Contains ys z
  tail_has x y xs ys rising same all z c = elim (contains_cases y ys z (all z (contains_tail x xs z c))) [
    | inl is ↦
        let less = head_below x xs z rising c in
        let tie : x ≡ z = same ∙ is in
        absurd (not_below_itself (key_of z) (subst (λ (v : X). cmp (key_of v) (key_of z) ≡ Less) tie less))
    | inr behind ↦ behind
  ]

  -- rising lists with the same items are equal
  rising_one : (xs ys : List X) → IsRising cmp key_of xs → IsRising cmp key_of ys → ((z : X) → Contains xs z → Contains ys z) → ((z : X) → Contains ys z → Contains xs z) → xs ≡ ys
  rising_one [] [] up_x up_y h k = refl
  rising_one [] (y ∷ ys) up_x up_y h k = absurd (contains_none y (k y (contains_head y ys)))
  rising_one (x ∷ xs) [] up_x up_y h k = absurd (contains_none x (h x (contains_head x xs)))
  rising_one (x ∷ xs) (y ∷ ys) up_x up_y h k =
      let same : x ≡ y = heads x y xs ys up_x up_y (h x (contains_head x xs)) (k y (contains_head y ys)) in
      let rest : xs ≡ ys = rising_one xs ys (tail_rises x xs up_x) (tail_rises y ys up_y) (tail_has x y xs ys up_x same h) (tail_has y x ys xs up_y (sym same) k) in
      λ i. same i ∷ rest i

  -- the list of all those for which a fact holds is unique
  pub list_is_one : (fact : X → Type 0) (xs ys : List X) → IsListOf cmp key_of fact xs → IsListOf cmp key_of fact ys → xs ≡ ys
  list_is_one fact xs ys is_x is_y =
      rising_one xs ys is_x.in_order is_y.in_order (λ z c. (is_y.stands z).1 ((is_x.stands z).0 c)) (λ z c. (is_x.stands z).1 ((is_y.stands z).0 c))
