-- A key has one best offer, and a table one listing.
use Rattle.std.proofs.Common.{◌≡◌, ℕ, zero, suc, ◌<◌, Bool, List, [], ◌∷◌, length, get_or, ◌⊎◌, inl, inr, refl, sym, ap, ◌∙◌, subst, arith}
use Rattle.std.specs.Cmp.{IsTotalOrder}
use Rattle.std.specs.Cmp.Lexicographic.{slice_cmp}
use Rattle.std.specs.Ordering.{nat_cmp, ordering_reverse}
use Rattle.std.specs.declared.cmp.Ordering.{Ordering}
use Rattle.std.specs.declared.cmp.Ordering.TheVariants.{Less, Equal, Greater}
use Rattle.std.proofs.lemmas.Cmp.{tied_itself}
use Rattle.std.proofs.lemmas.Map.Lookups.{exact_unsigned, exact_bytes, exact_pairs}
use Rattle.ipx_tables.specs.declared.source.Source.{Source}
use Rattle.ipx_tables.specs.Order.{IsStrictTotal, EqualOnlyIfSame, strict_from_cmp}
use Rattle.ipx_tables.specs.Content.{Content, source_cmp}
use Rattle.ipx_tables.specs.Best.{metric_cmp, rank_cmp, is_better, IsBest}
use Rattle.ipx_tables.specs.Sorted.{IsRising}
use Rattle.ipx_tables.specs.Listing.{listed_key, IsListing}
use Rattle.ipx_tables.proofs.Best.{metric_equal, rank_total}

pub source_exact : EqualOnlyIfSame source_cmp
source_exact a b h = ap (λ (p : ℕ × List ℕ). let s : Source = record { port = p.0; neighbour = record { 0 = p.1 } } in s) (exact_pairs nat_cmp (slice_cmp nat_cmp) exact_unsigned exact_bytes (a.port, a.neighbour.0) (b.port, b.neighbour.0) h)

module _ {M : Type 0} {before : M → M → Bool} (strict : IsStrictTotal before) where
  pub rank_exact : EqualOnlyIfSame (rank_cmp before)
  rank_exact a b h = ap (λ (p : M × Source). (p.1, p.0)) (exact_pairs (metric_cmp before) source_cmp (metric_equal strict) source_exact (a.1, a.0) (b.1, b.0) h)

  pub rank_strict : IsStrictTotal (is_better before)
  rank_strict = strict_from_cmp (rank_total strict) rank_exact

  -- neither of two bests is better
  pub best_is_one : {K : Type 0} (c : Content K M) (key : K) (now : ℕ) (a b : Source × M) → IsBest before c key now a → IsBest before c key now b → a ≡ b
  best_is_one c key now a b is_a is_b =
      rank_strict.total a b
      (is_b.least a.0 a.1 is_a.moment is_a.stands is_a.counts)
      (is_a.least b.0 b.1 is_b.moment is_b.stands is_b.counts)

-- the item is in the list
abbrev IsIn : {X : Type 0} → X → List X → Type 0
IsIn {X} x ys = (j : ℕ) × ((j < length ys) × ((e : X) → get_or ys j e ≡ x))

-- each item of the first list is in the second
abbrev AllIn : {X : Type 0} → List X → List X → Type 0
AllIn {X} xs ys = (i : ℕ) (d : X) → i < length xs → IsIn (get_or xs i d) ys

module _ {X K : Type 0} {cmp : K → K → Ordering} (o : IsTotalOrder cmp) (key_of : X → K) where
  tail_rising : (x : X) (xs : List X) → IsRising cmp key_of (x ∷ xs) → IsRising cmp key_of xs
  tail_rising x xs rising i j d lt within = rising (suc i) (suc j) d (omega arith) (omega (arith, within))

  -- an item after the head is not the head
  tail_place : (x y : X) (xs ys : List X) (i : ℕ) (d : X) → i < length xs → IsRising cmp key_of (x ∷ xs) → x ≡ y → (j : ℕ) → j < length (y ∷ ys) → ((e : X) → get_or (y ∷ ys) j e ≡ get_or xs i d) → IsIn (get_or xs i d) ys
  tail_place x y xs ys i d lt rising same zero within is =
      let less : cmp (key_of x) (key_of (get_or xs i d)) ≡ Less = rising 0 (suc i) d (omega arith) (omega (arith, lt)) in
      let tie : cmp (key_of x) (key_of (get_or xs i d)) ≡ Equal = ap (λ v. cmp (key_of x) (key_of v)) (sym (same ∙ is x)) ∙ tied_itself o (key_of x) in
      absurd (cc)
  tail_place x y xs ys i d lt rising same (suc j) within is = (j, (omega (arith, within), λ e. is e))

  tail_in : (x y : X) (xs ys : List X) → IsRising cmp key_of (x ∷ xs) → x ≡ y → AllIn (x ∷ xs) (y ∷ ys) → AllIn xs ys
  tail_in x y xs ys rising same all i d lt =
      let there = all (suc i) d (omega (arith, lt)) in
      tail_place x y xs ys i d lt rising same there.0 there.1.0 there.1.1

  -- the head of one is the head of the other, or comes after it
  head_place : (x y : X) (ys : List X) → IsRising cmp key_of (y ∷ ys) → (j : ℕ) → j < length (y ∷ ys) → ((e : X) → get_or (y ∷ ys) j e ≡ x) → (y ≡ x) ⊎ (cmp (key_of y) (key_of x) ≡ Less)
  head_place x y ys rising zero within is = inl (is x)
  head_place x y ys rising (suc j) within is = inr (ap (λ v. cmp (key_of y) (key_of v)) (sym (is x)) ∙ rising 0 (suc j) x (omega arith) within)

  never_both : (a b : K) → cmp a b ≡ Less → cmp b a ≡ Less → ⊥
  never_both a b h k = let turned : cmp a b ≡ Greater = o.antisymm a b ∙ ap ordering_reverse k in cc

  heads : (x y : X) (xs ys : List X) → IsRising cmp key_of (x ∷ xs) → IsRising cmp key_of (y ∷ ys) → IsIn x (y ∷ ys) → IsIn y (x ∷ xs) → x ≡ y
  heads x y xs ys up_x up_y in_y in_x = elim (head_place x y ys up_y in_y.0 in_y.1.0 in_y.1.1) [
    | inl same ↦ sym same
    | inr less ↦ elim (head_place y x xs up_x in_x.0 in_x.1.0 in_x.1.1) [
      | inl same ↦ same
      | inr more ↦ absurd (never_both _ _ less more)
    ]
  ]

  -- rising lists with the same items are equal
  pub rising_same : (xs ys : List X) → IsRising cmp key_of xs → IsRising cmp key_of ys → AllIn xs ys → AllIn ys xs → xs ≡ ys
  rising_same [] [] up_x up_y h k = refl
  rising_same [] (y ∷ ys) up_x up_y h k = absurd (omega (arith, (k 0 y (omega arith)).1.0))
  rising_same (x ∷ xs) [] up_x up_y h k = absurd (omega (arith, (h 0 x (omega arith)).1.0))
  rising_same (x ∷ xs) (y ∷ ys) up_x up_y h k =
      let same : x ≡ y = heads x y xs ys up_x up_y (h 0 x (omega arith)) (k 0 y (omega arith)) in
      let rest : xs ≡ ys = rising_same xs ys (tail_rising x xs up_x) (tail_rising y ys up_y) (tail_in x y xs ys up_x same h) (tail_in y x ys xs up_y (sym same) k) in
      cc

module _ {K M : Type 0} {before : M → M → Bool} (strict : IsStrictTotal before) {cmp : K → K → Ordering} (o : IsTotalOrder cmp) (exact : EqualOnlyIfSame cmp) (c : Content K M) (now : ℕ) where
  -- two items of one key are equal
  one_item : (x y : K × Source × M) → cmp y.0 x.0 ≡ Equal → IsBest before c x.0 now (x.1, x.2) → IsBest before c y.0 now (y.1, y.2) → y ≡ x
  one_item x y ties is_x is_y =
      let key : y.0 ≡ x.0 = exact y.0 x.0 ties in
      let best : (y.1, y.2) ≡ (x.1, x.2) = best_is_one strict c x.0 now (y.1, y.2) (x.1, x.2) (subst (λ (k : K). IsBest before c k now (y.1, y.2)) key is_y) is_x in
      λ i. (key i, (best i).0, (best i).1)

  items_in : (a b : List (K × Source × M)) → IsListing cmp before c now a → IsListing cmp before c now b → AllIn a b
  items_in a b is_a is_b i d lt =
      let x = get_or a i d in
      let best = is_a.are_best i d lt in
      let there = is_b.no_other x.0 (x.1, x.2) best in
      (there.0, (there.1.in_range, λ e. one_item x (get_or b there.0 e) (there.1.ties e) best (is_b.are_best there.0 e there.1.in_range)))

  pub listing_is_one : (a b : List (K × Source × M)) → IsListing cmp before c now a → IsListing cmp before c now b → a ≡ b
  listing_is_one a b is_a is_b = rising_same o listed_key a b is_a.in_order is_b.in_order (items_in a b is_a is_b) (items_in b a is_b is_a)
