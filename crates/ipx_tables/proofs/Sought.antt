-- A binary search in items that rise by a key.
use Rattle.std.proofs.Common.{◌≡◌, ℕ, ◌<◌, ◌≤◌, List, length, get_or, sym, ap, ◌∙◌, inl, inr, arith}
use Rattle.std.specs.Cmp.{IsTotalOrder}
use Rattle.std.specs.Ordering.{ordering_reverse}
use Rattle.std.specs.declared.cmp.Ordering.{Ordering}
use Rattle.std.specs.declared.cmp.Ordering.TheVariants.{Less, Greater}
use Rattle.std.proofs.lemmas.Bool.{cases_lt}
use Rattle.std.proofs.lemmas.List.{get_or_default}
use Rattle.ipx_tables.specs.Sorted.{IsRising}

module _ {X K : Type 0} {cmp : K → K → Ordering} (o : IsTotalOrder cmp) (key_of : X → K) (xs : List X) (rising : IsRising cmp key_of xs) (key : K) (mid : ℕ) (x : X) (within : mid < length xs) (read : x ≡ get_or xs mid x) where
  at_mid : (d : X) → key_of (get_or xs mid d) ≡ key_of x
  at_mid d = ap key_of (get_or_default xs mid d x within ∙ sym read)

  -- all before an item below the key is below it
  pub low_half : cmp (key_of x) key ≡ Less → (j : ℕ) (d : X) → j ≤ mid → cmp (key_of (get_or xs j d)) key ≡ Less
  low_half less j d le =
      let here : cmp (key_of (get_or xs mid d)) key ≡ Less = ap (λ k. cmp k key) (at_mid d) ∙ less in
      elim (cases_lt j mid) [
        | inl lt ↦ o.trans (key_of (get_or xs j d)) (key_of (get_or xs mid d)) key (rising j mid d lt within) here
        | inr not_lt ↦ let same : j ≡ mid = omega (arith, le, not_lt) in rw same here
      ]

  -- all after an item above the key is above it
  pub high_half : cmp (key_of x) key ≡ Greater → (j : ℕ) (d : X) → mid ≤ j → j < length xs → cmp (key_of (get_or xs j d)) key ≡ Greater
  high_half greater j d le lt =
      let here : cmp (key_of (get_or xs mid d)) key ≡ Greater = ap (λ k. cmp k key) (at_mid d) ∙ greater in
      let under : cmp key (key_of (get_or xs mid d)) ≡ Less = o.antisymm key (key_of (get_or xs mid d)) ∙ ap ordering_reverse here in
      elim (cases_lt mid j) [
        | inl above ↦ o.antisymm (key_of (get_or xs j d)) key ∙ ap ordering_reverse (o.trans key (key_of (get_or xs mid d)) (key_of (get_or xs j d)) under (rising mid j d above lt))
        | inr not_above ↦ let same : j ≡ mid = omega (arith, le, not_above) in rw same here
      ]
