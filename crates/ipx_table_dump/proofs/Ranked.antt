-- Whether an offer is among the best, which rise by key.
use Rattle.std.proofs.Common.{◌≡◌, ℕ, zero, suc, ◌<◌, ◌≤◌, inl, inr, Bool, true, false, List, [], ◌∷◌, length, get_or, refl, sym, ap, ◌∙◌, arith}
use Rattle.std.specs.Prelude.{◌||◌}
use Rattle.std.specs.Cmp.{IsTotalOrder}
use Rattle.std.specs.List.Sorted.{IsNonDecreasingBy, IsPartitionPoint}
use Rattle.std.specs.Ordering.{is_eq, ordering_index, ordering_reverse, ordering_then}
use Rattle.std.specs.declared.cmp.Ordering.{Ordering}
use Rattle.std.specs.declared.cmp.Ordering.TheVariants.{Less, Equal, Greater}
use Rattle.std.proofs.lemmas.Bool.{cases_lt}
use Rattle.std.proofs.lemmas.Cmp.{alike_right}
use Rattle.ipx_tables.specs.declared.source.Source.{Source}
use Rattle.ipx_tables.specs.declared.offer.Offer.{Offer}
use Rattle.ipx_tables.specs.Content.{is_same, source_cmp}
use Rattle.ipx_tables.specs.Listing.{listed_key}
use Rattle.ipx_tables.specs.Sorted.{IsRising}
use Rattle.ipx_table_dump.specs.StillPresent.{is_among_best}

not_less : (r : Ordering) → r ≡ Less → is_eq r ≡ false
not_less r h = ap is_eq h

not_greater : (r : Ordering) → r ≡ Greater → is_eq r ≡ false
not_greater r h = ap is_eq h

separate_first : (a b : Ordering) → is_eq a ≡ false → is_eq (ordering_then a b) ≡ false
separate_first Less b h = refl
separate_first Equal b h = cc
separate_first Greater b h = refl

tied_first : (a b : Ordering) → a ≡ Equal → is_eq (ordering_then a b) ≡ is_eq b
tied_first a b h = ap (λ r. is_eq (ordering_then r b)) h

or_false : (b : Bool) → (b || false) ≡ b
or_false true = refl
or_false false = refl

index_of_less : (r : Ordering) → r ≡ Less → ordering_index r ≡ 0
index_of_less r h = ap ordering_index h

index_most : (r : Ordering) → ordering_index r ≤ 2
index_most Less = omega arith
index_most Equal = omega arith
index_most Greater = omega arith

-- an item of a listing
abbrev Best : Type 0 → Type 0 → Type 0
Best K M = K × Source × M

module _ {K : Type 0} (M : Type 0) {cmp : K → K → Ordering} (o : IsTotalOrder cmp) where
  -- the key of none is that of the offer
  abbrev AreOthers : List (Best K M) → K → Type 0
  AreOthers bs key = (j : ℕ) (d : Best K M) → j < length bs → is_eq (cmp (get_or bs j d).0 key) ≡ false

  pub none_listed : (bs : List (Best K M)) (offer : Offer K M) → AreOthers bs offer.key → is_among_best cmp bs offer ≡ false
  none_listed [] offer others = refl
  none_listed (b ∷ bs) offer others =
      let head : is_same cmp (b.0, b.1) (offer.key, offer.source) ≡ false = separate_first (cmp b.0 offer.key) (source_cmp b.1 offer.source) (others 0 b (omega arith)) in
      let rest : is_among_best cmp bs offer ≡ false = none_listed bs offer (λ j d lt. others (suc j) d (omega (arith, lt))) in
      λ i. head i || rest i

  -- after the best offer of a key, all are of other keys
  others_after : (b : Best K M) (bs : List (Best K M)) (key : K) → IsRising cmp listed_key (b ∷ bs) → cmp b.0 key ≡ Equal → AreOthers bs key
  others_after b bs key rising tie j d lt =
      let x = get_or bs j d in
      let above : cmp b.0 x.0 ≡ Less = rising 0 (suc j) d (omega arith) (omega (arith, lt)) in
      let below : cmp x.0 b.0 ≡ Greater = o.antisymm x.0 b.0 ∙ ap ordering_reverse above in
      not_greater (cmp x.0 key) (sym (alike_right o b.0 key x.0 tie) ∙ below)

  pub listed_at : (bs : List (Best K M)) (at : ℕ) (offer : Offer K M) → IsRising cmp listed_key bs → at < length bs → ((d : Best K M) → cmp (get_or bs at d).0 offer.key ≡ Equal)
      → (d : Best K M) → is_eq (source_cmp (get_or bs at d).1 offer.source) ≡ is_among_best cmp bs offer
  listed_at [] at offer rising within tie d = absurd (omega (arith, within))
  listed_at (b ∷ bs) zero offer rising within tie d =
      let rest : is_among_best cmp bs offer ≡ false = none_listed bs offer (others_after b bs offer.key rising (tie b)) in
      let head : is_same cmp (b.0, b.1) (offer.key, offer.source) ≡ is_eq (source_cmp b.1 offer.source) = tied_first (cmp b.0 offer.key) (source_cmp b.1 offer.source) (tie b) in
      sym ((λ i. head i || rest i) ∙ or_false (is_eq (source_cmp b.1 offer.source)))
  listed_at (b ∷ bs) (suc at) offer rising within tie d =
      let x = get_or bs at d in
      let above : cmp b.0 x.0 ≡ Less = rising 0 (suc at) d (omega arith) within in
      let under : cmp b.0 offer.key ≡ Less = sym (alike_right o x.0 offer.key b.0 (tie d)) ∙ above in
      let head : is_same cmp (b.0, b.1) (offer.key, offer.source) ≡ false = separate_first (cmp b.0 offer.key) (source_cmp b.1 offer.source) (not_less _ under) in
      let rest = listed_at bs at offer (λ i j e lt in_range. rising (suc i) (suc j) e (omega (arith, lt)) (omega (arith, in_range))) (omega (arith, within)) tie d in
      rest ∙ (λ i. sym head i || is_among_best cmp bs offer)

  -- the orders of their keys to a key do not fall
  index_falls : (x y key : K) → cmp x y ≡ Less → ordering_index (cmp x key) ≤ ordering_index (cmp y key)
  index_falls x y key less = elim (cmp y key) as (λ r. cmp y key ≡ r → ordering_index (cmp x key) ≤ ordering_index r) [
    | Less ↦ λ e. let here : ordering_index (cmp x key) ≡ 0 = index_of_less _ (o.trans x y key less e) in omega (arith, here)
    | Equal ↦ λ e. let here : ordering_index (cmp x key) ≡ 0 = index_of_less _ (sym (alike_right o y key x e) ∙ less) in omega (arith, here)
    | Greater ↦ λ e. index_most (cmp x key)
  ] refl

  pub indexes_rise : (bs : List (Best K M)) (key : K) → IsRising cmp listed_key bs → IsNonDecreasingBy (λ (b : Best K M). ordering_index (cmp b.0 key)) bs
  indexes_rise bs key rising i j d le within = elim (cases_lt i j) [
    | inl lt ↦ index_falls (get_or bs i d).0 (get_or bs j d).0 key (rising i j d lt within)
    | inr not_lt ↦ let same : i ≡ j = omega (arith, le, not_lt) in rw same (omega arith)
  ]

  pub between_others : (bs : List (Best K M)) (at : ℕ) (key : K) → IsPartitionPoint (λ (b : Best K M). cmp b.0 key ≡ Less) (λ (b : Best K M). cmp b.0 key ≡ Greater) bs at → AreOthers bs key
  between_others bs at key split j d lt = elim (cases_lt j at) [
    | inl before ↦ not_less _ (split.0 j d (omega arith) before)
    | inr not_before ↦ not_greater _ (split.1 j d (omega (arith, not_before)) lt)
  ]
