-- What offers in the order of key and source say.
use Rattle.std.proofs.Common.{◌≡◌, ℕ, suc, ◌<◌, Bool, false, cond, List, [], ◌∷◌, length, get_or, Some, None, refl, sym, ap, ◌∙◌, subst, inl, inr, arith}
use Rattle.std.specs.Cmp.{IsEquivalence, IsTotalOrder}
use Rattle.std.specs.Ordering.{is_eq, ordering_reverse}
use Rattle.std.specs.declared.cmp.Ordering.{Ordering}
use Rattle.std.proofs.lemmas.Bool.{cases_lt}
use Rattle.std.proofs.lemmas.List.{get_or_default}
use Rattle.ipx_tables.specs.declared.source.Source.{Source}
use Rattle.ipx_tables.specs.declared.offer.Offer.{Offer}
use Rattle.ipx_tables.specs.Content.{content, said_of, found, pair_of, pair_cmp, is_same, HasDistinctKeys}
use Rattle.ipx_tables.specs.OfferScan.{IsAt}
use Rattle.ipx_tables.specs.Sorted.{IsRising, IsAtKey, IsGapFor}
use Rattle.ipx_tables.proofs.Lists.{same_equiv, pair_total}
use Rattle.ipx_tables.proofs.Listed.{member_found}

module _ {K M : Type 0} {same : K × Source → K × Source → Bool} (e : IsEquivalence same) where
  -- a pair of which there is no offer is not found
  none_found : (os : List (Offer K M)) (p : K × Source) → ((j : ℕ) (d : Offer K M) → j < length os → same (pair_of (get_or os j d)) p ≡ false) → found same said_of os p ≡ None
  none_found [] p h = refl
  none_found (o ∷ os) p h = ap (λ b. cond b (Some (said_of o)) (found same said_of os p)) (h 0 o (omega arith)) ∙ none_found os p (λ j d lt. h (suc j) d (omega (arith, lt)))

module _ {K M : Type 0} {cmp : K → K → Ordering} (o : IsTotalOrder cmp) where
  pub tail_rising : (x : Offer K M) (xs : List (Offer K M)) → IsRising (pair_cmp cmp) pair_of (x ∷ xs) → IsRising (pair_cmp cmp) pair_of xs
  tail_rising x xs rising i j d lt within = rising (suc i) (suc j) d (omega arith) (omega (arith, within))

  pub separate_rising : (os : List (Offer K M)) → IsRising (pair_cmp cmp) pair_of os → HasDistinctKeys (is_same cmp) os
  separate_rising [] rising = tt
  separate_rising (x ∷ xs) rising = (
    none_found (same_equiv o) xs (pair_of x) (λ j d lt. ap is_eq ((pair_total o).antisymm (pair_of (get_or xs j d)) (pair_of x) ∙ ap ordering_reverse (rising 0 (suc j) d (omega arith) (omega (arith, lt))))),
    separate_rising xs (tail_rising x xs rising),
  )

  -- nothing is said of a pair that has a gap
  pub unsaid : (os : List (Offer K M)) (p : K × Source) (i : ℕ) → IsGapFor (pair_cmp cmp) pair_of os p i → content cmp os p ≡ None
  unsaid os p i gap = none_found (same_equiv o) os p (λ j d lt. elim (cases_lt j i) [
    | inl low ↦ ap is_eq (gap.below j d low)
    | inr high ↦ ap is_eq (gap.above j d high lt)
  ])

  -- an index by order is an index by key and source
  pub at_same : (os : List (Offer K M)) (p : K × Source) (i : ℕ) → IsAtKey (pair_cmp cmp) pair_of os p i → IsAt (is_same cmp) os p i
  at_same os p i at = record { in_range = at.in_range; here = λ d. ap is_eq (at.ties d) }

  -- an offer that was read is the one of its key and source
  pub said_at : (os : List (Offer K M)) → IsRising (pair_cmp cmp) pair_of os → (i : ℕ) (x : Offer K M) → i < length os → x ≡ get_or os i x → content cmp os (pair_of x) ≡ Some (said_of x)
  said_at os rising i x within read = subst (λ (v : Offer K M). content cmp os (pair_of v) ≡ Some (said_of v)) (sym read) (member_found (same_equiv o) said_of os i x (separate_rising os rising) within)

  -- it is at its own index
  pub at_itself : (os : List (Offer K M)) (i : ℕ) (x : Offer K M) → i < length os → x ≡ get_or os i x → IsAt (is_same cmp) os (pair_of x) i
  at_itself os i x within read = record { in_range = within; here = λ d. ap (λ (v : Offer K M). is_same cmp (pair_of v) (pair_of x)) (get_or_default os i d x within ∙ sym read) ∙ (same_equiv o).refl (pair_of x) }
