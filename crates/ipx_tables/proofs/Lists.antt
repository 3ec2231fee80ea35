-- How an edit of a list of offers changes what the list says.
use Rattle.std.proofs.Common.{◌≡◌, ℕ, zero, suc, ◌≤◌, Bool, true, false, cond, List, [], ◌∷◌, length, set, Option, Some, None, refl, sym, ap, ◌∙◌, arith}
use mathlib.Core.Bool.{true≢false}
use Rattle.std.specs.Option.{is_some}
use Rattle.std.specs.List.{insert, remove, filter}
use Rattle.std.specs.Cmp.{IsEquivalence, IsTotalOrder}
use Rattle.std.specs.declared.cmp.Ordering.{Ordering}
use Rattle.std.proofs.lemmas.Cmp.{eq_by_cmp_equiv, then_total, on_total, nat_cmp_total, nat_list_cmp_total}
use Rattle.ipx_tables.specs.declared.source.Source.{Source}
use Rattle.ipx_tables.specs.declared.offer.Offer.{Offer}
use Rattle.ipx_tables.specs.OfferScan.{IsAt}
use Rattle.ipx_tables.specs.Content.{said_of, found, HasDistinctKeys, pair_of, is_young, still, source_cmp, pair_cmp, is_same, content}

module _ {K M : Type 0} {same : K × Source → K × Source → Bool} (e : IsEquivalence same) where
  at_tail : (o : Offer K M) (os : List (Offer K M)) (p : K × Source) (i : ℕ) → IsAt same (o ∷ os) p (suc i) → IsAt same os p i
  at_tail o os p i h = record { in_range = omega (arith, h.in_range); here = λ d. h.here d }

  -- a pair that is not found is not the pair of an offer
  not_same : (os : List (Offer K M)) (p q : K × Source) (i : ℕ) → IsAt same os p i → found same said_of os q ≡ None → same p q ≡ false
  not_same [] p q i h n = absurd (omega (arith, h.in_range))
  not_same (o ∷ os) p q zero h n = grind (arith, h.here o, e.congr (pair_of o) p q)
  not_same (o ∷ os) p q (suc i) h n = grind (arith, not_same os p q i (at_tail o os p i h))

  -- the same pair says the same
  said_same : (os : List (Offer K M)) (p q : K × Source) → same p q ≡ true → found same said_of os p ≡ found same said_of os q
  said_same [] p q h = refl
  said_same (o ∷ os) p q h = grind (arith, said_same os p q h, e.congr p q (pair_of o) h, e.symm p (pair_of o), e.symm q (pair_of o))

  module _ {B : Type 0} (told : Offer K M → B) where
    -- if nothing is said of a pair, no value is found for it
    pub none_told : (os : List (Offer K M)) (p : K × Source) → found same said_of os p ≡ None → found same told os p ≡ None
    none_told [] p h = refl
    none_told (o ∷ os) p h = grind (arith, none_told os p)

    -- the offer of p is replaced
    pub found_set : (os : List (Offer K M)) (p : K × Source) (x : Offer K M) (i : ℕ) → HasDistinctKeys same os → IsAt same os p i → same (pair_of x) p ≡ true → (q : K × Source) → found same told (set os i x) q ≡ cond (same p q) (Some (told x)) (found same told os q)
    found_set [] p x i a h s q = absurd (omega (arith, h.in_range))
    found_set (o ∷ os) p x zero a h s q = grind (arith, h.here o, e.congr (pair_of o) p q, e.congr (pair_of x) p q)
    found_set (o ∷ os) p x (suc i) a h s q = grind (arith, found_set os p x i a.1 (at_tail o os p i h) s q, not_same os p (pair_of o) i (at_tail o os p i h) a.0, e.symm p (pair_of o), e.congr (pair_of o) q p, e.symm q p)

    -- the same pair finds the same value
    pub found_same : (os : List (Offer K M)) (p q : K × Source) → same p q ≡ true → found same told os p ≡ found same told os q
    found_same [] p q h = refl
    found_same (o ∷ os) p q h = grind (arith, found_same os p q h, e.congr p q (pair_of o) h, e.symm p (pair_of o), e.symm q (pair_of o))

    -- the offer of p is removed
    pub found_remove : (os : List (Offer K M)) (p : K × Source) (i : ℕ) → HasDistinctKeys same os → IsAt same os p i → (q : K × Source) → found same told (remove os i) q ≡ cond (same p q) None (found same told os q)
    found_remove [] p i a h q = absurd (omega (arith, h.in_range))
    found_remove (o ∷ os) p zero a h q =
        let rest : found same told os q ≡ cond (same p q) None (found same told (o ∷ os) q) = grind (arith, h.here o, e.congr (pair_of o) p q, found_same os (pair_of o) q, none_told os (pair_of o) a.0) in
        rest
    found_remove (o ∷ os) p (suc i) a h q =
        let rest : found same told (o ∷ remove os i) q ≡ cond (same p q) None (found same told (o ∷ os) q) = grind (arith, found_remove os p i a.1 (at_tail o os p i h) q, not_same os p (pair_of o) i (at_tail o os p i h) a.0, e.symm p (pair_of o), e.congr (pair_of o) q p, e.symm q p) in
        rest

    -- a new offer is inserted at any index
    pub found_insert : (os : List (Offer K M)) (x : Offer K M) (i : ℕ) → found same said_of os (pair_of x) ≡ None → (q : K × Source) → found same told (insert os i x) q ≡ cond (same (pair_of x) q) (Some (told x)) (found same told os q)
    found_insert os x zero n q = refl
    found_insert [] x (suc i) n q = refl
    found_insert (o ∷ os) x (suc i) n q =
        let rest : found same told (o ∷ insert os i x) q ≡ cond (same (pair_of x) q) (Some (told x)) (found same told (o ∷ os) q) = grind (arith, found_insert os x i, e.symm (pair_of o) (pair_of x), e.congr (pair_of o) q (pair_of x), e.symm q (pair_of x)) in
        rest

    -- only young offers are kept
    pub told_filter : (os : List (Offer K M)) (now : ℕ) → HasDistinctKeys same os → (q : K × Source) → found same told (filter (λ o. is_young now o.heard) os) q ≡ cond (is_some (still now (found same said_of os q))) (found same told os q) None
    told_filter [] now a q = refl
    told_filter (o ∷ os) now a q = grind (arith, told_filter os now a.1 q, found_same os (pair_of o) q, none_told os (pair_of o) a.0, said_same os (pair_of o) q, a.0)

  -- only young offers are kept
  pub found_filter : (os : List (Offer K M)) (now : ℕ) → HasDistinctKeys same os → (q : K × Source) → found same said_of (filter (λ o. is_young now o.heard) os) q ≡ still now (found same said_of os q)
  found_filter [] now a q = refl
  found_filter (o ∷ os) now a q = grind (arith, found_filter os now a.1 q, found_same said_of os (pair_of o) q, a.0)

  -- what is not found is not found after a removal
  pub separate_remove : (os : List (Offer K M)) (p : K × Source) (i : ℕ) → HasDistinctKeys same os → IsAt same os p i → HasDistinctKeys same (remove os i)
  separate_remove [] p i a h = absurd (omega (arith, h.in_range))
  separate_remove (o ∷ os) p zero a h = a.1
  separate_remove (o ∷ os) p (suc i) a h = (grind (arith, found_remove said_of os p i a.1 (at_tail o os p i h) (pair_of o), a.0), separate_remove os p i a.1 (at_tail o os p i h))

  pub separate_filter : (os : List (Offer K M)) (now : ℕ) → HasDistinctKeys same os → HasDistinctKeys same (filter (λ o. is_young now o.heard) os)
  separate_filter [] now a = tt
  separate_filter (o ∷ os) now a = elim (is_young now o.heard) as (λ b. HasDistinctKeys same (cond b (o ∷ filter (λ o. is_young now o.heard) os) (filter (λ o. is_young now o.heard) os))) [
    | true ↦ (grind (arith, found_filter os now a.1 (pair_of o), a.0), separate_filter os now a.1)
    | false ↦ separate_filter os now a.1
  ]

pub source_total : IsTotalOrder source_cmp
source_total = then_total (on_total (λ s. s.port) nat_cmp_total) (on_total (λ s. s.neighbour.0) nat_list_cmp_total)

module _ {K : Type 0} {cmp : K → K → Ordering} (o : IsTotalOrder cmp) where
  pub pair_total : IsTotalOrder (pair_cmp cmp)
  pair_total = then_total (on_total (λ (p : K × Source). p.0) o) (on_total (λ (p : K × Source). p.1) source_total)

  pub same_equiv : IsEquivalence (is_same cmp)
  same_equiv = eq_by_cmp_equiv pair_total

-- what learning an offer does, as the list changes
module _ {K M : Type 0} {cmp : K → K → Ordering} (o : IsTotalOrder cmp) (dead : M → Bool) (os : List (Offer K M)) (apart : HasDistinctKeys (is_same cmp) os) (key : K) (source : Source) (metric : M) (now : ℕ) where
  -- the value of the pair is replaced
  abbrev pub told_after : {B : Type 0} → (Offer K M → B) → K × Source → Option B
  told_after told q = cond (is_same cmp (key, source) q) (cond (dead metric) None (Some (told (record { key = key; source = source; metric = metric; heard = now })))) (found (is_same cmp) told os q)

  pub hear_none : {B : Type 0} (told : Offer K M → B) → content cmp os (key, source) ≡ None → dead metric ≡ true → (q : K × Source) → found (is_same cmp) told os q ≡ told_after told q
  hear_none {B} told n d q =
      let none = none_told (same_equiv o) told os (key, source) n in
      let s = found_same (same_equiv o) told os (key, source) q in
      elim (is_same cmp (key, source) q) as (λ b. is_same cmp (key, source) q ≡ b → found (is_same cmp) told os q ≡ cond b (cond (dead metric) None (Some (told (record { key = key; source = source; metric = metric; heard = now })))) (found (is_same cmp) told os q)) [
        | true ↦ λ h. sym (s h) ∙ none ∙ ap (λ b. cond b None (Some (told (record { key = key; source = source; metric = metric; heard = now })))) (sym d)
        | false ↦ λ h. refl
      ] refl

  module _ (i : ℕ) (here : IsAt (is_same cmp) os (key, source) i) where
    pub hear_removed : {B : Type 0} (told : Offer K M → B) → dead metric ≡ true → (q : K × Source) → found (is_same cmp) told (remove os i) q ≡ told_after told q
    hear_removed told d q = found_remove (same_equiv o) told os (key, source) i apart here q ∙ ap (λ b. cond (is_same cmp (key, source) q) (cond b None (Some (told (record { key = key; source = source; metric = metric; heard = now })))) (found (is_same cmp) told os q)) (sym d)

    pub hear_set : {B : Type 0} (told : Offer K M → B) → dead metric ≡ false → (q : K × Source) → found (is_same cmp) told (set os i (record { key = key; source = source; metric = metric; heard = now })) q ≡ told_after told q
    hear_set told d q = found_set (same_equiv o) told os (key, source) _ i apart here ((same_equiv o).refl (key, source)) q ∙ ap (λ b. cond (is_same cmp (key, source) q) (cond b None (Some (told (record { key = key; source = source; metric = metric; heard = now })))) (found (is_same cmp) told os q)) (sym d)

    pub hear_there : content cmp os (key, source) ≡ None → ⊥
    hear_there n = true≢false (sym ((same_equiv o).refl (key, source)) ∙ not_same (same_equiv o) os (key, source) (key, source) i here n)

    pub hear_some : is_some (content cmp os (key, source)) ≡ true
    hear_some = elim (content cmp os (key, source)) as (λ v. content cmp os (key, source) ≡ v → is_some v ≡ true) [ None ↦ λ e. absurd (hear_there e) | Some v ↦ λ e. refl ] refl

  pub hear_inserted : {B : Type 0} (told : Offer K M → B) (i : ℕ) → content cmp os (key, source) ≡ None → dead metric ≡ false → (q : K × Source) → found (is_same cmp) told (insert os i (record { key = key; source = source; metric = metric; heard = now })) q ≡ told_after told q
  hear_inserted told i n d q = found_insert (same_equiv o) told os (record { key = key; source = source; metric = metric; heard = now }) i n q ∙ ap (λ b. cond (is_same cmp (key, source) q) (cond b None (Some (told (record { key = key; source = source; metric = metric; heard = now })))) (found (is_same cmp) told os q)) (sym d)

-- a filter keeps no more than there is
pub filter_short : {X : Type 0} (p : X → Bool) (xs : List X) → length (filter p xs) ≤ length xs
filter_short p [] = omega arith
filter_short p (x ∷ xs) = grind (arith, filter_short p xs)
