-- Until when offers are valid, and what ageing before that time leaves.
use Rattle.std.proofs.Common.{◌≡◌, ℕ, suc, ◌+◌, ◌-◌, ◌^◌, ◌<◌, ◌≤◌, min, true, false, cond, List, [], ◌∷◌, set, take, drop, length, get_or, None, refl, sym, ap, ◌∙◌, inl, inr, arith}
use Rattle.std.specs.List.{insert, remove, filter, count_by}
use Rattle.std.specs.Option.{is_some}
use Rattle.std.specs.Cmp.{IsTotalOrder}
use Rattle.std.specs.Ordering.{ordering_reverse}
use Rattle.std.specs.declared.cmp.Ordering.{Ordering}
use Rattle.std.specs.declared.cmp.Ordering.TheVariants.{Less, Equal, Greater}
use Rattle.std.proofs.lemmas.Bool.{cases_lt, lt-ltb}
use Rattle.std.proofs.lemmas.Cmp.{tied_itself}
use Rattle.std.proofs.lemmas.List.Elements.{All-append, All-take, All-drop, All-tail, All-set, All-cons}
use Rattle.std.proofs.lemmas.List.Sums.{length-filter}
use Rattle.ipx_tables.specs.declared.source.Source.{Source}
use Rattle.ipx_tables.specs.declared.offer.Offer.{Offer}
use Rattle.ipx_tables.specs.Content.{HasDistinctKeys, is_young, still, is_same, content, heard_key, pair_cmp, pair_of}
use Rattle.ipx_tables.specs.Expiry.{IsOldest, NoneOldBefore}
use Rattle.ipx_tables.specs.Marks.{IsEarliest}
use Rattle.ipx_tables.specs.Sorted.{IsRising, IsAtKey, IsGapFor}
use Rattle.ipx_tables.proofs.Lists.{same_equiv, found_filter, told_filter}
use Rattle.ipx_tables.proofs.Marked.{filter_all, filter_without, young_later}

least_left : (s a b : ℕ) → s ≡ min a b → s ≤ a
least_left s a b is = omega (arith, is)

least_right : (s a b : ℕ) → s ≡ min a b → s ≤ b
least_right s a b is = omega (arith, is)

module _ {K M : Type 0} (os : List (Offer K M)) (moment : ℕ) (none : NoneOldBefore moment os) where
  abbrev CountsUntil : ℕ → Offer K M → Type 0
  CountsUntil m o = m ≤ o.heard + 180000

  pub none_old_removed : (i : ℕ) → NoneOldBefore moment (remove os i)
  none_old_removed i = All-append (CountsUntil moment) (take i os) (drop (suc i) os) (All-take (CountsUntil moment) i os none) (All-drop (CountsUntil moment) (suc i) os none)

  -- a new offer may be the first one to expire
  module _ (sooner ends : ℕ) (key : K) (source : Source) (metric : M) (now : ℕ) (least : sooner ≡ min moment ends) (is : ends ≡ min (now + 180000) (2 ^ 64 - 1)) where
    new_counts : sooner ≤ now + 180000
    new_counts = omega (arith, least_right sooner moment ends least, least_left ends (now + 180000) (2 ^ 64 - 1) is)

    none_old_sooner : NoneOldBefore sooner os
    none_old_sooner j d lt = omega (arith, least_left sooner moment ends least, none j d lt)

    pub none_old_set : (i : ℕ) → NoneOldBefore sooner (set os i (record { key = key; source = source; metric = metric; heard = now }))
    none_old_set i = All-set (CountsUntil sooner) os i (record { key = key; source = source; metric = metric; heard = now }) new_counts none_old_sooner

    pub none_old_inserted : (i : ℕ) → NoneOldBefore sooner (insert os i (record { key = key; source = source; metric = metric; heard = now }))
    none_old_inserted i = All-append (CountsUntil sooner) (take i os) (record { key = key; source = source; metric = metric; heard = now } ∷ drop i os) (All-take (CountsUntil sooner) i os none_old_sooner) (All-cons (CountsUntil sooner) (record { key = key; source = source; metric = metric; heard = now }) (drop i os) new_counts (All-drop (CountsUntil sooner) i os none_old_sooner))

young_before : (moment now heard : ℕ) → moment ≤ heard + 180000 → now < moment → is_young now heard ≡ true
young_before moment now heard counts lt = lt-ltb (now - heard) 180000 (omega (arith, counts, lt))

filter_none_old : {K M : Type 0} (os : List (Offer K M)) (moment now : ℕ) → NoneOldBefore moment os → now < moment → filter (λ o. is_young now o.heard) os ≡ os
filter_none_old [] moment now none lt = refl
filter_none_old (o ∷ os) moment now none lt =
    let rest = filter_none_old os moment now (All-tail (λ o. moment ≤ o.heard + 180000) o os none) lt in
    ap (λ b. cond b (o ∷ filter (λ o. is_young now o.heard) os) (filter (λ o. is_young now o.heard) os)) (young_before moment now o.heard (none 0 o (omega arith)) lt) ∙ ap (λ l. o ∷ l) rest

-- ageing before the first offer expires removes none
module _ {K M : Type 0} {cmp : K → K → Ordering} (o : IsTotalOrder cmp) (os : List (Offer K M)) (apart : HasDistinctKeys (is_same cmp) os) (moment now : ℕ) (none : NoneOldBefore moment os) (lt : now < moment) where
  pub aged_none : (p : K × Source) → content cmp os p ≡ still now (content cmp os p)
  aged_none p = ap (λ l. content cmp l p) (sym (filter_none_old os moment now none lt)) ∙ found_filter (same_equiv o) os now apart p

  pub keys_none : (p : K × Source) → heard_key cmp os p ≡ cond (is_some (content cmp os p)) (heard_key cmp os p) None
  keys_none p =
      ap (λ l. heard_key cmp l p) (sym (filter_none_old os moment now none lt))
      ∙ told_filter (same_equiv o) (λ o. o.key) os now apart p
      ∙ ap (λ v. cond (is_some v) (heard_key cmp os p) None) (sym (aged_none p))

  pub many_none : length os ≡ count_by (λ o. is_young now o.heard) os
  many_none = ap length (sym (filter_none_old os moment now none lt)) ∙ length-filter (λ o. is_young now o.heard) os

-- not all offers are young for longer than the oldest of them
pub no_later_than_oldest : {K M : Type 0} (os : List (Offer K M)) (i moment : ℕ) → IsOldest os i moment → (ends until : ℕ) → ends ≡ min (moment + 180000) (2 ^ 64 - 1) → until < 2 ^ 64 → NoneOldBefore until os → until ≤ ends
no_later_than_oldest [] i moment oldest ends until is fits none = absurd (omega (arith, oldest.in_range))
no_later_than_oldest (x ∷ xs) i moment oldest ends until is fits none = omega (arith, is, fits, none i x oldest.in_range, oldest.heard x)

-- the earliest offer is at the index of its key and source
module _ {K M : Type 0} (cmp : K → K → Ordering) (o : IsTotalOrder (pair_cmp cmp)) (os : List (Offer K M)) (rising : IsRising (pair_cmp cmp) pair_of os) (x : Offer K M) (earliest : IsEarliest (λ (y : Offer K M). y.heard) os x) where
  key_there : (d : Offer K M) → pair_of (get_or os earliest.at d) ≡ pair_of x
  key_there d = ap pair_of (earliest.is d)

  one_place : (at : ℕ) → IsAtKey (pair_cmp cmp) pair_of os (pair_of x) at → at ≡ earliest.at
  one_place at found = elim (cases_lt at earliest.at) [
    | inl below ↦
        let less : pair_cmp cmp (pair_of (get_or os at x)) (pair_of x) ≡ Less = ap (pair_cmp cmp (pair_of (get_or os at x))) (sym (key_there x)) ∙ rising at earliest.at x below earliest.in_range in
        let tie : pair_cmp cmp (pair_of (get_or os at x)) (pair_of x) ≡ Equal = found.ties x in
        absurd (let never : Less ≡ Equal = sym less ∙ tie in cc)
    | inr not_below ↦ elim (cases_lt earliest.at at) [
      | inl above ↦
          let less : pair_cmp cmp (pair_of x) (pair_of (get_or os at x)) ≡ Less = ap (λ k. pair_cmp cmp k (pair_of (get_or os at x))) (sym (key_there x)) ∙ rising earliest.at at x above found.in_range in
          let more : pair_cmp cmp (pair_of (get_or os at x)) (pair_of x) ≡ Greater = o.antisymm (pair_of (get_or os at x)) (pair_of x) ∙ ap ordering_reverse less in
          absurd (let never : Greater ≡ Equal = sym more ∙ found.ties x in cc)
      | inr not_above ↦ omega (arith, not_below, not_above)
    ]
  ]

  pub oldest_at : (at : ℕ) → IsAtKey (pair_cmp cmp) pair_of os (pair_of x) at → IsOldest os at x.heard
  oldest_at at found = record {
    in_range = found.in_range;
    heard = λ d. ap (λ k. (get_or os k d).heard) (one_place at found) ∙ ap (λ (y : Offer K M). y.heard) (earliest.is d);
    first = earliest.first;
  }

  pub never_gap : (at : ℕ) → IsGapFor (pair_cmp cmp) pair_of os (pair_of x) at → ⊥
  never_gap at gap =
      let tie : pair_cmp cmp (pair_of (get_or os earliest.at x)) (pair_of x) ≡ Equal = ap (λ k. pair_cmp cmp k (pair_of x)) (key_there x) ∙ tied_itself o (pair_of x) in
      elim (cases_lt earliest.at at) [
        | inl below ↦ let never : Less ≡ Equal = sym (gap.below earliest.at x below) ∙ tie in cc
        | inr not_below ↦ let never : Greater ≡ Equal = sym (gap.above earliest.at x (omega (arith, not_below)) earliest.in_range) ∙ tie in cc
      ]

-- if the oldest offer is valid, all are
pub all_count : {K M : Type 0} (os : List (Offer K M)) (i moment now : ℕ) → IsOldest os i moment → is_young now moment ≡ true → os ≡ filter (λ o. is_young now o.heard) os
all_count {K} {M} os i moment now oldest young =
    sym (filter_all (λ (o : Offer K M). is_young now o.heard) os (λ j d lt. young_later now moment (get_or os j d).heard (oldest.first j d lt) young))

-- the removal of an expired offer does not change the valid ones
pub old_removed : {K M : Type 0} (os : List (Offer K M)) (i moment now : ℕ) → IsOldest os i moment → is_young now moment ≡ false → filter (λ o. is_young now o.heard) (remove os i) ≡ filter (λ o. is_young now o.heard) os
old_removed {K} {M} os i moment now oldest old =
    filter_without (λ (o : Offer K M). is_young now o.heard) os i oldest.in_range (λ d. ap (is_young now) (oldest.heard d) ∙ old)
