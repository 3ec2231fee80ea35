-- A binary search in offers that rise.
use Rattle.std.proofs.Common.{◌≡◌, ℕ, zero, suc, ◌+◌, ◌-◌, ◌*◌, ◌/◌, ◌^◌, ◌<◌, ◌≤◌, Bool, true, false, List, [], ◌∷◌, length, get_or, take, drop, cond, Option, Some, ◌⊎◌, inl, inr, refl, sym, ap, ◌∙◌, arith}
use mathlib.Core.Bool.{◌&&◌}
use Rattle.std.specs.Cmp.{IsTotalOrder}
use Rattle.std.specs.Ordering.{is_lt, is_eq, ordering_then}
use Rattle.std.specs.declared.cmp.Ordering.{Ordering}
use Rattle.std.specs.declared.cmp.Ordering.TheVariants.{Less, Equal, Greater}
use Rattle.std.proofs.lemmas.Bool.{cases_lt}
use Rattle.std.proofs.lemmas.Cmp.{alike_right}
use Rattle.std.specs.List.{All, count_by}
use Rattle.std.proofs.lemmas.List.{get_or-take}
use Rattle.std.proofs.lemmas.List.Sums.{sum_by-le, sum_by-take-drop}
use Rattle.std.proofs.lemmas.Grind.{common_steps}
use Rattle.ipx_tables.specs.declared.offer.Offer.{Offer}
use Rattle.ipx_tables.specs.Content.{pair_of, pair_cmp, is_young}
use Rattle.ipx_tables.specs.OfferScan.{best_from, better_of, is_candidate}
use Rattle.ipx_tables.specs.Sorted.{IsRising}

-- half of what is below a power is below the power before it
halved : (n k : ℕ) → 0 < n → n < 2 ^ k → (1 ≤ k) × (n / 2 < 2 ^ (k - 1))
halved n zero p h = absurd (omega (arith, h))
halved n (suc k) p h = grind (arith, common_steps)

-- one step of a binary search uses up a digit
pub halving : (size next old steps new digits : ℕ) → 0 < size → next ≤ size / 2 → new ≡ steps + 1 → (steps ≤ old + digits) × (size < 2 ^ (old + digits - steps)) → (new ≤ old + digits) × (next < 2 ^ (old + digits - new))
halving size next old steps new digits p q r h =
    let half = halved size _ p h.1 in
    let power : old + digits - new ≡ old + digits - steps - 1 = omega arith in
    (omega (arith, half.0), rw power (omega (arith, half.1)))

is_less : (r : Ordering) → is_lt r ≡ true → r ≡ Less
is_less Less h = refl
is_less Equal h = cc
is_less Greater h = cc

is_equal : (r : Ordering) → is_eq r ≡ true → r ≡ Equal
is_equal Less h = cc
is_equal Equal h = refl
is_equal Greater h = cc

first_of_two : (a b : Ordering) → ordering_then a b ≡ Less → (a ≡ Less) ⊎ (a ≡ Equal)
first_of_two Less b h = inl refl
first_of_two Equal b h = inr refl
first_of_two Greater b h = cc

pub less_not_equal : (r : Ordering) → is_lt r ≡ true → is_eq r ≡ false
less_not_equal Less h = refl
less_not_equal Equal h = cc
less_not_equal Greater h = refl

module _ {K M : Type 0} {cmp : K → K → Ordering} (o : IsTotalOrder cmp) (os : List (Offer K M)) (rising : IsRising (pair_cmp cmp) pair_of os) (key : K) where
  abbrev key_at : Offer K M → ℕ → K
  key_at d i = (get_or os i d).key

  -- all before an offer below the key is below it
  pub low_keys : (i j : ℕ) (d : Offer K M) → i ≤ j → j < length os → is_lt (cmp (key_at d j) key) ≡ true → is_lt (cmp (key_at d i) key) ≡ true
  low_keys i j d le within h = elim (cases_lt i j) [
    | inl lt ↦ elim (first_of_two _ _ (rising i j d lt within)) [
      | inl less ↦ ap is_lt (o.trans _ _ _ less (is_less _ h))
      | inr equal ↦ ap is_lt (o.congr _ _ key equal) ∙ h
    ]
    | inr ge ↦ let same : i ≡ j = omega arith in rw same h
  ]

  -- all after an offer that is not below the key is not below it
  pub high_keys : (i j : ℕ) (d : Offer K M) → i ≤ j → j < length os → is_lt (cmp (key_at d i) key) ≡ false → is_lt (cmp (key_at d j) key) ≡ false
  high_keys i j d le within h = elim (is_lt (cmp (key_at d j) key)) as (λ b. is_lt (cmp (key_at d j) key) ≡ b → b ≡ false) [
    | true ↦ λ e. let low = low_keys i j d le within e in cc
    | false ↦ λ e. refl
  ] refl

  -- after an offer above the key none has the key
  pub past_keys : (i j : ℕ) (d : Offer K M) → i ≤ j → j < length os → is_lt (cmp (key_at d i) key) ≡ false → is_eq (cmp (key_at d i) key) ≡ false → is_eq (cmp (key_at d j) key) ≡ false
  past_keys i j d le within not_less not_equal = elim (cases_lt i j) [
    | inl lt ↦ elim (is_eq (cmp (key_at d j) key)) as (λ b. is_eq (cmp (key_at d j) key) ≡ b → b ≡ false) [
      | true ↦ λ e. elim (first_of_two _ _ (rising i j d lt within)) [
        | inl less ↦ let both : is_lt (cmp (key_at d i) key) ≡ true = ap is_lt (sym (alike_right o _ _ _ (is_equal _ e)) ∙ less) in cc
        | inr equal ↦ let both : is_eq (cmp (key_at d i) key) ≡ true = ap is_eq (o.congr _ _ key equal) ∙ e in cc
      ]
      | false ↦ λ e. refl
    ] refl
    | inr ge ↦ let same : i ≡ j = omega arith in rw (← same) not_equal
  ]

module _ {X : Type 0} (test : X → Bool) (beats : X → X → Bool) where
  -- items at the front that do not pass are skipped
  pub best_skips : (i : ℕ) (xs : List X) (best : Option X) → ((j : ℕ) (d : X) → j < i → j < length xs → test (get_or xs j d) ≡ false) → best_from test beats best (drop i xs) ≡ best_from test beats best xs
  best_skips zero xs best h = refl
  best_skips (suc i) [] best h = refl
  best_skips (suc i) (x ∷ xs) best h =
      best_skips i xs best (λ j d lt within. h (suc j) d (omega arith) (omega (arith, within)))
      ∙ ap (λ b. best_from test beats (cond b (Some (better_of beats best x)) best) xs) (sym (h 0 x (omega arith) (omega arith)))

  -- if none passes, the best stays
  pub best_stays : (xs : List X) (best : Option X) → ((j : ℕ) (d : X) → j < length xs → test (get_or xs j d) ≡ false) → best_from test beats best xs ≡ best
  best_stays [] best h = refl
  best_stays (x ∷ xs) best h =
      ap (λ b. best_from test beats (cond b (Some (better_of beats best x)) best) xs) (h 0 x (omega arith))
      ∙ best_stays xs best (λ j d within. h (suc j) d (omega (arith, within)))

module _ {K M : Type 0} (cmp : K → K → Ordering) (key : K) (now : ℕ) where
  -- an offer of another key is no candidate
  pub no_candidate : (x : Offer K M) → is_eq (cmp x.key key) ≡ false → is_candidate cmp key now x ≡ false
  no_candidate x h = ap (λ b. b && is_young now x.heard) h

module _ {X : Type 0} (p : X → Bool) where
  -- if none passes, none is counted
  pub count_none : (xs : List X) → ((j : ℕ) (d : X) → j < length xs → p (get_or xs j d) ≡ false) → count_by p xs ≡ 0
  count_none xs none =
      let each : All (λ x. cond (p x) 1 0 ≤ 0) xs = λ j d lt. rw (none j d lt) (omega arith) in
      let few : count_by p xs ≤ length xs * 0 = sum_by-le (λ x. cond (p x) 1 0) 0 xs each in
      omega (arith, few)

  -- if none passes from an index on, those before it are counted
  pub count_front : (xs : List X) (i : ℕ) → ((j : ℕ) (d : X) → j < length (drop i xs) → p (get_or (drop i xs) j d) ≡ false) → count_by p xs ≡ count_by p (take i xs)
  count_front xs i none =
      let parts : count_by p (take i xs) + count_by p (drop i xs) ≡ count_by p xs = sum_by-take-drop (λ x. cond (p x) 1 0) xs i in
      omega (arith, parts, count_none (drop i xs) none)

  -- if none passes before an index, none is counted there
  pub count_back : (xs : List X) (i : ℕ) → ((j : ℕ) (d : X) → j < i → j < length xs → p (get_or xs j d) ≡ false) → count_by p (take i xs) ≡ 0
  count_back xs i none = count_none (take i xs) (λ j d lt.
      let short : (j < i) × (j < length xs) = grind (arith, common_steps, lt) in
      rw (get_or-take i xs j d short.0) (none j d short.0 short.1))
