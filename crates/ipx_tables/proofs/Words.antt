-- Bytes compared as big-endian numbers, eight at a time.
use Rattle.std.proofs.Common.{◌≡◌, ℕ, suc, ◌+◌, ◌*◌, ◌^◌, ◌<◌, ◌≤◌, List, [], ◌∷◌, ◌++◌, length, get_or, take, drop, refl, sym, ap, ◌∙◌, subst, inl, inr, arith}
use Rattle.std.proofs.Math.Nat.{mul_comm, pow-suc}
use Rattle.std.specs.Cmp.Lexicographic.{slice_cmp}
use Rattle.std.specs.Ordering.{nat_cmp, ordering_then}
use Rattle.std.specs.declared.cmp.Ordering.{Ordering}
use Rattle.std.specs.declared.cmp.Ordering.TheVariants.{Less, Equal, Greater}
use Rattle.std.proofs.lemmas.Bool.{cases_lt}
use Rattle.std.proofs.lemmas.Bool.Decides.{nat_tests}
use Rattle.std.proofs.lemmas.List.{drop-drop, get_or-drop, get_or-take, get_or_past, length-drop, length-take, take-append-drop}
use Rattle.std.proofs.lemmas.Nat.{mul-add-lt}
use Rattle.ipx_tables.specs.Spelled.{spelled}

-- each is below 256
abbrev pub AreBytes : List ℕ → Type 0
AreBytes xs = (i : ℕ) → get_or xs i 0 < 256

spelled_below : (xs : List ℕ) → AreBytes xs → spelled xs < 256 ^ length xs
spelled_below [] bytes = omega arith
spelled_below (x ∷ xs) bytes = omega (arith, mul-add-lt x (256 ^ length xs) (spelled xs) 256 (bytes 0) (spelled_below xs (λ i. bytes (suc i))), pow-suc 256 (length xs))

is_less : (a b : ℕ) → a < b → nat_cmp a b ≡ Less
is_less a b lt = grind (arith, nat_tests)

is_greater : (a b : ℕ) → b < a → nat_cmp a b ≡ Greater
is_greater a b lt = grind (arith, nat_tests)

is_equal : (a : ℕ) → nat_cmp a a ≡ Equal
is_equal a = grind (arith, nat_tests)

moved : (a r s : ℕ) → nat_cmp (a + r) (a + s) ≡ nat_cmp r s
moved a r s = elim (cases_lt r s) [
  | inl less ↦ is_less (a + r) (a + s) (omega (arith, less)) ∙ sym (is_less r s less)
  | inr not_less ↦ elim (cases_lt s r) [
    | inl more ↦ is_greater (a + r) (a + s) (omega (arith, more)) ∙ sym (is_greater r s more)
    | inr not_more ↦ let same : r ≡ s = omega (arith, not_less, not_more) in rw same (is_equal (a + s) ∙ sym (is_equal s))
  ]
]

-- the first digit decides, or if it is equal, the rest
first_digit : (x y p r s : ℕ) → r < p → s < p → nat_cmp (x * p + r) (y * p + s) ≡ ordering_then (nat_cmp x y) (nat_cmp r s)
first_digit x y p r s r_low s_low = elim (cases_lt x y) [
  | inl less ↦
      is_less (x * p + r) (y * p + s) (omega (arith, mul-add-lt x p r y less r_low, mul_comm p y))
      ∙ sym (ap (λ o. ordering_then o (nat_cmp r s)) (is_less x y less))
  | inr not_less ↦ elim (cases_lt y x) [
    | inl more ↦
        is_greater (x * p + r) (y * p + s) (omega (arith, mul-add-lt y p s x more s_low, mul_comm p x))
        ∙ sym (ap (λ o. ordering_then o (nat_cmp r s)) (is_greater x y more))
    | inr not_more ↦
        let same : x ≡ y = omega (arith, not_less, not_more) in
        rw same (moved (y * p) r s ∙ sym (ap (λ o. ordering_then o (nat_cmp r s)) (is_equal y)))
  ]
]

-- bytes compare like their big-endian numbers
pub by_number : (xs ys : List ℕ) → length xs ≡ length ys → AreBytes xs → AreBytes ys → nat_cmp (spelled xs) (spelled ys) ≡ slice_cmp nat_cmp xs ys
by_number [] [] long of_x of_y = refl
by_number [] (y ∷ ys) long of_x of_y = absurd (omega (arith, long))
by_number (x ∷ xs) [] long of_x of_y = absurd (omega (arith, long))
by_number (x ∷ xs) (y ∷ ys) long of_x of_y =
    let rest_long : length xs ≡ length ys = omega (arith, long) in
    let x_bytes : AreBytes xs = λ i. of_x (suc i) in
    let y_bytes : AreBytes ys = λ i. of_y (suc i) in
    let rest = by_number xs ys rest_long x_bytes y_bytes in
    let p : ℕ = 256 ^ length xs in
    let y_below : spelled ys < p = subst (λ n. spelled ys < 256 ^ n) (sym rest_long) (spelled_below ys y_bytes) in
    ap (λ n. nat_cmp (x * p + spelled xs) (y * 256 ^ n + spelled ys)) (sym rest_long)
    ∙ first_digit x y p (spelled xs) (spelled ys) (spelled_below xs x_bytes) y_below
    ∙ ap (ordering_then (nat_cmp x y)) rest

then_then : (a b c : Ordering) → ordering_then a (ordering_then b c) ≡ ordering_then (ordering_then a b) c
then_then Less b c = refl
then_then Equal b c = refl
then_then Greater b c = refl

-- the fronts decide, or if they are equal, the rest
fronts_first : (xs ys us vs : List ℕ) → length xs ≡ length ys → slice_cmp nat_cmp (xs ++ us) (ys ++ vs) ≡ ordering_then (slice_cmp nat_cmp xs ys) (slice_cmp nat_cmp us vs)
fronts_first [] [] us vs long = refl
fronts_first [] (y ∷ ys) us vs long = absurd (omega (arith, long))
fronts_first (x ∷ xs) [] us vs long = absurd (omega (arith, long))
fronts_first (x ∷ xs) (y ∷ ys) us vs long =
    ap (ordering_then (nat_cmp x y)) (fronts_first xs ys us vs (omega (arith, long)))
    ∙ then_then (nat_cmp x y) (slice_cmp nat_cmp xs ys) (slice_cmp nat_cmp us vs)

bytes_taken : (xs : List ℕ) (n i : ℕ) → AreBytes xs → AreBytes (take n (drop i xs))
bytes_taken xs n i bytes j = elim (cases_lt j n) [
  | inl low ↦ omega (arith, get_or-take n (drop i xs) j 0 low, get_or-drop i xs j 0, bytes (i + j))
  | inr high ↦ omega (arith, get_or_past (take n (drop i xs)) j 0 (omega (arith, high, length-take n (drop i xs))))
]

module _ (xs ys : List ℕ) (same : length xs ≡ length ys) (of_x : AreBytes xs) (of_y : AreBytes ys) (i x y : ℕ) (within : i + 8 ≤ length xs) (is_x : x ≡ spelled (take 8 (drop i xs))) (is_y : y ≡ spelled (take 8 (drop i ys))) where
  -- eight bytes decide, or if they are equal, the rest
  pub word_first : slice_cmp nat_cmp (drop i xs) (drop i ys) ≡ ordering_then (nat_cmp x y) (slice_cmp nat_cmp (drop (i + 8) xs) (drop (i + 8) ys))
  word_first =
      let a : List ℕ = take 8 (drop i xs) in
      let b : List ℕ = take 8 (drop i ys) in
      let long : length a ≡ length b = omega (arith, length-take 8 (drop i xs), length-take 8 (drop i ys), length-drop i xs, length-drop i ys, same, within) in
      let number : nat_cmp x y ≡ slice_cmp nat_cmp a b =
      ap (λ n. nat_cmp n y) is_x ∙ ap (nat_cmp (spelled a)) is_y
      ∙ by_number a b long (bytes_taken xs 8 i of_x) (bytes_taken ys 8 i of_y) in
      ap (λ l. slice_cmp nat_cmp l (drop i ys)) (sym (take-append-drop 8 (drop i xs)))
      ∙ ap (slice_cmp nat_cmp (a ++ drop 8 (drop i xs))) (sym (take-append-drop 8 (drop i ys)))
      ∙ fronts_first a b (drop 8 (drop i xs)) (drop 8 (drop i ys)) long
      ∙ ap (λ o. ordering_then o (slice_cmp nat_cmp (drop 8 (drop i xs)) (drop 8 (drop i ys)))) (sym number)
      ∙ ap (λ l. ordering_then (nat_cmp x y) (slice_cmp nat_cmp l (drop 8 (drop i ys)))) (drop-drop 8 i xs)
      ∙ ap (λ l. ordering_then (nat_cmp x y) (slice_cmp nat_cmp (drop (i + 8) xs) l)) (drop-drop 8 i ys)

  pub word_ties : x ≡ y → slice_cmp nat_cmp (drop (i + 8) xs) (drop (i + 8) ys) ≡ slice_cmp nat_cmp (drop i xs) (drop i ys)
  word_ties tie = sym (word_first ∙ ap (λ o. ordering_then o (slice_cmp nat_cmp (drop (i + 8) xs) (drop (i + 8) ys))) (ap (λ n. nat_cmp n y) tie ∙ is_equal y))

  pub word_decides : (x ≡ y → ⊥) → slice_cmp nat_cmp (drop i xs) (drop i ys) ≡ nat_cmp x y
  word_decides differ = word_first ∙ elim (cases_lt x y) [
    | inl less ↦ ap (λ o. ordering_then o (slice_cmp nat_cmp (drop (i + 8) xs) (drop (i + 8) ys))) (is_less x y less) ∙ sym (is_less x y less)
    | inr not_less ↦ elim (cases_lt y x) [
      | inl more ↦ ap (λ o. ordering_then o (slice_cmp nat_cmp (drop (i + 8) xs) (drop (i + 8) ys))) (is_greater x y more) ∙ sym (is_greater x y more)
      | inr not_more ↦ absurd (differ (omega (arith, not_less, not_more)))
    ]
  ]
