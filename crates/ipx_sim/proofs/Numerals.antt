-- Digits, as far as they were read.
use Rattle.std.proofs.Common.{◌≡◌, ℕ, ◌+◌, ◌*◌, ◌^◌, ◌<◌, ◌≤◌, true, false, List, length, get_or, take, None, refl, sym, ◌∙◌, arith, inl, inr}
use Rattle.std.specs.Char.{digit_value, is_digit}
use Rattle.std.specs.List.{list_all}
use Rattle.std.specs.Str.Parse.{digits_value}
use Rattle.std.proofs.lemmas.Bool.{and_from, and_right, cases_Bool, cases_lt, lt-leb}
use Rattle.std.proofs.lemmas.List.Folds.{list_all_at, list_all_more}
use Rattle.std.proofs.lemmas.Int.Digits.{digits_value_more}
use Rattle.std.proofs.lemmas.Str.Parse.{digits_value-take-le}
use Rattle.ipx_sim.specs.ScriptFields.{numeral_up_to}

-- text with another character than digits has no value
pub no_digit : (most radix : ℕ) (ds : List ℕ) (i : ℕ) → i < length ds → is_digit (get_or ds i 0) radix ≡ false → None ≡ numeral_up_to most radix ds
no_digit most radix ds i lt other = rw (list_all_at (λ (c : ℕ). is_digit c radix) ds i 0 lt other) refl

-- nor has text whose value is too great, even if only its first digits are read
pub too_much : (most radix : ℕ) (ds : List ℕ) (i : ℕ) → 1 ≤ radix → most < digits_value radix (take i ds) → None ≡ numeral_up_to most radix ds
too_much most radix ds i some more =
    let above : most < digits_value radix ds = omega (arith, digits_value-take-le radix ds i some, more) in
    rw (lt-leb (digits_value radix ds) most above, and_right (list_all (λ (c : ℕ). is_digit c radix) ds) false refl) refl

-- the number so far, with one more digit after it
pub longer : (radix : ℕ) (ds : List ℕ) (i n : ℕ) → i < length ds → n ≡ digits_value radix (take i ds) → digits_value radix (take (i + 1) ds) ≡ n * radix + digit_value (get_or ds i 0)
longer radix ds i n lt is = rw is (digits_value_more radix ds i lt)

-- a byte at which the reading stops
pub stopped : (most radix : ℕ) (ds : List ℕ) (i n : ℕ) → 1 ≤ radix → most < 2 ^ 32 → i < length ds → n ≡ digits_value radix (take i ds)
    → ((is_digit (get_or ds i 0) radix ≡ true) × (n * radix + digit_value (get_or ds i 0) < 2 ^ 32) → ⊥) → None ≡ numeral_up_to most radix ds
stopped most radix ds i n some small lt is not_so =
    elim (cases_Bool (is_digit (get_or ds i 0) radix)) [
      | inl digit ↦
          let full : 2 ^ 32 ≤ n * radix + digit_value (get_or ds i 0) =
          elim (cases_lt (n * radix + digit_value (get_or ds i 0)) (2 ^ 32)) [ inl less ↦ absurd (not_so (digit, less)) | inr enough ↦ enough ] in
          too_much most radix ds (i + 1) some (omega (arith, longer radix ds i n lt is, full, small))
      | inr other ↦ no_digit most radix ds i lt other
    ]

-- one digit more
pub one_more : (radix : ℕ) (ds : List ℕ) (i n m : ℕ) → i < length ds → (n ≡ digits_value radix (take i ds)) × (list_all (λ c. is_digit c radix) (take i ds) ≡ true)
    → ((is_digit (get_or ds i 0) radix ≡ true) × (n * radix + digit_value (get_or ds i 0) < 2 ^ 32)) × (m ≡ n * radix + digit_value (get_or ds i 0))
    → (m ≡ digits_value radix (take (i + 1) ds)) × (list_all (λ c. is_digit c radix) (take (i + 1) ds) ≡ true)
one_more radix ds i n m lt was more = (
  more.1 ∙ sym (longer radix ds i n lt was.0),
  list_all_more (λ (c : ℕ). is_digit c radix) ds i 0 lt ∙ and_from (list_all (λ (c : ℕ). is_digit c radix) (take i ds)) (is_digit (get_or ds i 0) radix) was.1 more.0.0,
)
