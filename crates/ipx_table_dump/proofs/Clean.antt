-- No word of a text of tables has the byte at which words or lines are parted.
use Rattle.std.proofs.Common.{◌≡◌, ◌<◌, ℕ, zero, suc, ◌+◌, true, false, List, ◌++◌, [], ◌∷◌, length, get_or, refl, arith, if◌then◌else◌}
use Rattle.std.specs.Prelude.{◌==◌, ◌/◌, ◌%◌, ◌&&◌, nat_le, nat_lt, not, codes}
use Rattle.std.specs.Fmt.{decimal, digit_glyph, digits, digits_onto}
use Rattle.std.specs.List.{AllByRecursion, before_first, flat_map}
use Rattle.hex.specs.Hex.{encode_lower, encode_with, lower_digits}
use Rattle.ipx_inspect.specs.ShowLine.{name_byte, name_text}

-- a byte is another one, and none of a text is it
abbrev pub IsOther : ℕ → ℕ → Type 0
IsOther c b = (b == c) ≡ false

abbrev pub IsFree : ℕ → List ℕ → Type 0
IsFree c bytes = AllByRecursion (IsOther c) bytes

pub free_append : (c : ℕ) (xs ys : List ℕ) → IsFree c xs → IsFree c ys → IsFree c (xs ++ ys)
free_append c [] ys h k = k
free_append c (x ∷ xs) ys h k = (h.0, free_append c xs ys h.1 k)

pub free_flat : (c : ℕ) (f : ℕ → List ℕ) → ((b : ℕ) → IsFree c (f b)) → (bs : List ℕ) → IsFree c (flat_map f bs)
free_flat c f each [] = tt
free_flat c f each (b ∷ bs) = free_append c (f b) (flat_map f bs) (each b) (free_flat c f each bs)

free_index : (c : ℕ) (t : List ℕ) (i : ℕ) → IsOther c 0 → IsFree c t → IsOther c (get_or t i 0)
free_index c [] i none free = none
free_index c (x ∷ t) zero none free = free.0
free_index c (x ∷ t) (suc i) none free = free_index c t i none free.1

above : (c b : ℕ) → c < b → (b == c) ≡ false
above c b lt = grind (arith, lt)

module _ (c : ℕ) (low : c < 33) (none : IsOther c 0) (hex : IsFree c lower_digits) where
  free_glyph : (d : ℕ) → IsOther c (digit_glyph false d)
  free_glyph d = elim (nat_lt d 10) as (λ b. IsOther c (if b then 48 + d else 87 + d)) [
    | true ↦ above c (48 + d) (omega (arith, low))
    | false ↦ above c (87 + d) (omega (arith, low))
  ]

  free_onto : (k n : ℕ) (acc : List ℕ) → IsFree c acc → IsFree c (digits_onto k 10 false n acc)
  free_onto zero n acc free = free
  free_onto (suc k) n acc free = elim (n / 10 == 0) as (λ b. IsFree c (if b then digit_glyph false (n % 10) ∷ acc else digits_onto k 10 false (n / 10) (digit_glyph false (n % 10) ∷ acc))) [
    | true ↦ (free_glyph (n % 10), free)
    | false ↦ free_onto k (n / 10) (digit_glyph false (n % 10) ∷ acc) (free_glyph (n % 10), free)
  ]

  pub free_decimal : (n : ℕ) → IsFree c (decimal n)
  unfolding digits
  free_decimal n = free_onto 64 n [] tt

  pub free_hex : (bytes : List ℕ) → IsFree c (encode_lower bytes)
  unfolding encode_with
  free_hex [] = tt
  free_hex (b ∷ bytes) = (free_index c lower_digits (b / 16) none hex, (free_index c lower_digits (b % 16) none hex, free_hex bytes))

  free_name_byte : IsOther c 0x5c → IsOther c 0x78 → (b : ℕ) → IsFree c (name_byte b)
  free_name_byte slash ex b = elim (nat_le 0x21 b) as (λ t. nat_le 0x21 b ≡ t → IsFree c (if (t && nat_le b 0x7e) && not (b == 0x5c) then b ∷ [] else 0x5c ∷ 0x78 ∷ encode_lower (b ∷ []))) [
    | true ↦ λ e. elim (nat_le b 0x7e && not (b == 0x5c)) as (λ t. IsFree c (if t then b ∷ [] else 0x5c ∷ 0x78 ∷ encode_lower (b ∷ []))) [
      | true ↦ (above c b (grind (arith, e, low)), tt)
      | false ↦ (slash, (ex, free_hex (b ∷ [])))
    ]
    | false ↦ λ e. (slash, (ex, free_hex (b ∷ [])))
  ] refl

  pub free_name : IsOther c 0x5c → IsOther c 0x78 → IsOther c 0x2d → (name : List ℕ) → IsFree c (name_text name)
  free_name slash ex dash name = elim (length (before_first (λ b. b == 0) name) == 0) as (λ t. IsFree c (if t then codes "-" else flat_map name_byte (before_first (λ b. b == 0) name))) [
    | true ↦ (dash, tt)
    | false ↦ free_flat c name_byte (free_name_byte slash ex) (before_first (λ b. b == 0) name)
  ]
