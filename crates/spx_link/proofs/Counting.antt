-- How many units stand from a place of a ring on.
use Rattle.std.proofs.Common.{◌≡◌, ℕ, zero, suc, ◌+◌, List, [], ◌∷◌, length, drop, Option, None, Some, slice_get, is_some, Bool, true, false, if◌then◌else◌, Bor, refl, sym, ap, ◌∙◌, arith}
use Rattle.std.proofs.Math.Seq.{drop-nil}
use Rattle.std.specs.Option.{option_copied}
use Rattle.spx_link.specs.declared.unit.Unit.{Unit}
use Rattle.spx_link.specs.Buffers.{there, unit_there}

-- one more, where the place has a unit
pub counted : (xs : List (Option Unit)) (k : ℕ) (b : Bool) → is_some (unit_there (slice_get xs k)) ≡ b → length (there (drop k xs)) ≡ (if b then 1 else 0) + length (there (drop (k + 1) xs))
counted [] k true e = cc
counted [] k false e =
    let f : List (Option Unit) → ℕ = λ ys. length (there ys) in
    let same : length (there (drop {A = Option Unit} k [])) ≡ length (there (drop {A = Option Unit} (k + 1) [])) = ap f (drop-nil {A = Option Unit} k) ∙ sym (ap f (drop-nil {A = Option Unit} (k + 1))) in
    omega (arith, same)
counted (None ∷ xs) zero true e = cc
counted (None ∷ xs) zero false e = omega arith
counted (Some u ∷ xs) zero true e = omega arith
counted (Some u ∷ xs) zero false e = cc
counted (x ∷ xs) (suc k) b e =
    let next : suc k + 1 ≡ suc (k + 1) = omega arith in
    counted xs k b e ∙ ap (λ (n : ℕ). (if b then 1 else 0) + length (there (drop n (x ∷ xs)))) (sym next)

copied_some : (o : Option (Bor Unit)) → is_some (option_copied o) ≡ is_some o
copied_some None = refl
copied_some (Some u) = refl

-- so many before a place, and one more or none there
pub counts_on : (xs : List (Option Unit)) (k before more : ℕ) (o : Option (Bor Unit)) (b : Bool) → option_copied o ≡ unit_there (slice_get xs k) → b ≡ is_some o → more ≡ before + (if b then 1 else 0) → more + length (there (drop (k + 1) xs)) ≡ before + length (there (drop k xs))
counts_on xs k before more o b read test is =
    let here : is_some (unit_there (slice_get xs k)) ≡ b = sym (ap is_some read) ∙ copied_some o ∙ sym test in
    let step = counted xs k b here in
    omega (arith, is)
