-- From lines that were made to what was written.
use Rattle.std.proofs.Common.{◌≡◌, ℕ, ◌≤◌, List, length, take, Option, Some, None, Result, Ok, Err, ◌∙◌, ap, arith, subst}
use Rattle.std.specs.Prelude.{IfOk, IfSome, IsOkAnd}
use Rattle.std.specs.Io.KnownBytes.{Appends}
use Rattle.std.proofs.lemmas.List.{length-take}
use Rattle.ipx_sim.specs.Script.{IsTooLong}

-- lines with known text and status, and the result of writing them
pub told : {L E F : Type 0} (lines : Result L E) (result : Result ℕ F) (text : L → List ℕ) (status : L → ℕ) (t : List ℕ) (s : ℕ) (a b : Option (List ℕ))
    → IfOk lines (λ l. (text l ≡ t) × (status l ≡ s)) → IfOk result (λ k. IsOkAnd lines (λ l. (k ≡ status l) × Appends a b (text l)))
    → IfOk result (λ k. (k ≡ s) × Appends a b t)
told lines (Err e) text status t s a b made wrote = tt
told (Err e) (Ok k) text status t s a b made wrote = absurd wrote
told (Ok l) (Ok k) text status t s a b made wrote = (wrote.0 ∙ made.1, subst (λ (u : List ℕ). Appends a b u) made.0 wrote.1)

-- what holds for any input holds for those that are too long
pub long_told : {F : Type 0} (result : Result ℕ F) (known : Option (List ℕ)) (P : ℕ → Type 0) → IfOk result P → IfOk result (λ s. IfSome known (λ input. IsTooLong input → P s))
long_told (Err e) known P all = tt
long_told (Ok s) None P all = tt
long_told (Ok s) (Some input) P all = λ long. all

-- an input of which at most 1,000,000 bytes were read is not too long
pub not_long : {F : Type 0} (result : Result ℕ F) (known : Option (List ℕ)) (text : List ℕ) (P : ℕ → Type 0) → IfSome known (λ input. text ≡ take 1000001 input) → length text ≤ 1000000
    → IfOk result (λ s. IfSome known (λ input. IsTooLong input → P s))
not_long (Err e) known text P read short = tt
not_long (Ok s) None text P read short = tt
not_long (Ok s) (Some input) text P read short = λ long. absurd (omega (arith, length-take 1000001 input, ap length read, short, long))
