-- An input that is not too long.
use Rattle.std.proofs.Common.{◌≡◌, ℕ, ◌≤◌, List, length, take, Option, Some, None, Result, Ok, Err, ap, arith}
use Rattle.std.specs.Prelude.{IfOk, IfSome}
use Rattle.std.proofs.lemmas.List.{length-take}
use Rattle.ipx_sim.specs.Script.{IsTooLong}

-- one of which at most 1,000,000 bytes were read
pub not_long : {F : Type 0} (result : Result ℕ F) (known : Option (List ℕ)) (text : List ℕ) (P : ℕ → Type 0) → IfSome known (λ input. text ≡ take 1000001 input) → length text ≤ 1000000
    → IfOk result (λ s. IfSome known (λ input. IsTooLong input → P s))
not_long (Err e) known text P read short = tt
not_long (Ok s) None text P read short = tt
not_long (Ok s) (Some input) text P read short = λ long. absurd (omega (arith, length-take 1000001 input, ap length read, short, long))
