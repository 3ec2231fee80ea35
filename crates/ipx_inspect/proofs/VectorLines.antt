-- What a line of vectors is, test by test.
use Rattle.std.proofs.Common.{◌≡◌, ℕ, true, false, List, drop, Some, Result, Ok, Err, sym, ◌∙◌, refl, codes, nat_eq}
use Rattle.std.specs.Prelude.{◌==◌, position, IfOk}
use Rattle.std.specs.List.{list_all, starts_with}
use Rattle.std.specs.Result.{result_ok}
use Rattle.hex.specs.Hex.{decode_of}
use Rattle.ipx_inspect.specs.CheckLine.{LineView, bad_vector, line_form, vector_of}

pub ok_line : (line : List ℕ) → list_all (λ b. b == 32) line ≡ false → starts_with nat_eq line (codes "#") ≡ false → starts_with nat_eq line (codes "ok ") ≡ true
    → line_form line ≡ vector_of (Some 0) (result_ok (decode_of (drop 3 line)))
ok_line line a b d = rw (a, b, d) refl

pub bad_line : (line : List ℕ) → list_all (λ b. b == 32) line ≡ false → starts_with nat_eq line (codes "#") ≡ false → starts_with nat_eq line (codes "ok ") ≡ false → starts_with nat_eq line (codes "bad ") ≡ true
    → line_form line ≡ bad_vector (drop 4 line) (position (λ b. b == 32) (drop 4 line))
bad_line line a b d e = rw (a, b, d, e) refl

-- a line that is read as a vector is of the form of that vector
pub read_as : {L E : Type 0} (view : L → LineView) (r : Result L E) (form line : LineView) → line ≡ form → IfOk r (λ l. view l ≡ form) → IfOk r (λ l. view l ≡ line)
read_as view (Ok l) form line same is = is ∙ sym same
read_as view (Err e) form line same is = tt
