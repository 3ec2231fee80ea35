-- From one reading to one output and one status.
use Rattle.std.proofs.Common.{◌≡◌, ℕ, Bool, true, false, List, [], ◌∷◌, ◌++◌, map, Option, Some, None, sym, ap, ◌∙◌, refl}
use Rattle.std.specs.Prelude.{MatchBool, MatchOption, nat_lt, length, codes, if◌then◌else◌, ◌==◌}
use Rattle.std.specs.List.{AllZip, list_all, take_while}
use Rattle.std.specs.Result.{result_ok}
use Rattle.hex.specs.Hex.{decode_of}
use Rattle.ipx_inspect.specs.Line.{bad_line}
use Rattle.ipx_inspect.specs.Decoded.{DecodedView, IsDecoded}
use Rattle.ipx_inspect.specs.ShowLine.{reading_lines, reading_status}
use Rattle.ipx_inspect.specs.Show.{Shows, ShowWrites}
use Rattle.ipx_inspect.specs.CheckLine.{LineView, Skipped, Vector, Malformed, input_lines, line_form}
use Rattle.ipx_inspect.specs.Check.{CheckWrites, ChecksLines, IsVectorOutcome, VectorOutcomeView, Passed, Failed, check_status, failed_lines, is_known, last_line, outcome}

-- bytes are read as one thing
abbrev pub OneReading : Type 0
OneReading = (bytes : List ℕ) (a b : DecodedView) → IsDecoded bytes a → IsDecoded bytes b → a ≡ b

shows_one : OneReading → (bytes a b : List ℕ) (s t : ℕ) → Shows bytes a s → Shows bytes b t → (a ≡ b) × (s ≡ t)
shows_one one bytes a b s t x y =
    let same = one bytes x.0 y.0 x.1 y.1 in
    (x.2 ∙ ap reading_lines same ∙ sym y.2, x.3 ∙ ap reading_status same ∙ sym y.3)

ShowsText : Option (List ℕ) → List ℕ → ℕ → Type 0
ShowsText bytes lines status = MatchOption bytes ((lines ≡ bad_line) × (status ≡ 2)) (λ b. Shows b lines status)

shows_text_one : OneReading → (bytes : Option (List ℕ)) (a b : List ℕ) (s t : ℕ) → ShowsText bytes a s → ShowsText bytes b t → (a ≡ b) × (s ≡ t)
unfolding ShowsText
shows_text_one one None a b s t x y = (x.0 ∙ sym y.0, x.1 ∙ sym y.1)
shows_text_one one (Some bytes) a b s t x y = shows_one one bytes a b s t x y

pub show_writes_one : OneReading → (text a b : List ℕ) (s t : ℕ) → ShowWrites text a s → ShowWrites text b t → (a ≡ b) × (s ≡ t)
unfolding ShowsText
show_writes_one one text a b s t x y = shows_text_one one (result_ok (decode_of text)) a b s t x y

verdict_one : OneReading → (l : LineView) (v w : VectorOutcomeView) → IsVectorOutcome l v → IsVectorOutcome l w → v ≡ w
verdict_one one Skipped v w x y = x ∙ sym y
verdict_one one (Vector number bytes) v w x y =
    let same = one bytes x.0 y.0 x.1 y.1 in
    x.2 ∙ ap (λ (r : DecodedView). if outcome r == number then Passed else Failed) same ∙ sym y.2
verdict_one one Malformed v w x y = absurd x

verdicts_one : OneReading → (ls : List LineView) (vs ws : List VectorOutcomeView) → AllZip IsVectorOutcome ls vs → AllZip IsVectorOutcome ls ws → vs ≡ ws
verdicts_one one [] [] [] x y = refl
verdicts_one one [] [] (w ∷ ws) x y = absurd y
verdicts_one one [] (v ∷ vs) ws x y = absurd x
verdicts_one one (l ∷ ls) [] ws x y = absurd x
verdicts_one one (l ∷ ls) (v ∷ vs) [] x y = absurd y
verdicts_one one (l ∷ ls) (v ∷ vs) (w ∷ ws) x y =
    let first = verdict_one one l v w x.0 y.0 in
    let rest = verdicts_one one ls vs ws x.1 y.1 in
    λ i. first i ∷ rest i

checks_one : OneReading → (lines : List LineView) (a b : List ℕ) (s t : ℕ) → ChecksLines lines a s → ChecksLines lines b t → (a ≡ b) × (s ≡ t)
checks_one one lines a b s t x y =
    let same = verdicts_one one (take_while is_known lines) x.0 y.0 x.1 y.1 in
    let all = list_all is_known lines in
    (x.2 ∙ ap (λ (vs : List VectorOutcomeView). failed_lines vs ++ last_line all vs) same ∙ sym y.2, x.3 ∙ ap (check_status all) same ∙ sym y.3)

ChecksInput : Bool → List LineView → List ℕ → ℕ → Type 0
ChecksInput long lines text status = MatchBool long ((text ≡ codes "line 0 bad\n") × (status ≡ 2)) (ChecksLines lines text status)

checks_input_one : OneReading → (long : Bool) (lines : List LineView) (a b : List ℕ) (s t : ℕ) → ChecksInput long lines a s → ChecksInput long lines b t → (a ≡ b) × (s ≡ t)
unfolding ChecksInput
checks_input_one one true lines a b s t x y = (x.0 ∙ sym y.0, x.1 ∙ sym y.1)
checks_input_one one false lines a b s t x y = checks_one one lines a b s t x y

pub check_writes_one : OneReading → (input a b : List ℕ) (s t : ℕ) → CheckWrites input a s → CheckWrites input b t → (a ≡ b) × (s ≡ t)
unfolding ChecksInput
check_writes_one one input a b s t x y = checks_input_one one (nat_lt 1000000 (length input)) (map line_form (input_lines input)) a b s t x y
