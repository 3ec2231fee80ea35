-- What `check` writes for the vectors that it reads.
use Rattle.std.specs.Prelude.{◌≡◌, ℕ, ◌+◌, Bool, true, false, List, [], ◌∷◌, ◌++◌, length, map, codes, count_by, nat_lt, ◌==◌, if◌then◌else◌, MatchBool}
use Rattle.std.specs.List.{AllZip, enumerate_from, flat_map, list_all, take_while}
use Rattle.std.specs.Fmt.{decimal}
use Rattle.ipx_wire.specs.Ipx.{ipx_fault_number}
use Rattle.ipx_wire.specs.Spx.{spx_fault_number}
use Rattle.ipx_control.specs.ControlFaults.{control_fault_number}
use Rattle.ipx_inspect.specs.declared.check.VectorOutcome as code
use Rattle.ipx_inspect.specs.declared.check.VectorOutcome.TheVariants as verdicts
use Rattle.ipx_inspect.specs.Decoded.{DecodedView, NoPacket, NoSpx, NoControl, Holds, IsDecoded}
use Rattle.ipx_inspect.specs.Text.{max_input}
use Rattle.ipx_inspect.specs.CheckLine.{LineView, Skipped, Vector, Malformed, input_lines, line_form}

-- the number of the fault that refuses a datagram, 0 if none does
abbrev pub outcome : DecodedView → ℕ
outcome (NoPacket f) = ipx_fault_number f
outcome (NoSpx f) = spx_fault_number f
outcome (NoControl f) = control_fault_number f
outcome (Holds d c) = 0

-- the verdict on a line: it is no vector, or a vector whose datagram has the expected outcome, or another one
pub data VectorOutcomeView : Type 0 where
  NoVector : VectorOutcomeView
  Passed : VectorOutcomeView
  Failed : VectorOutcomeView

abbrev pub vector_outcome_view : code.VectorOutcome → VectorOutcomeView
vector_outcome_view verdicts.NoVector = NoVector
vector_outcome_view verdicts.Passed = Passed
vector_outcome_view verdicts.Failed = Failed

abbrev pub IsVectorOutcome : LineView → VectorOutcomeView → Type 0
IsVectorOutcome Skipped v = v ≡ NoVector
IsVectorOutcome (Vector number bytes) v = (r : DecodedView) × IsDecoded bytes r
    × (v ≡ (if outcome r == number then Passed else Failed))
IsVectorOutcome Malformed v = ⊥

abbrev pub is_known : LineView → Bool
is_known Skipped = true
is_known (Vector number bytes) = true
is_known Malformed = false

abbrev pub is_vector : VectorOutcomeView → Bool
is_vector NoVector = false
is_vector Passed = true
is_vector Failed = true

abbrev pub is_failed : VectorOutcomeView → Bool
is_failed NoVector = false
is_failed Passed = false
is_failed Failed = true

-- written for a vector that failed: the number of its line, from 1
abbrev pub failed_line : ℕ → VectorOutcomeView → List ℕ
failed_line place NoVector = []
failed_line place Passed = []
failed_line place Failed = codes "line " ++ (decimal place ++ 10 ∷ [])

abbrev pub failed_lines : List VectorOutcomeView → List ℕ
failed_lines vs = flat_map (λ p. failed_line p.0 p.1) (enumerate_from 1 vs)

-- the last line: how many vectors there were and how many failed; or, if a line of no known form follows, its
-- number
abbrev pub last_line : Bool → List VectorOutcomeView → List ℕ
last_line true vs =
    codes "checked " ++ (decimal (count_by is_vector vs)
    ++ (codes " failed " ++ (decimal (count_by is_failed vs) ++ 10 ∷ [])))
last_line false vs = codes "line " ++ (decimal (length vs + 1) ++ codes " bad\n")

abbrev pub check_status : Bool → List VectorOutcomeView → ℕ
check_status true vs = if count_by is_failed vs == 0 then 0 else 1
check_status false vs = 2

-- the output for lines: that for the lines before the first one of no known form, and a last line
abbrev pub ChecksLines : List LineView → List ℕ → ℕ → Type 0
ChecksLines lines text status =
    (vs : List VectorOutcomeView) × AllZip IsVectorOutcome (take_while is_known lines) vs
    × (text ≡ failed_lines vs ++ last_line (list_all is_known lines) vs)
    × (status ≡ check_status (list_all is_known lines) vs)

-- the output for an input; if that is over 1,000,000 bytes, bad line 0
abbrev pub CheckWrites : List ℕ → List ℕ → ℕ → Type 0
CheckWrites input text status =
    MatchBool (nat_lt max_input (length input))
    ((text ≡ codes "line 0 bad\n") × (status ≡ 2))
    (ChecksLines (map line_form (input_lines input)) text status)
