use Rattle.std.proofs.Common.{◌≡◌, ℕ, ◌+◌, List, Option, drop, ap, sym, ◌∙◌, subst}
use Rattle.std.specs.Prelude.{◌==◌, IfOk, position}
use Rattle.std.specs.Result.{result_ok}
use Rattle.std.proofs.lemmas.List.{take_rest}
use Rattle.hex.specs.Hex.{decode_of}
use Rattle.ipx_inspect.specs.CheckLine.{bad_vector, line_view, vector_of}
use Rattle.ipx_inspect.proofs.VectorLines.{read_as}
use Rattle.ipx_inspect.proofs.check_line.bad_vector_in.Goals as goal

pub returns-in-Some : goal.returns-in-Some
returns-in-Some c =
    let rest = c.args.rest.now in
    let behind = drop (c.in-Some.end + 1) rest in
    let number = c.fault_number_of.result in
    let form : bad_vector rest (position (λ (b : ℕ). b == 32) rest) ≡ vector_of number (result_ok (decode_of behind)) =
    ap (bad_vector rest) (sym c.in-Some.ensures.place) ∙ ap (λ (n : Option ℕ). vector_of n (result_ok (decode_of behind))) (sym c.fault_number_of.ensures) in
    let is = subst (λ (t : List ℕ). IfOk c.vector_in.result (λ l. line_view l ≡ vector_of number (result_ok (decode_of t)))) (take_rest rest (c.in-Some.end + 1)) c.vector_in.ensures in
    read_as line_view c.vector_in.result _ _ form is
