use Rattle.std.proofs.Common.{◌≡◌, ℕ, List, Some, sym, subst}
use Rattle.std.specs.Prelude.{◌==◌, IfOk, position}
use Rattle.std.specs.Result.{result_ok}
use Rattle.std.proofs.lemmas.List.{take_rest}
use Rattle.hex.specs.Hex.{decode_of}
use Rattle.ipx_inspect.specs.CheckLine.{bad_vector, line_view, vector_of}
use Rattle.ipx_inspect.proofs.VectorLines.{bad_line, ok_line, read_as}
use Rattle.ipx_inspect.proofs.check_line.read_line.Goals as goal

pub returns-then-starts_with-2 : goal.returns-then-starts_with-2
returns-then-starts_with-2 c =
    let line = c.args.line.now in
    let form = ok_line line (sym c.if-is_blank.ensures) (sym c.if-starts_with.ensures.value) (sym c.if-starts_with-2.ensures.value) in
    let is = subst (λ (t : List ℕ). IfOk c.vector_in.result (λ l. line_view l ≡ vector_of (Some 0) (result_ok (decode_of t)))) (take_rest line 3) c.vector_in.ensures in
    read_as line_view c.vector_in.result _ _ form is

pub returns : goal.returns
returns c =
    let line = c.args.line.now in
    let form = bad_line line (sym c.if-is_blank.ensures) (sym c.if-starts_with.ensures.value) (sym c.if-starts_with-2.ensures.value) (sym c.if-not-starts_with.ensures.value) in
    let is = subst (λ (t : List ℕ). IfOk c.bad_vector_in.result (λ l. line_view l ≡ bad_vector t (position (λ (b : ℕ). b == 32) t))) (take_rest line 4) c.bad_vector_in.ensures in
    read_as line_view c.bad_vector_in.result _ _ form is
