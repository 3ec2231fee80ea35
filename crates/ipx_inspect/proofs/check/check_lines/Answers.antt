use Rattle.std.proofs.Common.{◌≡◌, ℕ, ◌++◌, ◌∷◌, [], length, map, take, Option, string_bytes, ap, sym, ◌∙◌, subst, rules, tests, arith}
use Rattle.std.specs.Prelude.{◌==◌, MatchOption}
use Rattle.std.specs.List.{AllZip}
use Rattle.std.specs.Slice.Iter as slice
use Rattle.std.proofs.lemmas.Iterator.Consumers.{YieldsList-turn, YieldsList-end}
use Rattle.std.proofs.lemmas.Iterator.Splits.{YieldsList-from_slice_split}
use Rattle.std.proofs.lemmas.List.{length_push}
use Rattle.ipx_inspect.specs.declared.check.VectorOutcome as code
use Rattle.ipx_inspect.specs.CheckLine.{Malformed, input_lines, line_form}
use Rattle.ipx_inspect.specs.Check.{IsVectorOutcome, vector_outcome_view}
use Rattle.ipx_inspect.proofs.Tallies.{checked_to_bad_line, checked_to_end, few_lines, lines_more}
use Rattle.ipx_inspect.proofs.check.check_lines.Goals as goal

pub note-requires-clause-lines : goal.note-requires-clause-lines
note-requires-clause-lines c =
    let inv = c.loop-line.invariant in
    few_lines c.args.input.now (length c.loop-line.yielded) inv.0 c.loop-line.totals c.requires inv.1 inv.2

pub lines_at_bad_line-requires : goal.lines_at_bad_line-requires
lines_at_bad_line-requires c =
    let inv = c.loop-line.invariant in
    few_lines c.args.input.now (length c.loop-line.yielded) inv.0 c.loop-line.totals c.requires inv.1 inv.2

pub loop-line-preserved : goal.loop-line-preserved
loop-line-preserved c =
    let inv = c.loop-line.invariant in
    let lines = input_lines c.args.input.now in
    let line = c.in-Some.line.now in
    let into = c.into_iter-line-iterator.ensures.into_iter_gives in
    let there = YieldsList-turn (YieldsList-from_slice_split _ (λ (b : ℕ). b == 10) c.args.input.now (ap slice.split_rest into ∙ c.split-line-items.ensures.rest) (ap slice.split_done into ∙ c.split-line-items.ensures.done) (ap slice.split_callee into ∙ c.split-line-items.ensures.closure) (λ x r q k. search (rules, tests)))
    c.loop-line.yielded _ c.loop-line.yielded_by _ _ c.in-Some.line c.in-Some.is c.next.ensures.steps in
    let v = vector_outcome_view c.in-Some-2.verdict in
    let told = subst (λ (o : Option code.VectorOutcome). MatchOption o (line_form line ≡ Malformed) (λ w. IsVectorOutcome (line_form line) (vector_outcome_view w))) c.in-Some-2.is c.in_ok-verdict.ensures in
    let are = lines_more lines (length c.loop-line.yielded) line v inv.0 there.0 there.1 told inv.1 in (
      inv.0 ++ v ∷ [],
      subst (λ (k : ℕ). AllZip IsVectorOutcome (map line_form (take k lines)) (inv.0 ++ v ∷ [])) (sym (length_push c.loop-line.yielded c.in-Some.line)) are,
      c.in_ok-note-in-Some-2.ensures inv.0 inv.2,
    )

pub returns-in-None-2 : goal.returns-in-None-2
returns-in-None-2 c =
    let inv = c.loop-line.invariant in
    let lines = input_lines c.args.input.now in
    let line = c.in-Some.line.now in
    let into = c.into_iter-line-iterator.ensures.into_iter_gives in
    let there = YieldsList-turn (YieldsList-from_slice_split _ (λ (b : ℕ). b == 10) c.args.input.now (ap slice.split_rest into ∙ c.split-line-items.ensures.rest) (ap slice.split_done into ∙ c.split-line-items.ensures.done) (ap slice.split_callee into ∙ c.split-line-items.ensures.closure) (λ x r q k. search (rules, tests)))
    c.loop-line.yielded _ c.loop-line.yielded_by _ _ c.in-Some.line c.in-Some.is c.next.ensures.steps in
    let bad = subst (λ (o : Option code.VectorOutcome). MatchOption o (line_form line ≡ Malformed) (λ w. IsVectorOutcome (line_form line) (vector_outcome_view w))) c.in-None-2.is c.in_ok-verdict.ensures in
    checked_to_bad_line c.lines_at_bad_line.result (λ l. string_bytes l.0) (λ l. l.1) lines (length c.loop-line.yielded) line c.loop-line.totals inv.0 there.0 there.1 bad inv.1 inv.2 c.lines_at_bad_line.ensures

pub returns : goal.returns
returns c =
    let inv = c.loop-line.invariant in
    let lines = input_lines c.args.input.now in
    let into = c.into_iter-line-iterator.ensures.into_iter_gives in
    let over = YieldsList-end (YieldsList-from_slice_split _ (λ (b : ℕ). b == 10) c.args.input.now (ap slice.split_rest into ∙ c.split-line-items.ensures.rest) (ap slice.split_done into ∙ c.split-line-items.ensures.done) (ap slice.split_callee into ∙ c.split-line-items.ensures.closure) (λ x r q k. search (rules, tests)))
    c.loop-line.yielded _ c.loop-line.yielded_by _ _ c.in-None.is c.next.ensures.steps in
    checked_to_end c.lines_at_end.result (λ l. string_bytes l.0) (λ l. l.1) lines (length c.loop-line.yielded) c.loop-line.totals inv.0 (omega (arith, over.1)) inv.1 inv.2 c.lines_at_end.ensures
