use Rattle.std.proofs.Common.{List, length, map, take}
use Rattle.std.specs.List.{AllZip}
use Rattle.ipx_inspect.specs.CheckLine.{input_lines, line_form}
use Rattle.ipx_inspect.specs.Check.{IsVectorOutcome, VectorOutcomeView}
use Rattle.ipx_inspect.specs.CheckCounts.{IsTotals}
use Rattle.ipx_inspect.proofs.check.check_lines.Given as goal

abbrev pub invariant-loop-line : goal.invariant-loop-line
invariant-loop-line l = (vs : List VectorOutcomeView) × AllZip IsVectorOutcome (map line_form (take (length l.yielded) (input_lines l.input))) vs × IsTotals vs l.totals
