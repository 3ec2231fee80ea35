use Rattle.std.proofs.Common.{◌<◌, All}
use Rattle.spx_link.specs.Limits.{end_stream}
use Rattle.ipx_bench.proofs.passing.cut.Given as goal

abbrev pub invariant-loop-piece : goal.invariant-loop-piece
invariant-loop-piece l =
    All (λ u. u.stream < end_stream) l.units.items ×
    (goal.iterator-loop-piece).can_next l.piece-iterator ×
    (goal.iterator-loop-piece).is_finite l.piece-iterator
