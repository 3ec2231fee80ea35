use Rattle.std.proofs.Common.{◌≡◌, length}
use Rattle.ipx_bench.proofs.receiving.fed_digests.Given as goal

abbrev pub invariant-loop-record : goal.invariant-loop-record
invariant-loop-record l =
    (length l.router.ports ≡ length l.fn.router.ports) ×
    (goal.iterator-loop-record).can_next l.record-iterator ×
    (goal.iterator-loop-record).is_finite l.record-iterator
