use Rattle.std.proofs.Common.{◌≡◌, length}
use Rattle.ipx_bench.proofs.in_place.in_place_digests.Given as goal

abbrev pub invariant-loop-record : goal.invariant-loop-record
invariant-loop-record l =
    (length l.router.ports ≡ 3) ×
    (goal.iterator-loop-record).can_next l.record-iterator ×
    (goal.iterator-loop-record).is_finite l.record-iterator
