use Rattle.std.proofs.Common.{◌≡◌, ◌+◌, ◌≤◌, drop, length}
use Rattle.spx_link.specs.Buffers.{there}
use Rattle.spx_link.proofs.buffers.count_from.Given as goal

abbrev pub invariant-loop-place : goal.invariant-loop-place
invariant-loop-place l = record {
  count : l.count + length (there (drop l.place l.ring.items)) ≡ length (there (drop l.from l.ring.items));
  steps : l.count + l.from ≤ l.place;
}
