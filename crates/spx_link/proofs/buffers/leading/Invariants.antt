use Rattle.std.proofs.Common.{◌≡◌, ◌+◌, drop, length}
use Rattle.spx_link.specs.Receive.{leading, any_end}
use Rattle.spx_link.proofs.buffers.leading.Given as goal

abbrev pub invariant-loop-place : goal.invariant-loop-place
invariant-loop-place l = record {
  count : l.count + length (leading (drop l.place l.ring.items)) ≡ length (leading (drop l.from l.ring.items));
  ended : any_end (leading (drop l.place l.ring.items)) ≡ any_end (leading (drop l.from l.ring.items));
  steps : l.count + l.from ≡ l.place;
}
