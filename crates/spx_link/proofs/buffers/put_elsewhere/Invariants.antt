use Rattle.std.proofs.Common.{◌≡◌, ◌-◌, ◌+◌, ◌++◌, ◌≤◌, length, replicate, None}
use Rattle.spx_link.proofs.buffers.put_elsewhere.Given as goal

abbrev pub invariant-loop-count : goal.invariant-loop-count
invariant-loop-count l = (l.ring.items ≡ l.fn.ring.items ++ replicate (l.count - length l.fn.ring.items) None) × (l.ring.capacity ≡ l.fn.ring.capacity) × (l.count - length l.fn.ring.items ≤ l.place + 1 - length l.fn.ring.items)
