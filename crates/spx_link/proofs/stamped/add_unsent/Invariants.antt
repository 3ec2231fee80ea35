use Rattle.std.proofs.Common.{◌≡◌, ◌+◌, ◌-◌, ◌++◌, ◌≤◌, replicate}
use Rattle.std.specs.VecDeque.{deque_len, deque_capacity}
use Rattle.spx_link.specs.Sequences.{unsent}
use Rattle.spx_link.proofs.stamped.add_unsent.Given as goal

abbrev pub invariant-loop : goal.invariant-loop
invariant-loop l = (l.stamps.items ≡ l.initial.stamps.items ++ replicate l.counter unsent) × (deque_len l.stamps + (l.count - l.counter) ≤ deque_capacity l.stamps)
