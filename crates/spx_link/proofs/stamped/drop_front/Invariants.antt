use Rattle.std.proofs.Common.{◌≡◌, drop}
use Rattle.spx_link.proofs.stamped.drop_front.Given as goal

abbrev pub invariant-loop : goal.invariant-loop
invariant-loop g l = l.queue.items ≡ drop l.counter l.initial.queue.items
