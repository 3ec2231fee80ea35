use Rattle.std.proofs.Common.{◌≡◌, ℕ, false}
use Rattle.spx_messages.specs.EndpointView.{held_at}
use Rattle.ipx_host.specs.HostOutput.{left_of}
use Rattle.ipx_host.proofs.Passed.{PassesSoFar}
use Rattle.ipx_host.proofs.taking.take_some.Given as goal

-- what passed so far, by `_take` takes; while nothing was taken, all that is held is as it was
abbrev pub invariant-loop-take : goal.invariant-loop-take
invariant-loop-take g l = record {
  so_far : PassesSoFar l.fn.endpoint l.endpoint (left_of l.fn.output) (left_of l.output) (g.W.Write.contents l.fn.writer) (g.W.Write.contents l.writer) l.fn.session l.session l._take;
  still : l.took ≡ false → (id : ℕ) → held_at l.endpoint id ≡ held_at l.fn.endpoint id;
  id : l.session.id ≡ l.fn.session.id;
}
