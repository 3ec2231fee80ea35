use Rattle.std.proofs.Common.{◌≡◌, ℕ, false, length}
use Rattle.spx_messages.specs.EndpointView.{held_at}
use Rattle.ipx_host.specs.HostOutput.{left_of}
use Rattle.ipx_host.specs.Passing.{PassesSome}
use Rattle.ipx_host.proofs.taking.take_each.Given as goal

-- the first `_turn` connections passed data; while nothing was taken, everything held is unchanged
abbrev pub invariant-loop-turn : goal.invariant-loop-turn
invariant-loop-turn g l = record {
  passes : (p : PassesSome l.fn.endpoint l.endpoint (left_of l.fn.output) (left_of l.output) (g.W.Write.contents l.fn.writer) (g.W.Write.contents l.writer) l.fn.sessions l.sessions)
      × (length p.0 ≡ l._turn);
  still : l.took ≡ false → (id : ℕ) → held_at l.endpoint id ≡ held_at l.fn.endpoint id;
}
