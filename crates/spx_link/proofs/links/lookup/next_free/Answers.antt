use Rattle.std.proofs.Common.{arith}
use Rattle.spx_link.proofs.Rounds.{not_all_live}
use Rattle.spx_link.proofs.links.lookup.next_free.Goals as goal

pub unreachable-requires : goal.unreachable-requires
unreachable-requires c =
    not_all_live c.args.links.now c.args.last c.requires (λ k below. c.loop-steps.invariant k (omega arith))
