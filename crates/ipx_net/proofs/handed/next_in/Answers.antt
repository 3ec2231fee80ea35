use Rattle.std.proofs.Common.{arith, ◌∙◌, [], ◌∷◌}
use Rattle.spx_messages.specs.Message.{message_view}
use Rattle.spx_theory.specs.Handed.{in_by}
use Rattle.ipx_net.proofs.Walking.{here}
use Rattle.ipx_net.proofs.handed.next_in.Goals as goal

pub returns-in-Some : goal.returns-in-Some
returns-in-Some c = (
  omega arith,
  c.loop-at.invariant.rest ∙ here (in_by c.args.end) c.args.log.now c.loop-at.at c.index-log-at.result (message_view c.in-Some.message.now ∷ []) c.loop-at-test.true c.index-log-at.is c.in-Some.ensures,
)

pub loop-at-preserved : goal.loop-at-preserved
loop-at-preserved c =
    record {
      within = omega arith;
      rest = c.loop-at.invariant.rest ∙ here (in_by c.args.end) c.args.log.now c.loop-at.at c.index-log-at.result [] c.loop-at-test.true c.index-log-at.is c.in_default.ensures;
    }
