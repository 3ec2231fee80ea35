use Rattle.std.proofs.Common.{arith, rules}
use Rattle.ipx_net.proofs.Counting.{few_between}
use Rattle.ipx_net.proofs.log_index.LogIndex.sent_few.Goals as goal

pub returns-then-saturating_sub-lt-TOO_MANY : goal.returns-then-saturating_sub-lt-TOO_MANY
returns-then-saturating_sub-lt-TOO_MANY c = (
  λ _. omega (arith, few_between c.args.who c.args.reading.now.from c.args.reading.now.to c.args.self.now.sent.items),
  λ _. search rules,
)
