use Rattle.spx_theory.proofs.EndsStaying.{gone_sends_nothing}
use Rattle.spx_theory.proofs.ends.gone_sends_nothing.Goals as goal

pub returns : goal.returns
returns c = gone_sends_nothing
