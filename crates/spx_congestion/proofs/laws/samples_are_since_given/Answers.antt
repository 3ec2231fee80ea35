use Rattle.spx_congestion.proofs.Sampled.{since_given}
use Rattle.spx_congestion.proofs.laws.samples_are_since_given.Goals as goal

pub returns : goal.returns
returns c = since_given
