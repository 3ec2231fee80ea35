use Rattle.ipx_static.proofs.CountsSeparate as proof
use Rattle.ipx_static.proofs.laws.statics_are_counted_separately.Goals as goal

pub returns : goal.returns
returns c = proof.counts_separate
