use Rattle.spx_theory.proofs.Allocation.{peerless_reads_nothing}
use Rattle.spx_theory.proofs.laws.peerless_reads_nothing.Goals as goal

pub returns : goal.returns
returns c = λ s reached. peerless_reads_nothing c.laws_below.ensures s reached
