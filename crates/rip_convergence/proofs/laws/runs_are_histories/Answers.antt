use Rattle.rip_convergence.proofs.Theorems as proof
use Rattle.rip_convergence.proofs.laws.runs_are_histories.Goals as goal

pub returns : goal.returns
returns c = proof.are_histories c.laws_below.ensures
