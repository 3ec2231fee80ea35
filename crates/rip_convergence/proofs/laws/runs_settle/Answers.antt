use Rattle.rip_convergence.proofs.Theorems as proof
use Rattle.rip_convergence.proofs.laws.runs_settle.Goals as goal

pub returns : goal.returns
returns c = proof.settle c.laws_below.ensures
