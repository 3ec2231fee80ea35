use Rattle.rip_convergence.proofs.Theorems as proof
use Rattle.rip_convergence.proofs.laws.runs_forget.Goals as goal

pub returns : goal.returns
returns c = proof.forget c.laws_below.ensures
