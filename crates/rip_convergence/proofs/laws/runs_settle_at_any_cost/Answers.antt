use Rattle.rip_convergence.proofs.Theorems as proof
use Rattle.rip_convergence.proofs.laws.runs_settle_at_any_cost.Goals as goal

pub returns : goal.returns
returns c = proof.settle_at_any_cost c.laws_below.ensures
