use Rattle.rip_convergence.proofs.Steps as proof
use Rattle.rip_convergence.proofs.laws.receiving_is_a_step.Goals as goal

pub returns : goal.returns
returns c = proof.receiving
