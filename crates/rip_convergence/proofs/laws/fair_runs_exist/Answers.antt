use Rattle.rip_convergence.proofs.TurnByTurn as proof
use Rattle.rip_convergence.proofs.laws.fair_runs_exist.Goals as goal

pub returns : goal.returns
returns c = proof.exist c.laws_below.ensures
