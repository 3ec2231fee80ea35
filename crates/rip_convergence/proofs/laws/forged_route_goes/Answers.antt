use Rattle.rip_convergence.proofs.TurnByTurn as proof
use Rattle.rip_convergence.proofs.laws.forged_route_goes.Goals as goal

pub returns : goal.returns
returns c = proof.forged_goes c.laws_below.ensures
