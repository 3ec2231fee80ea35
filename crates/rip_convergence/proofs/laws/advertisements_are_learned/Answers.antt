use Rattle.rip_convergence.proofs.ToldAndHeard as proof
use Rattle.rip_convergence.proofs.laws.advertisements_are_learned.Goals as goal

pub returns : goal.returns
returns c = proof.heard c.packet_laws.ensures
