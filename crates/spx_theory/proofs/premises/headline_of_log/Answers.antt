use Rattle.spx_theory.proofs.LogHeadline.{headline_of_log}
use Rattle.spx_theory.proofs.premises.headline_of_log.Goals as goal

pub returns : goal.returns
returns c = headline_of_log c.laws_below.ensures c.peers_are_in_step.ensures c.peerless_reads_nothing.ensures c.within_allocation.ensures
