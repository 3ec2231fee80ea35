use Rattle.theory_processes.proofs.Stuck as stuck
use Rattle.theory_processes.proofs.pacing.no_paced_state_is_stuck.Goals as goal

pub returns : goal.returns
returns c =
    λ s reached.
    stuck.not_stuck c.laws_below.ensures.links c.paced_rounds_deliver.ensures s reached (c.peers_follow.ensures s reached) (c.peers_are_in_step.ensures s reached) (c.peers_are_named.ensures s reached)
