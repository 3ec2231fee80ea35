use Rattle.spx_theory.proofs.Stuck as stuck
use Rattle.spx_theory.proofs.round_laws.no_pair_is_stuck.Goals as goal

pub returns : goal.returns
returns c =
    λ s reached.
    stuck.no_pair_is_stuck c.link_laws.ensures c.rounds_deliver_both_ways.ensures s reached (c.peers_follow.ensures s reached) (c.peers_are_in_step.ensures s reached) (c.peers_are_named.ensures s reached)
