use Rattle.spx_theory.proofs.Stuck as stuck
use Rattle.spx_theory.proofs.round_laws.nothing_is_stuck_by_addresses.Goals as goal

pub returns : goal.returns
returns c =
    λ s reached.
    stuck.by_addresses s (c.addresses_tell_peers.ensures s reached) (c.no_state_is_stuck.ensures s reached)
