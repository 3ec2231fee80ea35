use Rattle.spx_theory.proofs.Addresses.{addresses_tell_peers}
use Rattle.spx_theory.proofs.laws.addresses_tell_peers.Goals as goal

pub returns : goal.returns
returns c = λ s reached. addresses_tell_peers c.laws_below.ensures s reached
