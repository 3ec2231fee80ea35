use Rattle.std.proofs.Common.{subst}
use Rattle.ipx_net.specs.NetBeginnings.{AreHosts}
use Rattle.ipx_net.proofs.Beginnings.{begun}
use Rattle.ipx_net.proofs.net_state.NetState.new.Goals as goal

pub invariant_of-result : goal.invariant_of-result
invariant_of-result c =
    begun c.args.hosts.items c.in-Ok.hosts c.new.result c.peers_of_worlds_are_in_step.ensures.reached c.requires.hosts
    (subst (λ hs. AreHosts hs c.in-Ok.hosts.stations) c.deref.ensures.value c.in-Ok.ensures.are) c.in-Ok.ensures.ends c.new.ensures
