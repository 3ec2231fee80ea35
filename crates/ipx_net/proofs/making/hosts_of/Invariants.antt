use Rattle.std.proofs.Common.{◌≡◌, [], take}
use Rattle.ipx_net.specs.NetBeginnings.{AreHosts}
use Rattle.ipx_net.proofs.making.hosts_of.Given as goal

abbrev pub invariant-loop-host : goal.invariant-loop-host
invariant-loop-host l = AreHosts (take l.host-index l.hosts) l.made.stations × (l.made.ends ≡ [])
