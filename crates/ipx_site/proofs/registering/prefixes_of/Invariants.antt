use Rattle.std.proofs.Common.{take}
use Rattle.ipx_site.specs.Registering.{AreOfPeers}
use Rattle.ipx_site.proofs.registering.prefixes_of.Given as goal

abbrev pub invariant-loop-peer : goal.invariant-loop-peer
invariant-loop-peer g l = AreOfPeers (take l.peer-index l.peers) l.prefixes.items
