use Rattle.ipx_net.proofs.TellingPeers.{PairedTo}
use Rattle.ipx_net.proofs.told.EndSummaries.pair_from.Given as goal

abbrev pub invariant-loop-at : goal.invariant-loop-at
invariant-loop-at l = PairedTo l.log l.fn.self.infos.items l.at l.self.infos.items
