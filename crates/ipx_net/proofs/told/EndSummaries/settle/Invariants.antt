use Rattle.ipx_net.proofs.TellingHolds.{SettledTo}
use Rattle.ipx_net.proofs.told.EndSummaries.settle.Given as goal

abbrev pub invariant-loop-place : goal.invariant-loop-place
invariant-loop-place l = SettledTo l.hosts l.host l.gone l.fn.self.infos.items l.place l.self.infos.items
