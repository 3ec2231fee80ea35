use Rattle.std.proofs.Common.{subst}
use Rattle.ipx_net.specs.NetView.{NetView}
use Rattle.ipx_net.specs.EndSummaryChanges.{Resettled, hosts_of}
use Rattle.ipx_net.proofs.net_state.NetState.stand.Goals as goal

pub returns-in-Some : goal.returns-in-Some
returns-in-Some c =
    rw c.in-Some.is
    (subst (λ (v : NetView). Resettled (hosts_of v.now.world) c.in-Some.host c.args.gone c.args.told.now.infos.items c.settle.new.self.infos.items) c.self.view_is
    (record { count = c.settle.ensures.count; log = c.settle.ensures.log; here = c.settle.ensures.here; others = c.settle.ensures.others }))
