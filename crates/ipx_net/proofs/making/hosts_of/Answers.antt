use Rattle.std.proofs.Common.{◌∙◌}
use Rattle.ipx_net.proofs.Beginnings.{one_more_host}
use Rattle.ipx_net.proofs.making.hosts_of.Goals as goal

pub loop-host-preserved : goal.loop-host-preserved
loop-host-preserved c =
    let loop = c.loop-host in (
      one_more_host c.args.hosts.now loop.host-index _ loop.made.stations c.add.new.self.stations c.loop-host-test.true loop.invariant.0 c.in_ok-add.ensures.ok,
      c.add.ensures.ends ∙ loop.invariant.1,
    )
