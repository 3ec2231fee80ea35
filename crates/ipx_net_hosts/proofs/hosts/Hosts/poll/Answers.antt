use Rattle.std.proofs.Common.{refl}
use Rattle.ipx_net_hosts.proofs.Placing.{homes_set}
use Rattle.ipx_net_hosts.proofs.Marks.{marks_same}
use Rattle.ipx_net_hosts.proofs.hosts.Hosts.poll.Goals as goal

pub returns-clause-homes : goal.returns-clause-homes
returns-clause-homes c =
    homes_set c.args.self.now c.self.inside.stations.items c.self.inside.ends.items c.args.host c.index_mut.result.now c.poll.new.self c.self.view_is c.index_mut.ensures.value c.poll.ensures.home

pub returns-clause-marks : goal.returns-clause-marks
returns-clause-marks c = marks_same c.args.self.now c.self.inside.stations.items c.self.inside.ends.items c.self.inside.ends.items c.self.view_is refl
