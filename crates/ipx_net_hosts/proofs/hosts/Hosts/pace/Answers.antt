use Rattle.std.proofs.Common.{◌≡◌, refl}
use Rattle.spx_link.specs.LinkView.{LinkView}
use Rattle.spx_link.specs.Offer.{pace_link}
use Rattle.ipx_net_hosts.proofs.Placing.{homes_set, known_held, quietly_ok}
use Rattle.ipx_net_hosts.proofs.Marks.{marks_same}
use Rattle.ipx_net_hosts.proofs.hosts.Hosts.pace.Goals as goal

pub returns-clause-ok : goal.returns-clause-ok
returns-clause-ok c =
    quietly_ok c.pace.result c.args.self.now c.self.inside.stations.items c.self.inside.ends.items c.args.who c.place-host.result.0 c.place-host.result.1 c.index_mut.result.now c.pace.new.self c.args.now
    (λ (l : LinkView). pace_link l c.args.window c.args.manual) c.self.view_is c.index_mut.ensures.value c.place-host.ensures c.pace.ensures.ok

pub returns-clause-done : goal.returns-clause-done
returns-clause-done c =
    known_held c.args.self.now c.self.inside.stations.items c.self.inside.ends.items c.args.who c.place-host.result.0 c.place-host.result.1 c.index_mut.result.now _ c.self.view_is c.index_mut.ensures.value c.place-host.ensures c.pace.ensures.done

pub returns-clause-homes : goal.returns-clause-homes
returns-clause-homes c =
    homes_set c.args.self.now c.self.inside.stations.items c.self.inside.ends.items c.place-host.result.0 c.index_mut.result.now c.pace.new.self c.self.view_is c.index_mut.ensures.value c.pace.ensures.home

pub returns-clause-marks : goal.returns-clause-marks
returns-clause-marks c = marks_same c.args.self.now c.self.inside.stations.items c.self.inside.ends.items c.self.inside.ends.items c.self.view_is refl
