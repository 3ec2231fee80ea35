use Rattle.std.proofs.Common.{arith, inl, refl}
use Rattle.ipx_net_hosts.proofs.Placing.{delivered, homes_set, host_there}
use Rattle.ipx_net_hosts.proofs.Marks.{marks_pushed, marks_same}
use Rattle.ipx_net_hosts.proofs.hosts.Hosts.deliver.Goals as goal

pub returns-in_err-arrived-clause-homes : goal.returns-in_err-arrived-clause-homes
returns-in_err-arrived-clause-homes c =
    homes_set c.args.self.now c.self.inside.stations.items c.self.inside.ends.items c.args.host c.index_mut.result.now c.deliver.new.self c.self.view_is c.index_mut.ensures.value c.in_err-arrived.ensures.home

pub returns-in_err-push-clause-homes : goal.returns-in_err-push-clause-homes
returns-in_err-push-clause-homes c =
    homes_set c.args.self.now c.self.inside.stations.items c.self.inside.ends.items c.args.host c.index_mut.result.now c.deliver.new.self c.self.view_is c.index_mut.ensures.value c.in_ok-arrived.ensures.home

pub returns-in_ok-push-clause-homes : goal.returns-in_ok-push-clause-homes
returns-in_ok-push-clause-homes c =
    homes_set c.args.self.now c.self.inside.stations.items c.self.inside.ends.items c.args.host c.index_mut.result.now c.deliver.new.self c.self.view_is c.index_mut.ensures.value c.in_ok-arrived.ensures.home

pub returns-in_default : goal.returns-in_default
returns-in_default c =
    let v = c.args.self.now in
    let ss = c.self.inside.stations.items in
    let es = c.self.inside.ends.items in
    let x = c.index_mut.result.now in
    let y = c.deliver.new.self in
    record {
      delivered = delivered v ss es c.args.host c.len-who.result x y c.args.bytes.now c.args.now c.in_ok-arrived.arrived c.self.view_is c.index_mut.ensures.value (host_there v ss es c.args.host c.self.view_is c.requires.there) (omega (arith, c.len-who.ensures, c.self.inside.ends.ok))
          c.in_default.not-Accepted c.in_ok-arrived.ensures.arrives c.in_ok-arrived.ensures.here;
      memory = tt;
      homes = homes_set v ss es c.args.host x y c.self.view_is c.index_mut.ensures.value c.in_ok-arrived.ensures.home;
      marks = inl (marks_same v ss es es c.self.view_is refl);
    }

pub returns-in_err-arrived-clause-marks : goal.returns-in_err-arrived-clause-marks
returns-in_err-arrived-clause-marks c = inl (marks_same c.args.self.now c.self.inside.stations.items c.self.inside.ends.items c.self.inside.ends.items c.self.view_is refl)

pub returns-in_err-push-clause-marks : goal.returns-in_err-push-clause-marks
returns-in_err-push-clause-marks c = inl (marks_same c.args.self.now c.self.inside.stations.items c.self.inside.ends.items c.push.new.self.items c.self.view_is c.in_err-push.ensures.items)

pub returns-in_ok-push-clause-marks : goal.returns-in_ok-push-clause-marks
returns-in_ok-push-clause-marks c = marks_pushed c.args.self.now c.self.inside.stations.items c.self.inside.ends.items c.push.new.self.items _ c.self.view_is c.in_ok-push.ensures.items refl
