use Rattle.std.proofs.Common.{◌≡◌, None, arith, inl, subst, refl}
use Rattle.ipx_net_hosts.specs.Refusing.{DialIsLeft, dial_fault}
use Rattle.ipx_net_hosts.proofs.Placing.{dialled, homes_set, host_there, left_so, station_there}
use Rattle.ipx_net_hosts.proofs.Marks.{marks_pushed, marks_same}
use Rattle.ipx_net_hosts.proofs.hosts.Hosts.dial.Goals as goal

pub returns-clause-ok : goal.returns-clause-ok
returns-clause-ok c =
    dialled c.args.self.now c.self.inside.stations.items c.self.inside.ends.items c.push.new.self.items c.args.host c.len-who.result c.index_mut.result.now c.dial.new.self c.args.socket c.args.to c.args.buffers c.args.now c.in-Ok.id
    c.self.view_is c.index_mut.ensures.value (host_there c.args.self.now c.self.inside.stations.items c.self.inside.ends.items c.args.host c.self.view_is c.requires.there) c.requires.range (omega (arith, c.len-who.ensures, c.self.inside.ends.ok)) c.in-Ok.ensures.ok c.in_ok-push.ensures.items

pub returns-in-Err-clause-refused : goal.returns-in-Err-clause-refused
returns-in-Err-clause-refused c =
    left_so c.in-Err.refusal c.args.self.now c.self.inside.stations.items c.self.inside.ends.items c.args.host c.index_mut.result.now c.dial.new.self c.args.now c.self.view_is c.index_mut.ensures.value (host_there c.args.self.now c.self.inside.stations.items c.self.inside.ends.items c.args.host c.self.view_is c.requires.there) c.in-Err.ensures.refused

pub returns-in-Err-clause-fault : goal.returns-in-Err-clause-fault
returns-in-Err-clause-fault c =
    subst (λ o. DialIsLeft o c.in-Err.refusal) (station_there c.args.self.now c.self.inside.stations.items c.self.inside.ends.items c.args.host c.index_mut.result.now c.self.view_is c.index_mut.ensures.value (host_there c.args.self.now c.self.inside.stations.items c.self.inside.ends.items c.args.host c.self.view_is c.requires.there)) c.in-Err.ensures.fault

pub returns-clause-room : goal.returns-clause-room
returns-clause-room c =
    subst (λ o. dial_fault o ≡ None) (station_there c.args.self.now c.self.inside.stations.items c.self.inside.ends.items c.args.host c.index_mut.result.now c.self.view_is c.index_mut.ensures.value (host_there c.args.self.now c.self.inside.stations.items c.self.inside.ends.items c.args.host c.self.view_is c.requires.there)) c.in-Ok.ensures.room

pub returns-clause-homes : goal.returns-clause-homes
returns-clause-homes c =
    homes_set c.args.self.now c.self.inside.stations.items c.self.inside.ends.items c.args.host c.index_mut.result.now c.dial.new.self c.self.view_is c.index_mut.ensures.value c.in-Ok.ensures.home

pub returns-in-Err-clause-homes : goal.returns-in-Err-clause-homes
returns-in-Err-clause-homes c =
    homes_set c.args.self.now c.self.inside.stations.items c.self.inside.ends.items c.args.host c.index_mut.result.now c.dial.new.self c.self.view_is c.index_mut.ensures.value c.in-Err.ensures.home

pub returns-in_err-push-clause-homes : goal.returns-in_err-push-clause-homes
returns-in_err-push-clause-homes c =
    homes_set c.args.self.now c.self.inside.stations.items c.self.inside.ends.items c.args.host c.index_mut.result.now c.dial.new.self c.self.view_is c.index_mut.ensures.value c.in-Ok.ensures.home

pub returns-clause-marks : goal.returns-clause-marks
returns-clause-marks c = marks_pushed c.args.self.now c.self.inside.stations.items c.self.inside.ends.items c.push.new.self.items _ c.self.view_is c.in_ok-push.ensures.items refl

pub returns-in-Err-clause-marks : goal.returns-in-Err-clause-marks
returns-in-Err-clause-marks c = inl (marks_same c.args.self.now c.self.inside.stations.items c.self.inside.ends.items c.self.inside.ends.items c.self.view_is refl)

pub returns-in_err-push-clause-marks : goal.returns-in_err-push-clause-marks
returns-in_err-push-clause-marks c = inl (marks_same c.args.self.now c.self.inside.stations.items c.self.inside.ends.items c.push.new.self.items c.self.view_is c.in_err-push.ensures.items)
