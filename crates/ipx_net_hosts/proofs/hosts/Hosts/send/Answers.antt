use Rattle.std.proofs.Common.{◌≡◌, None, subst, refl}
use Rattle.std.specs.Prelude.{IfErr, OnOk}
use Rattle.spx_messages.specs.Message.{message_view}
use Rattle.ipx_net_hosts.specs.Refusing.{SendIsRefused, send_fault}
use Rattle.ipx_net_hosts.proofs.Placing.{held_there, homes_set, left_err}
use Rattle.ipx_net_hosts.proofs.Marks.{marks_same}
use Rattle.ipx_net_hosts.proofs.hosts.Hosts.send.Goals as goal

pub returns-clause-sound : goal.returns-clause-sound
returns-clause-sound c =
    subst (λ o. OnOk c.send.result (send_fault o (message_view c.args.message.now) ≡ None))
    (held_there c.args.self.now c.self.inside.stations.items c.self.inside.ends.items c.args.who c.place-host.result.0 c.place-host.result.1 c.index_mut.result.now c.self.view_is c.index_mut.ensures.value c.place-host.ensures) c.send.ensures.sound

pub returns-clause-fault : goal.returns-clause-fault
returns-clause-fault c =
    subst (λ o. IfErr c.send.result (SendIsRefused o (message_view c.args.message.now)))
    (held_there c.args.self.now c.self.inside.stations.items c.self.inside.ends.items c.args.who c.place-host.result.0 c.place-host.result.1 c.index_mut.result.now c.self.view_is c.index_mut.ensures.value c.place-host.ensures) c.send.ensures.fault

pub returns-clause-refused : goal.returns-clause-refused
returns-clause-refused c =
    left_err c.send.result c.args.self.now c.self.inside.stations.items c.self.inside.ends.items c.args.who c.place-host.result.0 c.place-host.result.1 c.index_mut.result.now c.send.new.self c.args.now c.self.view_is c.index_mut.ensures.value c.place-host.ensures c.send.ensures.refused

pub returns-clause-homes : goal.returns-clause-homes
returns-clause-homes c =
    homes_set c.args.self.now c.self.inside.stations.items c.self.inside.ends.items c.place-host.result.0 c.index_mut.result.now c.send.new.self c.self.view_is c.index_mut.ensures.value c.send.ensures.home

pub returns-clause-marks : goal.returns-clause-marks
returns-clause-marks c = marks_same c.args.self.now c.self.inside.stations.items c.self.inside.ends.items c.self.inside.ends.items c.self.view_is refl
