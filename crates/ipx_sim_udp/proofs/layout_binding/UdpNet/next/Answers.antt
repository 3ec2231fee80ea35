use Rattle.spx_messages.specs.EndpointView.{held_at}
use Rattle.spx_messages.specs.declared.fault.EndFault.TheVariants.{NoSuchEnd}
use Rattle.std.proofs.Common.{Ok, Err}
use Rattle.ipx_sim_udp.specs.UdpCalls.{next_of}
use Rattle.ipx_sim_udp.proofs.Held.{holds_in}
use Rattle.ipx_sim_udp.proofs.Telling.{at_host, next_told}
use Rattle.ipx_sim_udp.proofs.layout_binding.UdpNet.next.Goals as goal

pub returns-in-Ok : goal.returns-in-Ok
returns-in-Ok c =
    let here = c.in-Some.ensures.lookup in
    let e = c.as_endpoint.result.now in
    let id = c.args.end.id in
    at_host next_of c.args.self.now.hosts.items c.args.end.host id c.in-Some.runner.now e _
    (holds_in c.deref.result.now c.args.self.now.hosts.items c.args.end.host c.in-Some.runner.now c.deref.ensures.value here.3.0 here.1) c.as_endpoint.ensures
    (next_told NoSuchEnd (held_at e id) (Ok c.in-Ok.numbers) c.in-Ok.ensures.unknown c.in-Ok.ensures.known)

pub returns-in-Err : goal.returns-in-Err
returns-in-Err c =
    let here = c.in-Some.ensures.lookup in
    let e = c.as_endpoint.result.now in
    let id = c.args.end.id in
    at_host next_of c.args.self.now.hosts.items c.args.end.host id c.in-Some.runner.now e _
    (holds_in c.deref.result.now c.args.self.now.hosts.items c.args.end.host c.in-Some.runner.now c.deref.ensures.value here.3.0 here.1) c.as_endpoint.ensures
    (next_told NoSuchEnd (held_at e id) (Err c.in-Err.field-0) c.in-Err.ensures.unknown c.in-Err.ensures.known)
