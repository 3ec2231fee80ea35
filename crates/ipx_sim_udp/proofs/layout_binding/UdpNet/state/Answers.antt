use Rattle.std.specs.Prelude.{option_map}
use Rattle.spx_messages.specs.EndpointView.{held_at}
use Rattle.spx_messages.specs.declared.fault.EndFault.TheVariants.{NoSuchEnd}
use Rattle.std.proofs.Common.{◌∙◌}
use Rattle.ipx_sim_udp.proofs.Held.{holds_in}
use Rattle.ipx_sim_udp.proofs.Telling.{at_host, told}
use Rattle.ipx_sim_udp.proofs.layout_binding.UdpNet.state.Goals as goal

pub returns : goal.returns
returns c =
    let here = c.in-Some.ensures.lookup in
    let e = c.as_endpoint.result.now in
    let id = c.args.end.id in
    at_host (option_map (λ h. h.link.state)) c.args.self.now.hosts.items c.args.end.host id c.in-Some.runner.now e _
    (holds_in c.deref.result.now c.args.self.now.hosts.items c.args.end.host c.in-Some.runner.now c.deref.ensures.value here.3.0 here.1) c.as_endpoint.ensures
    (c.ok.ensures.value ∙ told NoSuchEnd (λ h. h.link.state) (held_at e id) c.state.result c.state.ensures.unknown c.state.ensures.known)
