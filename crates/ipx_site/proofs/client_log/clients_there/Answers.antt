use Rattle.std.proofs.Common.{◌∙◌, List, ap}
use Rattle.std.proofs.lemmas.List.{take_all}
use Rattle.ipx_site.specs.ClientLog.{all_clients}
use Rattle.ipx_site.specs.declared.router_ports.PortIndex.{PortIndex}
use Rattle.ipx_site.proofs.Present.{one_more_port}
use Rattle.ipx_site.proofs.client_log.clients_there.Goals as goal

pub loop-place-preserved : goal.loop-place-preserved
loop-place-preserved c =
    one_more_port c.args.port_indices.now c.loop-place.place _ c.args.servers.now c.loop-place.all.items _ c.deref.result.now
    c.loop-place-test.true c.loop-place.invariant (c.deref.ensures.value ∙ c.in_ok-clients.ensures) c.in_ok-extend_from_slice.ensures.items

pub returns : goal.returns
returns c = c.loop-place.invariant ∙ ap (λ (port_indices : List PortIndex). all_clients 1 port_indices c.args.servers.now) (take_all c.loop-place.place c.args.port_indices.now c.loop-place-test.false)
