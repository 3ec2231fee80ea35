use Rattle.ipx_site.proofs.KindLists.{seen_datagrams, seen_server, seen_ethernet}
use Rattle.std.proofs.Common.{◌∙◌, ap}
use Rattle.ipx_site.proofs.routing.port_indices_of.Goals.{in-Rfc1234+in_ok-push-in-Rfc1234, in-Ethernet+in_ok-push-in-Ethernet, in-Ipxnet+in_ok-push-in-Ipxnet}
use Rattle.ipx_site.proofs.routing.port_indices_of.Goals as goal

pub loop-port-preserved : goal.loop-port-preserved
loop-port-preserved c =
    let l = c.loop-port in
    let m = c.match-port in
    elim m.branch [
      | in-Rfc1234+in_ok-push-in-Rfc1234 w ↦ seen_datagrams c.args.ports.now l.port-index c.port-item.result c.loop-port-test.true c.port-item.is l.port_indices.items m.port_indices.items l.datagrams m.datagrams l.ethernet m.ethernet l.servers m.servers l.invariant
          w.in-Rfc1234.field-0 w.in-Rfc1234.is (ap (λ s. s.items) w.port_indices-is ∙ w.in_ok-push-in-Rfc1234.ensures.items) w.datagrams-is w.ethernet-is w.servers-is
      | in-Ethernet+in_ok-push-in-Ethernet w ↦ seen_ethernet c.args.ports.now l.port-index c.port-item.result c.loop-port-test.true c.port-item.is l.port_indices.items m.port_indices.items l.datagrams m.datagrams l.ethernet m.ethernet l.servers m.servers l.invariant
          w.in-Ethernet.field-0 w.in-Ethernet.is (ap (λ s. s.items) w.port_indices-is ∙ w.in_ok-push-in-Ethernet.ensures.items) w.datagrams-is w.ethernet-is w.servers-is
      | in-Ipxnet+in_ok-push-in-Ipxnet w ↦ seen_server c.args.ports.now l.port-index c.port-item.result c.loop-port-test.true c.port-item.is l.port_indices.items m.port_indices.items l.datagrams m.datagrams l.ethernet m.ethernet l.servers m.servers l.invariant
          w.in-Ipxnet.field-0 w.in-Ipxnet.is (ap (λ s. s.items) w.port_indices-is ∙ w.in_ok-push-in-Ipxnet.ensures.items) w.datagrams-is w.ethernet-is w.servers-is
    ]
