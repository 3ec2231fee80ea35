use Rattle.std.proofs.Common.{◌∙◌, [], Ok, Option, Some, ap, refl, rules, subst}
use Rattle.ipx_ipxnet_ports.specs.declared.place_sockets.DatagramCame.{DatagramCame}
use Rattle.ipx_ipxnet_ports.specs.PlaceTraffic.{PlacesPass, came_from_place, place_datagrams}
use Rattle.ipx_ipxnet_ports.proofs.Asked.{asked_datagram}
use Rattle.ipx_ipxnet_ports.proofs.Steady.{hearing_leaves_ports, hears_after}
use Rattle.ipx_ipxnet_ports.proofs.server_ports.ServersPortDriver.receive.Goals as goal

pub returns-clause-receives : goal.returns-clause-receives
returns-clause-receives g c =
    let before = g.D.PlaceSockets.traffic c.args.self.now.sockets in
    let behind = g.D.PlaceSockets.traffic c.receive.new.self in
    let first = subst (λ (o : Option DatagramCame). PlacesPass before behind (place_datagrams (came_from_place c.args.port c.receive.new.room o)) []) c.in-Some.is c.in-Ok.ensures.received in (
      c.hear_datagram.new.room,
      c.hear_datagram.result,
      came_from_place c.args.port c.receive.new.room (Some c.in-Some.came),
      refl,
      asked_datagram g.D.PlaceSockets.asks g.D.PlaceSockets.sends c.args.self.now.moment c.args.self.now.servers.items c.hear_datagram.new.self.servers.items c.args.port c.args.self.now.sockets c.receive.new.self c.hear_datagram.new.self.sockets c.receive.new.room c.receive.result c.receive.ensures.asked (search rules) c.in-Some.came (c.in-Ok.is ∙ ap Ok c.in-Some.is) c.hear_datagram.ensures.sends,
      hears_after _ _ _ _ _ _ _ _ _ _ _ _ c.in-Ok.ensures.failures first c.hear_datagram.ensures.heard,
      c.hear_datagram.ensures.rest,
    )

pub returns-clause-received : goal.returns-clause-received
returns-clause-received g c =
    let before = g.D.PlaceSockets.traffic c.args.self.now.sockets in
    let behind = g.D.PlaceSockets.traffic c.receive.new.self in
    let first = subst (λ (o : Option DatagramCame). PlacesPass before behind (place_datagrams (came_from_place c.args.port c.receive.new.room o)) []) c.in-Some.is c.in-Ok.ensures.received in (
      came_from_place c.args.port c.receive.new.room (Some c.in-Some.came),
      refl,
      hears_after _ _ _ _ _ _ _ _ _ _ _ _ c.in-Ok.ensures.failures first c.hear_datagram.ensures.heard,
    )

pub returns-clause-stays : goal.returns-clause-stays
returns-clause-stays g c = hearing_leaves_ports _ _ _ _ _ _ _ _ c.hear_datagram.ensures.heard
