use Rattle.std.proofs.Common.{◌≡◌, [], ◌∷◌, ap, sym, take}
use Rattle.std.proofs.lemmas.List.{append-nil, map-append}
use Rattle.ipx_config.specs.PortLists.{ipxnet_in, ipxnet_ports}
use Rattle.ipx_site.proofs.Registered.{at_one_more, no_ipxnet, ports_more}
use Rattle.ipx_site.proofs.ipxnet_ports.bind_servers.Goals as goal
use Rattle.ipx_site.proofs.ipxnet_ports.bind_servers.Goals.{in-Ipxnet+in_ok-bind_server, in_default}

pub loop-place-preserved : goal.loop-place-preserved
loop-place-preserved g c =
    let item = c.index-ports-place.result in
    let grown = ports_more c.args.ports.now c.loop-place.place item c.loop-place-test.true in
    let same = ap ipxnet_in (sym c.index-ports-place.is) in
    elim c.match-port.branch [
      | in-Ipxnet+in_ok-bind_server w ↦ (
          let (prefixes, may, are) = w.in_ok-bind_server.ensures.registering in
          let one : ipxnet_in item ≡ w.in-Ipxnet.port ∷ [] = ap ipxnet_in w.in-Ipxnet.is in
          let before = ipxnet_ports (take c.loop-place.place c.args.ports.now) in (
            rw (w.sockets-is, w.in_ok-bind_server.ensures.at, c.loop-place.invariant.0, grown, same, one) (sym (map-append _ before (w.in-Ipxnet.port ∷ []))),
            rw (w.sockets-is, are, grown, same, one) (at_one_more _ _ _ _ c.loop-place.invariant.1 may),
            rw (w.sockets-is, w.in_ok-bind_server.ensures.fresh, c.loop-place.invariant.2, grown, same, one) (sym (map-append _ before (w.in-Ipxnet.port ∷ []))),
            rw (w.sockets-is, w.in_ok-bind_server.ensures.marks, c.loop-place.invariant.3, grown, same, one) (sym (map-append _ before (w.in-Ipxnet.port ∷ []))),
          )
          )
      | in_default w ↦ (
        rw (w.sockets-is, grown, same, no_ipxnet item w.in_default.not-Ipxnet, append-nil _) c.loop-place.invariant.0,
        rw (w.sockets-is, grown, same, no_ipxnet item w.in_default.not-Ipxnet, append-nil _) c.loop-place.invariant.1,
        rw (w.sockets-is, grown, same, no_ipxnet item w.in_default.not-Ipxnet, append-nil _) c.loop-place.invariant.2,
        rw (w.sockets-is, grown, same, no_ipxnet item w.in_default.not-Ipxnet, append-nil _) c.loop-place.invariant.3,
      )
    ]
