use Rattle.std.proofs.Common.{refl, sym, ◌∙◌, arith}
use Rattle.std.specs.declared.net.socket_addr.SocketAddrV4.{SocketAddrV4}
use Rattle.ipxnet_server.specs.ServerHears.{takers_join}
use Rattle.ipx_ipxnet_ports.proofs.Handing.{hands_none, joins_one, joins_past, sends_one, sends_past}
use Rattle.ipx_ipxnet_ports.proofs.giving_on.send_to_routers.Goals as goal
use Rattle.ipx_ipxnet_ports.proofs.giving_on.send_to_routers.Goals.{then-joins, else-joins}

pub loop-router-init : goal.loop-router-init
loop-router-init g c = record {
  gone = hands_none _ _ _ _ refl refl;
  sends = refl;
  ports = refl;
  filtered = refl;
  marks = λ port. refl;
}

pub loop-router-preserved : goal.loop-router-preserved
loop-router-preserved g c =
    elim c.if-joins.branch [
      | then-joins w ↦ rw w.sockets-is (record {
        gone = joins_one w.send.result c.args.server.now c.args.takers c.routers-routers.result.now c.loop-router.router-index _ c.args.port c.args.bytes.now _ _ _ _ _ _ (omega arith) (sym c.joins.ensures ∙ w.if-joins.true) c.loop-router.invariant.gone w.send.ensures.sent w.send.ensures.refused w.send.ensures.failures;
        sends = sends_one (λ (k : SocketAddrV4). k) (λ k. takers_join c.args.server.now c.args.takers k) c.routers-routers.result.now c.loop-router.router-index _ (omega arith) g.D.PlaceSockets.sends c.args.port c.args.bytes.now _ _ _ (sym c.joins.ensures ∙ w.if-joins.true) c.loop-router.invariant.sends w.send.ensures.sends;
        ports = w.send.ensures.ports ∙ c.loop-router.invariant.ports;
        filtered = w.send.ensures.filtered ∙ c.loop-router.invariant.filtered;
        marks = λ port. w.send.ensures.marks port ∙ c.loop-router.invariant.marks port;
      })
      | else-joins w ↦ rw w.sockets-is (record {
        gone = joins_past c.args.server.now c.args.takers c.routers-routers.result.now c.loop-router.router-index _ c.args.port c.args.bytes.now _ _ _ _ (omega arith) (sym c.joins.ensures ∙ w.if-joins.false) c.loop-router.invariant.gone;
        sends = sends_past (λ (k : SocketAddrV4). k) (λ k. takers_join c.args.server.now c.args.takers k) c.routers-routers.result.now c.loop-router.router-index _ (omega arith) g.D.PlaceSockets.sends c.args.port c.args.bytes.now _ _ (sym c.joins.ensures ∙ w.if-joins.false) c.loop-router.invariant.sends;
        ports = c.loop-router.invariant.ports;
        filtered = c.loop-router.invariant.filtered;
        marks = c.loop-router.invariant.marks;
      })
    ]
