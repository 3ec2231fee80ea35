use Rattle.std.proofs.Common.{refl, sym, ◌∙◌, arith}
use Rattle.ipxnet_server.specs.declared.clients.Client.{Client}
use Rattle.ipxnet_server.specs.Pings.{is_pinged}
use Rattle.ipx_ipxnet_ports.proofs.Handing.{hands_none, reaches_one, reaches_past, sends_one, sends_past}
use Rattle.ipx_ipxnet_ports.proofs.giving_on.send_pings.Goals as goal
use Rattle.ipx_ipxnet_ports.proofs.giving_on.send_pings.Goals.{then-pings, else-pings}

pub loop-client-init : goal.loop-client-init
loop-client-init g c = record {
  gone = hands_none _ _ _ _ refl refl;
  sends = refl;
  ports = refl;
  filtered = refl;
  marks = λ port. refl;
}

pub loop-client-preserved : goal.loop-client-preserved
loop-client-preserved g c =
    elim c.if-pings.branch [
      | then-pings w ↦ rw w.sockets-is (record {
        gone = reaches_one (λ (k : Client). k.place) (is_pinged c.args.turn) c.clients-known.result.now c.loop-client.client-index _ (omega arith) w.send.result c.args.port c.args.ping.now _ _ _ _ _ _ (sym c.pings.ensures ∙ w.if-pings.true) c.loop-client.invariant.gone w.send.ensures.sent w.send.ensures.refused w.send.ensures.failures;
        sends = sends_one (λ (k : Client). k.place) (is_pinged c.args.turn) c.clients-known.result.now c.loop-client.client-index _ (omega arith) g.D.PlaceSockets.sends c.args.port c.args.ping.now _ _ _ (sym c.pings.ensures ∙ w.if-pings.true) c.loop-client.invariant.sends w.send.ensures.sends;
        ports = w.send.ensures.ports ∙ c.loop-client.invariant.ports;
        filtered = w.send.ensures.filtered ∙ c.loop-client.invariant.filtered;
        marks = λ port. w.send.ensures.marks port ∙ c.loop-client.invariant.marks port;
      })
      | else-pings w ↦ rw w.sockets-is (record {
        gone = reaches_past (λ (k : Client). k.place) (is_pinged c.args.turn) c.clients-known.result.now c.loop-client.client-index _ (omega arith) c.args.port c.args.ping.now _ _ _ _ (sym c.pings.ensures ∙ w.if-pings.false) c.loop-client.invariant.gone;
        sends = sends_past (λ (k : Client). k.place) (is_pinged c.args.turn) c.clients-known.result.now c.loop-client.client-index _ (omega arith) g.D.PlaceSockets.sends c.args.port c.args.ping.now _ _ (sym c.pings.ensures ∙ w.if-pings.false) c.loop-client.invariant.sends;
        ports = c.loop-client.invariant.ports;
        filtered = c.loop-client.invariant.filtered;
        marks = c.loop-client.invariant.marks;
      })
    ]
