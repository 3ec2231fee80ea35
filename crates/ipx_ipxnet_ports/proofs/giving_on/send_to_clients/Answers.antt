use Rattle.std.proofs.Common.{refl, sym, ◌∙◌, arith}
use Rattle.ipxnet_server.specs.declared.clients.Client.{Client}
use Rattle.ipxnet_server.specs.ServerHears.{takers_reach}
use Rattle.ipx_ipxnet_ports.proofs.Handing.{hands_none, reaches_one, reaches_past, sends_one, sends_past}
use Rattle.ipx_ipxnet_ports.proofs.giving_on.send_to_clients.Goals as goal
use Rattle.ipx_ipxnet_ports.proofs.giving_on.send_to_clients.Goals.{then-reaches, else-reaches}

pub loop-client-init : goal.loop-client-init
loop-client-init g c = record {
  gone = hands_none _ _ _ _ refl refl;
  sends = refl;
  ports = refl;
  filtered = refl;
  marks = λ port. refl;
}

pub loop-client-preserved : goal.loop-client-preserved
loop-client-preserved g c =
    elim c.if-reaches.branch [
      | then-reaches w ↦ rw w.sockets-is (record {
        gone = reaches_one (λ (k : Client). k.place) (λ k. takers_reach c.args.server.now c.args.takers k.place) c.clients-clients.result.now c.loop-client.client-index _ (omega arith) w.send.result c.args.port c.args.bytes.now _ _ _ _ _ _ (sym c.reaches.ensures ∙ w.if-reaches.true) c.loop-client.invariant.gone w.send.ensures.sent w.send.ensures.refused w.send.ensures.failures;
        sends = sends_one (λ (k : Client). k.place) (λ k. takers_reach c.args.server.now c.args.takers k.place) c.clients-clients.result.now c.loop-client.client-index _ (omega arith) g.D.PlaceSockets.sends c.args.port c.args.bytes.now _ _ _ (sym c.reaches.ensures ∙ w.if-reaches.true) c.loop-client.invariant.sends w.send.ensures.sends;
        ports = w.send.ensures.ports ∙ c.loop-client.invariant.ports;
        filtered = w.send.ensures.filtered ∙ c.loop-client.invariant.filtered;
        marks = λ port. w.send.ensures.marks port ∙ c.loop-client.invariant.marks port;
      })
      | else-reaches w ↦ rw w.sockets-is (record {
        gone = reaches_past (λ (k : Client). k.place) (λ k. takers_reach c.args.server.now c.args.takers k.place) c.clients-clients.result.now c.loop-client.client-index _ (omega arith) c.args.port c.args.bytes.now _ _ _ _ (sym c.reaches.ensures ∙ w.if-reaches.false) c.loop-client.invariant.gone;
        sends = sends_past (λ (k : Client). k.place) (λ k. takers_reach c.args.server.now c.args.takers k.place) c.clients-clients.result.now c.loop-client.client-index _ (omega arith) g.D.PlaceSockets.sends c.args.port c.args.bytes.now _ _ (sym c.reaches.ensures ∙ w.if-reaches.false) c.loop-client.invariant.sends;
        ports = c.loop-client.invariant.ports;
        filtered = c.loop-client.invariant.filtered;
        marks = c.loop-client.invariant.marks;
      })
    ]
