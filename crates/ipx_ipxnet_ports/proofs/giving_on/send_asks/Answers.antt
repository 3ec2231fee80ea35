use Rattle.std.proofs.Common.{refl, sym, ◌∙◌, arith}
use Rattle.ipxnet_server.specs.declared.noted.Noted.{Noted}
use Rattle.ipxnet_server.specs.Pings.{is_asked}
use Rattle.ipx_ipxnet_ports.proofs.Handing.{hands_none, reaches_one, reaches_past, sends_one, sends_past}
use Rattle.ipx_ipxnet_ports.proofs.giving_on.send_asks.Goals as goal
use Rattle.ipx_ipxnet_ports.proofs.giving_on.send_asks.Goals.{then-asks, else-asks}

pub loop-one-init : goal.loop-one-init
loop-one-init g c = record {
  gone = hands_none _ _ _ _ refl refl;
  sends = refl;
  ports = refl;
  filtered = refl;
  marks = λ port. refl;
}

pub loop-one-preserved : goal.loop-one-preserved
loop-one-preserved g c =
    elim c.if-asks.branch [
      | then-asks w ↦ rw w.sockets-is (record {
        gone = reaches_one (λ (k : Noted). k.place) (is_asked c.args.turn) c.noted-noted.result.now c.loop-one.one-index _ (omega arith) w.send.result c.args.port c.args.ping.now _ _ _ _ _ _ (sym c.asks.ensures ∙ w.if-asks.true) c.loop-one.invariant.gone w.send.ensures.sent w.send.ensures.refused w.send.ensures.failures;
        sends = sends_one (λ (k : Noted). k.place) (is_asked c.args.turn) c.noted-noted.result.now c.loop-one.one-index _ (omega arith) g.D.PlaceSockets.sends c.args.port c.args.ping.now _ _ _ (sym c.asks.ensures ∙ w.if-asks.true) c.loop-one.invariant.sends w.send.ensures.sends;
        ports = w.send.ensures.ports ∙ c.loop-one.invariant.ports;
        filtered = w.send.ensures.filtered ∙ c.loop-one.invariant.filtered;
        marks = λ port. w.send.ensures.marks port ∙ c.loop-one.invariant.marks port;
      })
      | else-asks w ↦ rw w.sockets-is (record {
        gone = reaches_past (λ (k : Noted). k.place) (is_asked c.args.turn) c.noted-noted.result.now c.loop-one.one-index _ (omega arith) c.args.port c.args.ping.now _ _ _ _ (sym c.asks.ensures ∙ w.if-asks.false) c.loop-one.invariant.gone;
        sends = sends_past (λ (k : Noted). k.place) (is_asked c.args.turn) c.noted-noted.result.now c.loop-one.one-index _ (omega arith) g.D.PlaceSockets.sends c.args.port c.args.ping.now _ _ (sym c.asks.ensures ∙ w.if-asks.false) c.loop-one.invariant.sends;
        ports = c.loop-one.invariant.ports;
        filtered = c.loop-one.invariant.filtered;
        marks = c.loop-one.invariant.marks;
      })
    ]
