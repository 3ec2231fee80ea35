use Rattle.std.proofs.Common.{refl, sym, ◌∙◌}
use Rattle.ipx_ethernet_ports.proofs.Ends.{hands_one, hands_past, reaches_none, reaches_past, reaches_sent}
use Rattle.ipx_ethernet_ports.proofs.reaching.send_to_ends.Goals as goal
use Rattle.ipx_ethernet_ports.proofs.reaching.send_to_ends.Goals.{then-is_to, else-is_to}

pub loop-end-init : goal.loop-end-init
loop-end-init g c = record {
  reached = reaches_none c.args.way c.args.port c.args.bytes.now _ _ _ _ refl refl;
  sends = refl;
  ends = refl;
  filtered = refl;
  marks = λ port. refl;
}

pub loop-end-preserved : goal.loop-end-preserved
loop-end-preserved g c =
    elim c.if-is_to.branch [
      | then-is_to w ↦ rw w.sockets-is (record {
        reached = reaches_sent w.send.result c.args.way c.loop-end.end c.args.port c.args.bytes.now _ _ _ _ _ _ (sym c.is_to.ensures ∙ w.if-is_to.true) c.loop-end.invariant.reached w.send.ensures.sent w.send.ensures.refused w.send.ensures.failures;
        sends = hands_one g.D.EndSockets.sends c.args.way c.loop-end.end c.args.port c.args.bytes.now _ _ _ (sym c.is_to.ensures ∙ w.if-is_to.true) c.loop-end.invariant.sends w.send.ensures.sends;
        ends = w.send.ensures.ends ∙ c.loop-end.invariant.ends;
        filtered = w.send.ensures.filtered ∙ c.loop-end.invariant.filtered;
        marks = λ port. w.send.ensures.marks port ∙ c.loop-end.invariant.marks port;
      })
      | else-is_to w ↦ rw w.sockets-is (record {
        reached = reaches_past c.args.way c.loop-end.end c.args.port c.args.bytes.now _ _ _ _ (sym c.is_to.ensures ∙ w.if-is_to.false) c.loop-end.invariant.reached;
        sends = hands_past g.D.EndSockets.sends c.args.way c.loop-end.end c.args.port c.args.bytes.now _ _ (sym c.is_to.ensures ∙ w.if-is_to.false) c.loop-end.invariant.sends;
        ends = c.loop-end.invariant.ends;
        filtered = c.loop-end.invariant.filtered;
        marks = c.loop-end.invariant.marks;
      })
    ]
