use Rattle.std.proofs.Common.{List, ℕ, [], arith, rules, ◌∙◌}
use Rattle.std.proofs.lemmas.Result.{err_from_is_err_and}
use Rattle.ipx_carrier.specs.Device.{Datagram}
use Rattle.ipx_carrier.proofs.DriverStates.{sends_item_more, sends_items_until}
use Rattle.ipx_carrier.proofs.Sends.{first_sent, sent_more}
use Rattle.ipx_carrier.proofs.rfc1234_ports.send_to_each.Goals as goal

pub returns-in_err-send-clause-fault : goal.returns-in_err-send-clause-fault
returns-in_err-send-clause-fault g c =
    let p = err_from_is_err_and c.from_residual.result c.from_residual.ensures.1 in
    let f : List ℕ → Datagram = λ to. record { port = c.args.port; to = to; bytes = c.args.bytes.now } in
    rw p.1
    (first_sent f c.args.peers.now c.loop-to.to-index _ _ _ (omega arith) c.loop-to.invariant.sent c.in_err-send.ensures.refused)

pub returns-in_err-send-clause-fails : goal.returns-in_err-send-clause-fails
returns-in_err-send-clause-fails g c =
    let p = err_from_is_err_and c.from_residual.result c.from_residual.ensures.1 in
    let f : List ℕ → Datagram = λ to. record { port = c.args.port; to = to; bytes = c.args.bytes.now } in
    rw p.1
    (sends_items_until g.D.Datagrams.sends g.D.Datagrams.fails_to_send f c.args.peers.now c.loop-to.to-index [] c.args.datagrams.now c.loop-to.datagrams c.send.new.self (omega arith) c.loop-to.invariant.sends c.in_err-send.ensures.fails_to_send)

pub loop-to-preserved : goal.loop-to-preserved
loop-to-preserved g c =
    let f : List ℕ → Datagram = λ to. record { port = c.args.port; to = to; bytes = c.args.bytes.now } in
    let i = c.loop-to.invariant in
    let sent = c.in_ok-send.ensures in
    record {
      sent = sent_more f c.args.peers.now c.loop-to.to-index [] _ _ _ (omega arith) i.sent sent.sent;
      sends = sends_item_more g.D.Datagrams.sends f c.args.peers.now c.loop-to.to-index [] c.args.datagrams.now c.loop-to.datagrams c.send.new.self (omega arith) i.sends sent.sends;
      waiting = search rules;
      failures = search rules;
      ports = search rules;
      access = search rules;
      filtered = omega arith;
      marks = λ port. sent.marks port ∙ i.marks port;
    }
