use Rattle.std.proofs.Common.{◌++◌}
use Rattle.ipx_carrier.proofs.DriverStates.{sends_on}
use Rattle.ipx_ipxnet_ports.specs.OnServers.{answer_for, clients_reached, relayed_on, relayed_to, routers_reached}
use Rattle.ipx_ipxnet_ports.proofs.Handing.{hands_both}
use Rattle.ipx_ipxnet_ports.proofs.giving_on.give_on.Goals as goal

pub returns-clause-gone : goal.returns-clause-gone
returns-clause-gone g c =
    let port = c.args.port in
    let bytes = c.args.bytes.now in
    let l = c.args.server.now in
    let takers = c.takers-takers.result in
    record {
      answer = c.answer.result;
      answered = c.answer.ensures.answered;
      is_it = c.answer.ensures.answer;
      gone = rw (← c.takers-takers.ensures)
          (hands_both _ _ _ _ _ _ _ _
          (hands_both (answer_for port c.args.from c.answer.result) (relayed_to port bytes (clients_reached l takers)) _ _ _ _ _ _ c.send_answer.ensures.gone c.send_to_clients.ensures.gone)
          c.send_to_routers.ensures.gone);
      once = c.send_to_clients.ensures.once;
      back = c.requires.back;
    }

pub returns-clause-sends : goal.returns-clause-sends
returns-clause-sends g c =
    let port = c.args.port in
    let bytes = c.args.bytes.now in
    let l = c.args.server.now in
    let takers = c.takers-takers.result in
    let sends = g.D.PlaceSockets.sends in
    let answers = answer_for port c.args.from c.answer.result in
    let clients = relayed_to port bytes (clients_reached l takers) in (
      c.answer.result,
      c.answer.ensures.answered,
      c.answer.ensures.answer,
      rw (← c.takers-takers.ensures)
          (sends_on sends (answers ++ clients) (relayed_on port bytes (routers_reached l takers)) _ _ _
          (sends_on sends answers clients _ _ _ c.send_answer.ensures.sends c.send_to_clients.ensures.sends)
          c.send_to_routers.ensures.sends),
    )
