use Rattle.ipx_query_cmd.proofs.PingSteps.{all_lines, has_pinged}
use Rattle.ipx_query_cmd.proofs.pings.ping_by.Goals as goal

pub returns-clause-pinged : goal.returns-clause-pinged
returns-clause-pinged g c =
    let host = c.in_ok-host.host in
    let left = c.ping.new.self in
    let opened = c.in_ok-host.ensures in
    let pings = c.in_ok-ping.ensures.pings in
    let over = c.in_ok-ping.ensures.over in
    let w = g.W.Write.contents c.args.writer.now in
    let v = g.W.Write.contents c.ping.new.writer in
    let u = g.W.Write.contents c.conclude.new.writer in (
      pings.0,
      left.core,
      c.in_ok-ping.field-0,
      has_pinged c.args.file.now c.args.to c.args.count pings.0 host.own_socket.ports left.own_socket.ports host.core left.core host.clock.last left.clock.last c.in_ok-ping.field-0
          (record { udp_port = opened.udp_port; at = opened.at; unasked = opened.unasked; marks = opened.marks; access_list = opened.access_list; peers = opened.peers }) opened.fresh opened.clock pings.1 over.0 over.1,
      c.status.ensures,
      all_lines c.args.to host.to left.to pings.0 left.core host.times.items left.times.items w v u c.in_ok-host.ensures.to c.in_ok-ping.ensures.to c.in_ok-host.ensures.times pings.2 pings.3 c.in_ok-conclude.ensures,
    )
