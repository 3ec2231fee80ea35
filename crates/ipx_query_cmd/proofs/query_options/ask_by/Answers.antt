use Rattle.ipx_query_cmd.proofs.Rows.{has_asked}
use Rattle.ipx_query_cmd.proofs.query_options.ask_by.Goals as goal

pub returns : goal.returns
returns g c =
    let host = c.in_ok-host.host in
    let opened = c.in_ok-host.ensures in
    let left = c.ask.new.self in
    let asks = c.in_ok-over.ensures.asks in
    let over = c.in_ok-over.ensures.over in
    has_asked c.args.file.now c.args.question asks.0 host.own_socket.ports left.own_socket.ports host.core left.core host.clock.last left.clock.last c.in_ok-over.over opened.fresh
    (record { udp_port = opened.udp_port; at = opened.at; unasked = opened.unasked; marks = opened.marks; access_list = opened.access_list; peers = opened.peers }) opened.clock asks.1 over.0 over.1
