use Rattle.ipx_ethernet_ports.proofs.Arrivals.{asks_count}
use Rattle.ipx_ethernet_ports.proofs.socket.EthernetSocket.receive.Goals as goal

pub returns-then-is_plain-clause-count : goal.returns-then-is_plain-clause-count
returns-then-is_plain-clause-count c =
    asks_count c.args.self.now c.receive_plain.new.room c.receive_plain.result c.receive_plain.new.self c.args.faults.now c.receive_plain.new.faults c.receive_plain.ensures.asks

pub returns-else-is_plain-clause-count : goal.returns-else-is_plain-clause-count
returns-else-is_plain-clause-count c =
    asks_count c.args.self.now c.receive_in_tunnel.new.room c.receive_in_tunnel.result c.receive_in_tunnel.new.self c.args.faults.now c.receive_in_tunnel.new.faults c.receive_in_tunnel.ensures.asks
