use Rattle.std.proofs.Common.{take}
use Rattle.ipxnet_server.specs.Pings.{IsNextPing}
use Rattle.ipx_ipxnet_ports.specs.OnServers.{is_any_pinged}
use Rattle.ipx_ipxnet_ports.proofs.server_ports.Servers.next_pings.Given as goal

abbrev pub invariant-loop-server : goal.invariant-loop-server
invariant-loop-server g l = IsNextPing (is_any_pinged (take l.server-index l.servers)) l.next
