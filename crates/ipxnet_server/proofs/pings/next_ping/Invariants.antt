use Rattle.std.proofs.Common.{take}
use Rattle.ipxnet_server.specs.Pings.{IsNextPing, is_one_pinged}
use Rattle.ipxnet_server.proofs.pings.next_ping.Given as goal

abbrev pub invariant-loop-client : goal.invariant-loop-client
invariant-loop-client l = IsNextPing (is_one_pinged l.before (take l.client-index l.clients)) l.next
