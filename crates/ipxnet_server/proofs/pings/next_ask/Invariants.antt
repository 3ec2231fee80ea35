use Rattle.std.proofs.Common.{take}
use Rattle.ipxnet_server.specs.Pings.{IsNextPing, is_one_asked}
use Rattle.ipxnet_server.proofs.pings.next_ask.Given as goal

abbrev pub invariant-loop-one : goal.invariant-loop-one
invariant-loop-one l = IsNextPing (is_one_asked l.before (take l.one-index l.noted)) l.next
