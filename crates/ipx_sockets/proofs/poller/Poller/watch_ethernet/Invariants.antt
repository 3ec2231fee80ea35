use Rattle.std.proofs.Common.{◌≡◌, ◌+◌, ◌++◌, map, take}
use Rattle.ipx_carrier.specs.Counting.{counted}
use Rattle.ipx_ethernet_ports.specs.EthernetAddresses.{ethernet_fds}
use Rattle.ipx_sockets.specs.PollEvents.{Watched}
use Rattle.ipx_sockets.proofs.poller.Poller.watch_ethernet.Given as goal

abbrev pub invariant-loop-wire : goal.invariant-loop-wire
invariant-loop-wire l = (l.self.poll.watched ≡ counted (l.fn.self.poll.watched + l.wire))
    × (l.self.poll.trace.items ≡ l.fn.self.poll.trace.items ++ map Watched (take l.wire (ethernet_fds l.sockets.ethernet.items)))
    × (l.self.asked ≡ l.fn.self.asked)
