use Rattle.std.proofs.Common.{◌≡◌, ◌+◌, ◌++◌, map, take}
use Rattle.ipx_carrier.specs.Counting.{counted}
use Rattle.ipx_sockets.specs.Senders.{udp_fds}
use Rattle.ipx_sockets.specs.PollEvents.{Watched}
use Rattle.ipx_sockets.proofs.poller.Poller.watch_sockets.Given as goal

abbrev pub invariant-loop-port : goal.invariant-loop-port
invariant-loop-port l = (l.self.poll.watched ≡ counted (l.fn.self.poll.watched + l.port))
    × (l.self.poll.trace.items ≡ l.fn.self.poll.trace.items ++ map Watched (take l.port (udp_fds l.sockets.sockets.items)))
    × (l.self.asked ≡ l.fn.self.asked)
