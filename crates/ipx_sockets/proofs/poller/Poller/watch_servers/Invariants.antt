use Rattle.std.proofs.Common.{◌≡◌, ◌+◌, ◌++◌, map, take}
use Rattle.ipx_carrier.specs.Counting.{counted}
use Rattle.ipx_ipxnet_ports.specs.ServerAddresses.{server_fds}
use Rattle.ipx_sockets.specs.PollEvents.{Watched}
use Rattle.ipx_sockets.proofs.poller.Poller.watch_servers.Given as goal

abbrev pub invariant-loop-server : goal.invariant-loop-server
invariant-loop-server l = (l.self.poll.watched ≡ counted (l.fn.self.poll.watched + l.server))
    × (l.self.poll.trace.items ≡ l.fn.self.poll.trace.items ++ map Watched (take l.server (server_fds l.sockets.sockets.items)))
    × (l.self.asked ≡ l.fn.self.asked)
