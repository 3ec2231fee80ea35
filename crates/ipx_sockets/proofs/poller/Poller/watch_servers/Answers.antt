use Rattle.std.proofs.Common.{◌∙◌, rules, sym}
use Rattle.ipx_ipxnet_ports.specs.ServerAddresses.{server_fds}
use Rattle.ipx_sockets.proofs.Watching.{none_watched, watched_more}
use Rattle.ipx_sockets.proofs.poller.Poller.watch_servers.Goals as goal

pub loop-server-init : goal.loop-server-init
loop-server-init c = (none_watched c.args.self.now.poll.watched c.args.self.now.poll.small, search rules, search rules)

pub loop-server-preserved : goal.loop-server-preserved
loop-server-preserved c =
    let (fd, is, more) = c.in_ok-watch_socket.ensures.trace in
    (search rules, watched_more (server_fds c.args.sockets.now.sockets.items) c.loop-server.server fd c.args.self.now.poll.trace.items c.loop-server.self.poll.trace.items c.watch_socket.new.self.poll.trace.items c.loop-server.invariant.1 (sym c.descriptor.ensures ∙ is) more, search rules)
