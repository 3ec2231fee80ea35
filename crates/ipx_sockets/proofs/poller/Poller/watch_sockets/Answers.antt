use Rattle.std.proofs.Common.{◌∙◌, rules, sym}
use Rattle.ipx_sockets.specs.Senders.{udp_fds}
use Rattle.ipx_sockets.proofs.Watching.{none_watched, watched_more}
use Rattle.ipx_sockets.proofs.poller.Poller.watch_sockets.Goals as goal

pub loop-port-init : goal.loop-port-init
loop-port-init c = (none_watched c.args.self.now.poll.watched c.args.self.now.poll.small, search rules, search rules)

pub loop-port-preserved : goal.loop-port-preserved
loop-port-preserved c =
    let (fd, is, more) = c.in_ok-watch_socket.ensures.trace in
    (search rules, watched_more (udp_fds c.args.sockets.now.sockets.items) c.loop-port.port fd c.args.self.now.poll.trace.items c.loop-port.self.poll.trace.items c.watch_socket.new.self.poll.trace.items c.loop-port.invariant.1 (sym c.descriptor.ensures ∙ is) more, search rules)
