use Rattle.std.proofs.Common.{◌∙◌, rules, sym}
use Rattle.ipx_ethernet_ports.specs.EthernetAddresses.{ethernet_fds}
use Rattle.ipx_sockets.proofs.Watching.{none_watched, watched_more}
use Rattle.ipx_sockets.proofs.poller.Poller.watch_ethernet.Goals as goal

pub loop-wire-init : goal.loop-wire-init
loop-wire-init c = (none_watched c.args.self.now.poll.watched c.args.self.now.poll.small, search rules, search rules)

pub loop-wire-preserved : goal.loop-wire-preserved
loop-wire-preserved c =
    let (fd, is, more) = c.in_ok-watch_socket.ensures.trace in
    (search rules, watched_more (ethernet_fds c.args.sockets.now.ethernet.items) c.loop-wire.wire fd c.args.self.now.poll.trace.items c.loop-wire.self.poll.trace.items c.watch_socket.new.self.poll.trace.items c.loop-wire.invariant.1 (sym c.descriptor.ensures ∙ is) more, search rules)
