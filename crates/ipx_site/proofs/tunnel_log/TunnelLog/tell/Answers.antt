use Rattle.ipx_site.proofs.tunnel_log.TunnelLog.tell.Goals as goal

pub returns : goal.returns
returns g c = rw (c.sockets-sockets.ensures, c.ethernet.ensures, c.port_indices.ensures) at c.tell_ports.ensures
