use Rattle.ipx_site.proofs.repeat_log.RepeatLog.tell.Goals as goal

pub returns : goal.returns
returns g c = rw (c.servers-servers.ensures, c.servers.ensures, c.port_indices.ensures) at c.tell_ports.ensures
