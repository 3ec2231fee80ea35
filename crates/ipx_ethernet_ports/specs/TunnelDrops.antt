-- How a port counts the datagrams of its remotes that have no frame in its tunnel. Defined by this project.
use Rattle.std.specs.Prelude.{ℕ, ◌+◌, Some, None}
use Rattle.std.specs.declared.net.socket_addr.SocketAddr.{SocketAddr}
use Rattle.ipx_carrier.specs.Counting.{counted, raised}
use Rattle.ipx_tunnels.specs.declared.fault.TunnelFault.{TunnelFault}
use Rattle.ipx_tunnels.specs.declared.fault.TunnelFault.TheVariants.{Short, NotVxlan, OtherVni, Control, OtherVersion, OtherSession, OtherCookie}
use Rattle.ipx_ethernet_ports.specs.declared.tunnel_drops.TunnelDrops.{TunnelDrops}

-- counts of no datagram
abbrev pub no_drops : TunnelDrops
no_drops = record {
  short = 0;
  not_vxlan = 0;
  other_vni = 0;
  control = 0;
  other_version = 0;
  other_session = 0;
  other_cookie = 0;
  last = None;
}

-- how many there were, of all reasons
abbrev pub drops_total : TunnelDrops → ℕ
drops_total d =
    counted (d.short + d.not_vxlan + d.other_vni + d.control + d.other_version + d.other_session + d.other_cookie)

-- one more datagram with this fault: only the count of its reason rises
abbrev pub reason_counted : TunnelFault → TunnelDrops → TunnelDrops
reason_counted (Short have) d = record d { short = raised d.short }
reason_counted (NotVxlan first) d = record d { not_vxlan = raised d.not_vxlan }
reason_counted (OtherVni vni) d = record d { other_vni = raised d.other_vni }
reason_counted Control d = record d { control = raised d.control }
reason_counted (OtherVersion version) d = record d { other_version = raised d.other_version }
reason_counted (OtherSession id) d = record d { other_session = raised d.other_session }
reason_counted OtherCookie d = record d { other_cookie = raised d.other_cookie }

-- and it is the last one
abbrev pub drop_counted : SocketAddr → TunnelFault → TunnelDrops → TunnelDrops
drop_counted from fault d = record (reason_counted fault d) { last = Some (record { from = from; fault = fault }) }
