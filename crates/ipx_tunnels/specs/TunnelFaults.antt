-- The first reason why a datagram carries no frame in a tunnel (RFC 7348, RFC 3931).
use Rattle.std.specs.Prelude.{ℕ, ◌%◌, Bool, List, length, take, drop, slice_index, Option, Some, None, nat_lt, ◌==◌, if◌then◌else◌}
use Rattle.std.specs.Str.{bytes_eq}
use Rattle.ipx_wire.specs.Ipx.{number}
use Rattle.ipx_tunnels.specs.declared.fault.TunnelFault.{TunnelFault}
use Rattle.ipx_tunnels.specs.declared.fault.TunnelFault.TheVariants.{Short, NotVxlan, OtherVni, Control, OtherVersion, OtherSession, OtherCookie}
use Rattle.ipx_tunnels.specs.declared.tunnel.Session.{Session}
use Rattle.ipx_tunnels.specs.declared.tunnel.Tunnel.{Tunnel}
use Rattle.ipx_tunnels.specs.declared.tunnel.Tunnel.TheVariants.{Plain, Vxlan, L2tpv3}
use Rattle.ipx_tunnels.specs.declared.tunnel.Vni.{Vni}
use Rattle.ipx_tunnels.specs.Tunnels.{cookie_bytes, session_size}

-- the network of three bytes
abbrev pub vni_of : List ℕ → Vni
vni_of bytes = record { 0 = bytes }

abbrev pub vxlan_fault : Vni → List ℕ → Option TunnelFault
vxlan_fault vni bytes =
    if nat_lt (length bytes) 8 then Some (Short (length bytes))
    else if slice_index bytes 0 == 8
    then (if bytes_eq (take 3 (drop 4 bytes)) vni.0 then None else Some (OtherVni (vni_of (take 3 (drop 4 bytes)))))
    else Some (NotVxlan (slice_index bytes 0))

-- the cookie of a session is at its place
abbrev pub is_cookie_there : Session → List ℕ → Bool
is_cookie_there s bytes = bytes_eq (cookie_bytes s.cookie) (take (length (cookie_bytes s.cookie)) (drop 8 bytes))

-- faults of session and cookie
abbrev pub session_fault : Session → List ℕ → Option TunnelFault
session_fault s bytes =
    if number 4 4 bytes == s.id
    then (if is_cookie_there s bytes then None else Some OtherCookie)
    else Some (OtherSession (number 4 4 bytes))

abbrev pub l2tpv3_fault : Session → List ℕ → Option TunnelFault
l2tpv3_fault s bytes =
    if nat_lt (length bytes) (session_size s) then Some (Short (length bytes))
    else if nat_lt (slice_index bytes 0) 128
    then (if slice_index bytes 1 % 16 == 3 then session_fault s bytes else Some (OtherVersion (slice_index bytes 1 % 16)))
    else Some Control

abbrev pub tunnel_fault : Tunnel → List ℕ → Option TunnelFault
tunnel_fault Plain bytes = None
tunnel_fault (Vxlan vni) bytes = vxlan_fault vni bytes
tunnel_fault (L2tpv3 s) bytes = l2tpv3_fault s bytes
