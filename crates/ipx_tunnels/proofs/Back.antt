-- What one side of a tunnel sends is a datagram of the other side's tunnel.
use Rattle.std.proofs.Common.{◌≡◌, ◌<◌, ℕ, ◌^◌, List, [], ◌∷◌, ◌++◌, length, take, refl, ap, ◌∙◌, append_assoc, arith, length-append}
use Rattle.std.proofs.lemmas.List.{take_at, drop_at}
use Rattle.byteorder.specs.Numbers.{big_number-reads_back}
use Rattle.ipx_tunnels.specs.declared.tunnel.Session.{Session}
use Rattle.ipx_tunnels.specs.declared.tunnel.Tunnel.{Tunnel}
use Rattle.ipx_tunnels.specs.declared.tunnel.Tunnel.TheVariants.{Plain, Vxlan, L2tpv3}
use Rattle.ipx_tunnels.specs.declared.tunnel.Vni.{Vni}
use Rattle.ipx_tunnels.specs.Tunnels.{FitsHeader, IsInTunnel, IsL2tpv3, IsVxlan, cookie_bytes, datagram_of, header_of, peer_of, peer_session, session_size, sublayer_bytes}

vxlan_back : (vni : Vni) (frame : List ℕ) → length vni.0 ≡ 3 → IsVxlan vni (datagram_of (Vxlan vni) frame) frame
vxlan_back vni frame three =
    let size : length (header_of (Vxlan vni)) ≡ 8 = omega (arith, three, length-append vni.0 (0 ∷ [])) in
    record {
      whole = omega (arith, size, length-append (header_of (Vxlan vni)) frame);
      flags = refl;
      network = ap (take 3) (append_assoc vni.0 (0 ∷ []) frame) ∙ take_at vni.0 ((0 ∷ []) ++ frame) 3 three;
      held = drop_at (header_of (Vxlan vni)) frame 8 size;
    }

session_back : (s : Session) (frame : List ℕ) → s.peer_id < 2 ^ 32 → IsL2tpv3 (peer_session s) (datagram_of (L2tpv3 s) frame) frame
session_back s frame fits =
    let cookie = cookie_bytes s.peer_cookie in
    let more = sublayer_bytes s.sublayer in
    let size : length (header_of (L2tpv3 s)) ≡ session_size (peer_session s) = omega (arith, length-append (cookie_bytes s.peer_cookie) (sublayer_bytes s.sublayer)) in
    record {
      whole = omega (arith, size, length-append (header_of (L2tpv3 s)) frame);
      data_bit = omega arith;
      version = refl;
      session = big_number-reads_back 4 s.peer_id ((cookie ++ more) ++ frame) fits;
      cookie = ap (take (length cookie)) (append_assoc cookie more frame) ∙ take_at cookie (more ++ frame) (length cookie) refl;
      held = drop_at (header_of (L2tpv3 s)) frame (session_size (peer_session s)) size;
    }

pub back : (t : Tunnel) (frame : List ℕ) → FitsHeader t → IsInTunnel (peer_of t) (datagram_of t frame) frame
back Plain frame fits = refl
back (Vxlan vni) frame fits = vxlan_back vni frame fits
back (L2tpv3 s) frame fits = session_back s frame fits
