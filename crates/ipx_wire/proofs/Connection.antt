-- A datagram is at most one SPX packet, and its sequence number is at its offset.
use Rattle.std.proofs.Common.{◌≡◌, ℕ, List, ◌++◌, drop, arith, sym, ap, ◌∙◌, subst}
use Rattle.std.proofs.lemmas.List.{drop-drop}
use Rattle.byteorder.specs.Endian.{big_number}
use Rattle.ipx_wire.specs.declared.spx.packet.SpxHeader.{SpxHeader}
use Rattle.ipx_wire.specs.Ipx.{PacketView}
use Rattle.ipx_wire.specs.Spx.{IsSpx}
use Rattle.ipx_wire.specs.Connection.{IsConnectionPacket, sequence_in}
use Rattle.ipx_wire.proofs.RoundTrip.{number_more, same_packet}
use Rattle.ipx_wire.proofs.SpxTrip.{same_spx}

pub same_connection_packet : (p q : PacketView) (h k : SpxHeader) (body other bytes : List ℕ) → IsConnectionPacket p h body bytes → IsConnectionPacket q k other bytes
    → (p ≡ q) × (h ≡ k) × (body ≡ other)
same_connection_packet p q h k body other bytes x y =
    let packet : p ≡ q = (same_packet p q bytes x.tail y.tail x.packet y.packet).0 in
    let spx = same_spx h k body other q.body (subst (λ (t : PacketView). IsSpx h body t.body) packet x.spx) y.spx in
    (packet, spx.0, spx.1)

pub sequence_is : (p : PacketView) (h : SpxHeader) (body bytes : List ℕ) → IsConnectionPacket p h body bytes → sequence_in bytes ≡ h.seq
sequence_is p h body bytes x =
    let inside : drop 36 bytes ≡ drop 6 (p.body ++ x.tail) = sym (drop-drop 6 30 bytes) ∙ ap (drop 6) x.packet.body in
    ap (big_number 2) inside ∙ number_more 2 6 p.body x.tail (omega (arith, x.spx.size)) ∙ x.spx.header.seq
