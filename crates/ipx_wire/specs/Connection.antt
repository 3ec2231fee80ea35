-- SPX packets in datagrams: an SPX packet as the body of an IPX packet (Novell SPX).
use Rattle.std.specs.Prelude.{◌≡◌, ℕ, ◌+◌, List}
use Rattle.ipx_wire.specs.Assigned.{ipx_header_size, spx_type}
use Rattle.ipx_wire.specs.Ipx.{IsIpx, PacketView, number}
use Rattle.ipx_wire.specs.Spx.{IsSpx}
use Rattle.ipx_wire.specs.declared.spx.packet.SpxHeader.{SpxHeader}

-- the datagram is an IPX packet of type 5 that holds this SPX packet, whatever follows it
pub record IsConnectionPacket (p : PacketView) (h : SpxHeader) (body bytes : List ℕ) : Type 0 where
  pub tail : List ℕ
  pub packet : IsIpx p bytes tail
  pub kind : p.header.kind ≡ spx_type
  pub spx : IsSpx h body p.body

-- the sequence number of a datagram that is an SPX packet: it is at offset 6 of the SPX header
abbrev pub sequence_in : List ℕ → ℕ
sequence_in bytes = number 2 (ipx_header_size + 6) bytes
