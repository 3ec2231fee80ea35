-- What a datagram is read as: a packet with the contents of its body, or the fault that refuses it.
use Rattle.std.specs.Prelude.{◌≡◌, ℕ, List, Option, Some, None, ◌==◌, if◌then◌else◌}
use Rattle.ipx_wire.specs.Assigned.{rip_socket, sap_socket, spx_type}
use Rattle.ipx_wire.specs.declared.ipx.packet.IpxHeader.{IpxHeader}
use Rattle.ipx_wire.specs.declared.ipx.fault.IpxFault.{IpxFault}
use Rattle.ipx_wire.specs.declared.spx.packet.SpxHeader.{SpxHeader}
use Rattle.ipx_wire.specs.declared.spx.fault.SpxFault.{SpxFault}
use Rattle.ipx_wire.specs.Ipx.{PacketView, IsIpx, ipx_fault, packet_view}
use Rattle.ipx_wire.specs.Spx.{IsSpx, spx_fault}
use Rattle.ipx_control.specs.declared.fault.ControlFault.{ControlFault}
use Rattle.ipx_control.specs.Rip.{RipView, IsRip, rip_fault, rip_view}
use Rattle.ipx_control.specs.Sap.{SapView, IsSap, sap_fault, sap_view}
use Rattle.ipx_inspect.specs.declared.decoded.Contents as code
use Rattle.ipx_inspect.specs.declared.decoded.Contents.TheVariants as bodies
use Rattle.ipx_inspect.specs.declared.decoded.Decoded as readings_of
use Rattle.ipx_inspect.specs.declared.decoded.Decoded.TheVariants as readings

-- what a body is read as
pub data Protocol : Type 0 where
  Spx : Protocol
  Rip : Protocol
  Sap : Protocol
  Other : Protocol

-- by the destination socket
abbrev pub protocol_at : ℕ → Protocol
protocol_at socket =
    if socket == rip_socket then Rip
    else if socket == sap_socket then Sap
    else Other

-- SPX has its own packet type, for any socket
abbrev pub protocol_of : IpxHeader → Protocol
protocol_of h = if h.kind == spx_type then Spx else protocol_at h.to.socket.0

-- the contents of a body, apart from where it is in memory
pub data ContentsView : Type 0 where
  Plain : ContentsView
  OfSpx : SpxHeader → List ℕ → ContentsView
  OfRip : RipView → ContentsView
  OfSap : SapView → ContentsView

abbrev pub contents_view : code.Contents → ContentsView
contents_view bodies.Plain = Plain
contents_view (bodies.OfSpx header payload) = OfSpx header payload.now
contents_view (bodies.OfRip rip) = OfRip (rip_view rip)
contents_view (bodies.OfSap sap) = OfSap (sap_view sap)

-- a body has these contents; only SPX, RIP and SAP are read
abbrev pub IsContents : Protocol → List ℕ → ContentsView → Type 0
IsContents Spx body c =
    (h : SpxHeader) × (payload : List ℕ) × IsSpx h payload body × (c ≡ OfSpx h payload)
IsContents Rip body c = (m : RipView) × (tail : List ℕ) × IsRip m body tail × (c ≡ OfRip m)
IsContents Sap body c = (m : SapView) × (tail : List ℕ) × IsSap m body tail × (c ≡ OfSap m)
IsContents Other body c = c ≡ Plain

-- the fault that refuses a body of RIP or SAP
abbrev pub body_fault : Protocol → List ℕ → Option ControlFault
body_fault Spx body = None
body_fault Rip body = rip_fault body
body_fault Sap body = sap_fault body
body_fault Other body = None

-- a packet with the contents of its body, or the fault that refuses the packet or its body
pub data DecodedView : Type 0 where
  NoPacket : IpxFault → DecodedView
  NoSpx : SpxFault → DecodedView
  NoControl : ControlFault → DecodedView
  Holds : PacketView → ContentsView → DecodedView

abbrev pub decoded_view : readings_of.Decoded → DecodedView
decoded_view (readings.NoPacket fault) = NoPacket fault
decoded_view (readings.NoSpx fault) = NoSpx fault
decoded_view (readings.NoControl fault) = NoControl fault
decoded_view (readings.Holds packet contents) = Holds (packet_view packet) (contents_view contents)

-- the bytes are read as this
abbrev pub IsDecoded : List ℕ → DecodedView → Type 0
IsDecoded bytes (NoPacket f) = ipx_fault bytes ≡ Some f
IsDecoded bytes (NoSpx f) = (d : PacketView) × (tail : List ℕ) × IsIpx d bytes tail
    × (protocol_of d.header ≡ Spx) × (spx_fault d.body ≡ Some f)
IsDecoded bytes (NoControl f) = (d : PacketView) × (tail : List ℕ) × IsIpx d bytes tail
    × (body_fault (protocol_of d.header) d.body ≡ Some f)
IsDecoded bytes (Holds d c) =
    (tail : List ℕ) × IsIpx d bytes tail × IsContents (protocol_of d.header) d.body c
