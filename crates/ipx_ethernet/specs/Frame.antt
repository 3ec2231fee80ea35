-- Ethernet frames that hold an IPX packet (IEEE 802.3, IEEE 802.2, RFC 1042; Novell's four encapsulations):
-- which bytes are one, and which station receives it.
use Rattle.std.specs.Prelude.{◌≡◌, ◌≤◌, ℕ, ◌+◌, ◌%◌, List, [], ◌++◌, ◌∷◌, length, take, drop, slice_index, replicate, Bool, true, false, ◌||◌, nat_lt, ◌==◌, if◌then◌else◌}
use Rattle.std.specs.Str.{bytes_eq}
use Rattle.ipx_wire.specs.Assigned.{broadcast_node}
use Rattle.ipx_wire.specs.Ipx.{IsIpx, PacketView, number}
use Rattle.ipx_wire.specs.declared.address.Node.{Node}
use Rattle.ipx_ethernet.specs.declared.encapsulation.Encapsulation.{Encapsulation}
use Rattle.ipx_ethernet.specs.declared.encapsulation.Encapsulation.TheVariants.{Raw, Llc, Snap, EthernetII}
use Rattle.ipx_ethernet.specs.declared.frame.Frame.{Frame}

-- a frame, apart from where its packet is in memory
pub record FrameView : Type 0 where
  pub to : Node
  pub from : Node
  pub packet : List ℕ

abbrev pub frame_view : Frame → FrameView
frame_view f = record { to = f.to; from = f.from; packet = f.packet.now }

-- the frame of these stations and this packet
abbrev pub frame_of : Node → Node → List ℕ → FrameView
frame_of to from packet = record { to = to; from = from; packet = packet }

-- what is between the length or type and the packet. Raw: nothing. Llc: NetWare's service access point twice,
-- and UI (IEEE 802.2). Snap: the SNAP header with the type of IPX (RFC 1042). EthernetII: nothing
abbrev pub link_bytes : Encapsulation → List ℕ
link_bytes Raw = []
link_bytes Llc = 0xe0 ∷ 0xe0 ∷ 3 ∷ []
link_bytes Snap = 0xaa ∷ 0xaa ∷ 3 ∷ 0 ∷ 0 ∷ 0 ∷ 0x81 ∷ 0x37 ∷ []
link_bytes EthernetII = []

-- the most bytes of a packet: 1,500, less what precedes it
abbrev pub most_of : Encapsulation → ℕ
most_of Raw = 1500
most_of Llc = 1497
most_of Snap = 1492
most_of EthernetII = 1500

-- where the packet begins
abbrev pub packet_place : Encapsulation → ℕ
packet_place e = 14 + length (link_bytes e)

-- what follows the addresses: a length up to 1500, above that a type
abbrev pub length_or_type : List ℕ → ℕ
length_or_type bytes = number 2 12 bytes

abbrev pub IsTypeOrLength : Encapsulation → ℕ → Type 0
IsTypeOrLength Raw n = n ≤ 1500
IsTypeOrLength Llc n = n ≤ 1500
IsTypeOrLength Snap n = n ≤ 1500
IsTypeOrLength EthernetII n = n ≡ 0x8137

-- where the contents of a frame end: as the length says, or with the frame
abbrev pub frame_end : List ℕ → ℕ
frame_end bytes =
    if nat_lt 1500 (length_or_type bytes) then length bytes else 14 + length_or_type bytes

-- the bytes name the encapsulation, and are not truncated
pub record HasKind (e : Encapsulation) (bytes : List ℕ) : Type 0 where
  pub kind : IsTypeOrLength e (length_or_type bytes)
  pub link : take (length (link_bytes e)) (drop 14 bytes) ≡ link_bytes e
  pub there : frame_end bytes ≤ length bytes

-- the bytes are the frame in the encapsulation: the addresses, the length or type, the encapsulation's
-- header, an IPX packet within the length, and then the tail
pub record IsFrame (e : Encapsulation) (f : FrameView) (bytes tail : List ℕ) : Type 0 where
  pub to : take 6 bytes ≡ f.to.0
  pub from : take 6 (drop 6 bytes) ≡ f.from.0
  pub kind : HasKind e bytes
  pub held : drop (packet_place e) bytes ≡ f.packet ++ tail
  pub packet : (p : PacketView) × IsIpx p f.packet []
  pub counted : packet_place e + length f.packet ≤ frame_end bytes
  pub most : length bytes ≤ 1514

-- an address is a group's if its bit that is sent first is 1 (IEEE 802.3)
abbrev pub is_group : List ℕ → Bool
is_group address = slice_index address 0 % 2 == 1

-- the station receives the frame: it is for it or for all, and from another station
pub record IsHeardBy (own : Node) (f : FrameView) : Type 0 where
  pub single : is_group f.from.0 ≡ false
  pub named : bytes_eq f.from.0 (replicate 6 0) ≡ false
  pub other : bytes_eq f.from.0 own.0 ≡ false
  pub for_it : (bytes_eq f.to.0 own.0 || bytes_eq f.to.0 broadcast_node) ≡ true

-- a packet's own bytes, as many as its length field says, without what follows
abbrev pub own_bytes : List ℕ → List ℕ
own_bytes packet = take (number 2 2 packet) packet
