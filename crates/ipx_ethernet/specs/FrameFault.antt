-- The first fault that keeps a station from receiving a frame (IEEE 802.3, IEEE 802.2, RFC 1042), and the
-- numbers of the faults.
use Rattle.std.specs.Prelude.{ℕ, ◌+◌, ◌-◌, List, length, take, drop, replicate, Bool, ◌||◌, Option, Some, None, nat_lt, ◌==◌, if◌then◌else◌}
use Rattle.std.specs.Str.{bytes_eq}
use Rattle.ipx_wire.specs.Assigned.{broadcast_node}
use Rattle.ipx_wire.specs.Ipx.{ipx_fault, number}
use Rattle.ipx_wire.specs.declared.address.Node.{Node}
use Rattle.ipx_wire.specs.declared.ipx.fault.IpxFault.{IpxFault}
use Rattle.ipx_ethernet.specs.declared.encapsulation.Encapsulation.{Encapsulation}
use Rattle.ipx_ethernet.specs.declared.encapsulation.Encapsulation.TheVariants.{Raw, Llc, Snap, EthernetII}
use Rattle.ipx_ethernet.specs.declared.fault.FrameFault.{FrameFault}
use Rattle.ipx_ethernet.specs.declared.fault.FrameFault.TheVariants.{FrameShort, FrameLong, SourceGroup, SourceZero, OwnSource, OtherStation, Tagged, OtherType, FrameTruncated, OtherLlc, NoPacket, PacketLong, NoRoom}
use Rattle.ipx_ethernet.specs.Frame.{frame_end, is_group, length_or_type, link_bytes, packet_place}

-- the encapsulation of the bytes that a length counts: FFFF, the checksum of a raw packet; or the header of
-- 802.2; or that of SNAP
abbrev pub encapsulation_in : List ℕ → Option Encapsulation
encapsulation_in counted =
    if number 2 0 counted == 0xffff then Some Raw
    else if bytes_eq (link_bytes Llc) (take 3 counted) then Some Llc
    else if bytes_eq (link_bytes Snap) (take 8 counted) then Some Snap
    else None

-- faults of what is between the header of the encapsulation and the end of the contents
abbrev pub of_packet : Option IpxFault → Option FrameFault
of_packet None = None
of_packet (Some f) = Some (NoPacket f)

abbrev pub payload_of : Encapsulation → List ℕ → List ℕ
payload_of e bytes = take (frame_end bytes - packet_place e) (drop (packet_place e) bytes)

abbrev pub packet_fault : Encapsulation → List ℕ → Option FrameFault
packet_fault e bytes = of_packet (ipx_fault (payload_of e bytes))

abbrev pub counted_fault : Option Encapsulation → List ℕ → Option FrameFault
counted_fault None bytes = Some OtherLlc
counted_fault (Some e) bytes = packet_fault e bytes

-- the types of VLAN tags (IEEE 802.1Q and similar)
abbrev pub is_tag : ℕ → Bool
is_tag n = (n == 0x8100) || (n == 0x88a8) || (n == 0x9100)

-- faults of the length or type, and of what follows it
abbrev pub kind_fault : List ℕ → Option FrameFault
kind_fault bytes =
    if is_tag (length_or_type bytes) then Some (Tagged (length_or_type bytes))
    else if length_or_type bytes == 0x8137 then packet_fault EthernetII bytes
    else if nat_lt 1500 (length_or_type bytes) then Some (OtherType (length_or_type bytes))
    else if nat_lt (length bytes) (14 + length_or_type bytes)
    then Some (FrameTruncated (length_or_type bytes) (length bytes))
    else counted_fault (encapsulation_in (take (length_or_type bytes) (drop 14 bytes))) bytes

-- the station of six bytes
abbrev pub node_of : List ℕ → Node
node_of address = record { 0 = address }

-- faults of the addresses, for the station that receives
abbrev pub addressed_fault : Node → Node → Node → Option FrameFault
addressed_fault own to from =
    if is_group from.0 then Some (SourceGroup from)
    else if bytes_eq from.0 (replicate 6 0) then Some SourceZero
    else if bytes_eq from.0 own.0 then Some OwnSource
    else if bytes_eq to.0 own.0 || bytes_eq to.0 broadcast_node then None
    else Some (OtherStation to)

-- faults of the size
abbrev pub size_fault : ℕ → Option FrameFault
size_fault n =
    if nat_lt n 14 then Some (FrameShort n)
    else if nat_lt 1514 n then Some (FrameLong n)
    else None

-- the first of two faults
abbrev pub fault_or_next : Option FrameFault → Option FrameFault → Option FrameFault
fault_or_next (Some f) next = Some f
fault_or_next None next = next

-- the first condition that keeps the station from receiving the bytes as a frame
abbrev pub frame_fault : Node → List ℕ → Option FrameFault
frame_fault own bytes =
    fault_or_next (size_fault (length bytes)) (fault_or_next
    (addressed_fault own (node_of (take 6 bytes)) (node_of (take 6 (drop 6 bytes))))
    (kind_fault bytes))

-- the number of a fault
abbrev pub frame_fault_number : FrameFault → ℕ
frame_fault_number (FrameShort have) = 40
frame_fault_number (FrameLong have) = 41
frame_fault_number (SourceGroup address) = 42
frame_fault_number SourceZero = 43
frame_fault_number OwnSource = 44
frame_fault_number (OtherStation address) = 45
frame_fault_number (Tagged value) = 46
frame_fault_number (OtherType value) = 47
frame_fault_number (FrameTruncated said have) = 48
frame_fault_number OtherLlc = 49
frame_fault_number (NoPacket f) = 50
frame_fault_number (PacketLong have most) = 51
frame_fault_number (NoRoom want have) = 52
