-- The bytes of a frame that is sent. They are padded to the least size of IEEE 802.3, and raw frames to an
-- even size, which network cards of the time needed.
use Rattle.std.specs.Prelude.{◌≡◌, ℕ, ◌+◌, ◌-◌, ◌%◌, List, length, replicate, Option, Some, None, max, nat_lt, if◌then◌else◌}
use Rattle.ipx_wire.specs.Ipx.{ipx_fault, number}
use Rattle.ipx_wire.specs.declared.ipx.fault.IpxFault.{IpxFault}
use Rattle.ipx_ethernet.specs.declared.encapsulation.Encapsulation.{Encapsulation}
use Rattle.ipx_ethernet.specs.declared.encapsulation.Encapsulation.TheVariants.{Raw, Llc, Snap, EthernetII}
use Rattle.ipx_ethernet.specs.declared.fault.FrameFault.{FrameFault}
use Rattle.ipx_ethernet.specs.declared.fault.FrameFault.TheVariants.{NoPacket, PacketLong, NoRoom}
use Rattle.ipx_ethernet.specs.Frame.{FrameView, IsFrame, length_or_type, most_of, packet_place}

-- how many bytes follow the length or type, for a packet of n bytes; an even number if raw
abbrev pub held_size : Encapsulation → ℕ → ℕ
held_size Raw n = n + n % 2
held_size Llc n = 3 + n
held_size Snap n = 8 + n
held_size EthernetII n = n

-- the length or type itself
abbrev pub sent_kind : Encapsulation → ℕ → ℕ
sent_kind Raw n = held_size Raw n
sent_kind Llc n = held_size Llc n
sent_kind Snap n = held_size Snap n
sent_kind EthernetII n = 0x8137

-- the size of the frame in bytes
abbrev pub sent_size : Encapsulation → ℕ → ℕ
sent_size e n = max 60 (14 + held_size e n)

-- the bytes are the frame as it is sent: its length is exact, and zeros follow the packet
pub record IsSentFrame (e : Encapsulation) (f : FrameView) (bytes : List ℕ) : Type 0 where
  pub frame : IsFrame e f bytes (replicate (length bytes - (packet_place e + length f.packet)) 0)
  pub kind : length_or_type bytes ≡ sent_kind e (length f.packet)
  pub size : length bytes ≡ sent_size e (length f.packet)

-- the first condition that keeps a packet from being sent, with a buffer of `room` bytes
abbrev pub fitting_fault : Encapsulation → ℕ → ℕ → Option FrameFault
fitting_fault e n room =
    if nat_lt (most_of e) n then Some (PacketLong n (most_of e))
    else if nat_lt room (sent_size e n) then Some (NoRoom (sent_size e n) room)
    else None

abbrev pub sending_fault_of : Option IpxFault → Encapsulation → List ℕ → ℕ → Option FrameFault
sending_fault_of (Some f) e packet room = Some (NoPacket f)
sending_fault_of None e packet room = fitting_fault e (number 2 2 packet) room

abbrev pub sending_fault : Encapsulation → List ℕ → ℕ → Option FrameFault
sending_fault e packet room = sending_fault_of (ipx_fault packet) e packet room
