-- What a port on an Ethernet segment does with the frames there: which packet goes to the core, and why
-- another frame is kept from it. Defined by this project.
use Rattle.std.specs.Prelude.{◌≡◌, ◌≢◌, ℕ, ◌+◌, ◌-◌, ◌^◌, List, Bool, true, false, not, min, ◌||◌, ◌==◌, Some}
use Rattle.std.specs.Str.{bytes_eq}
use Rattle.ipx_wire.specs.Assigned.{broadcast_node}
use Rattle.ipx_wire.specs.Ipx.{number}
use Rattle.ipx_wire.specs.declared.address.Node.{Node}
use Rattle.ipx_ethernet.specs.declared.encapsulation.Encapsulation.{Encapsulation}
use Rattle.ipx_ethernet.specs.declared.encapsulation.Encapsulation.TheVariants.{Raw, Llc, Snap, EthernetII}
use Rattle.ipx_ethernet.specs.declared.fault.FrameFault.{FrameFault}
use Rattle.ipx_ethernet.specs.declared.fault.FrameFault.TheVariants.{FrameShort, FrameLong, SourceGroup, SourceZero, OwnSource, OtherStation, Tagged, OtherType, FrameTruncated, OtherLlc, NoPacket, PacketLong, NoRoom}
use Rattle.ipx_ethernet.specs.declared.ethernet_port.FrameDrop.{FrameDrop}
use Rattle.ipx_ethernet.specs.declared.ethernet_port.FrameDrop.TheVariants.{Unheard, OtherEncapsulation, OtherNetwork}
use Rattle.ipx_ethernet.specs.declared.ethernet_port.EthernetPort.{EthernetPort}
use Rattle.ipx_ethernet.specs.declared.frame_counters.FrameCounters.{FrameCounters}
use Rattle.ipx_ethernet.specs.Frame.{FrameView, IsFrame, IsHeardBy}
use Rattle.ipx_ethernet.specs.FrameFault.{frame_fault}

-- the network that a packet is for
abbrev pub destination_network : List ℕ → ℕ
destination_network packet = number 4 6 packet

-- a frame for all stations reaches each router, so its packet must be for this network, or for the local
-- network (0)
abbrev pub is_for_segment : EthernetPort → Node → List ℕ → Bool
is_for_segment w to packet = not (bytes_eq to.0 broadcast_node) || (destination_network packet == 0)
    || (destination_network packet == w.network.0)

-- the port hands the packet to the core: the bytes are a frame that it receives, in its encapsulation, and
-- the packet is accepted there
abbrev pub IsForCore : EthernetPort → List ℕ → List ℕ → Type 0
IsForCore w bytes packet = (f : FrameView) × (tail : List ℕ) × IsFrame w.encapsulation f bytes tail
    × IsHeardBy w.own f × (is_for_segment w f.to f.packet ≡ true) × (packet ≡ f.packet)

-- the port keeps the frame from the core, for this reason
abbrev pub KeepsFrame : EthernetPort → List ℕ → FrameDrop → Type 0
KeepsFrame w bytes (Unheard fault) = frame_fault w.own bytes ≡ Some fault
KeepsFrame w bytes (OtherEncapsulation came own) = (f : FrameView) × (tail : List ℕ)
    × IsFrame came f bytes tail × IsHeardBy w.own f × (own ≡ w.encapsulation) × (came ≢ own)
KeepsFrame w bytes (OtherNetwork network) = (f : FrameView) × (tail : List ℕ)
    × IsFrame w.encapsulation f bytes tail × IsHeardBy w.own f × (is_for_segment w f.to f.packet ≡ false)
    × (network.0 ≡ destination_network f.packet)

-- a count of 64 bits goes up by one, and stays at the greatest
abbrev pub frames_raised : ℕ → ℕ
frames_raised n = min (n + 1) (2 ^ 64 - 1)

-- one more frame that the port does not receive
abbrev pub unheard_counted : FrameFault → FrameCounters → FrameCounters
unheard_counted (FrameShort have) c = record c { broken = frames_raised c.broken }
unheard_counted (FrameLong have) c = record c { broken = frames_raised c.broken }
unheard_counted (SourceGroup address) c = record c { broken = frames_raised c.broken }
unheard_counted SourceZero c = record c { broken = frames_raised c.broken }
unheard_counted OwnSource c = record c { own = frames_raised c.own }
unheard_counted (OtherStation address) c = record c { not_ours = frames_raised c.not_ours }
unheard_counted (Tagged value) c = record c { tagged = frames_raised c.tagged }
unheard_counted (OtherType value) c = record c { other_type = frames_raised c.other_type }
unheard_counted (FrameTruncated said have) c = record c { broken = frames_raised c.broken }
unheard_counted OtherLlc c = record c { other_llc = frames_raised c.other_llc }
unheard_counted (NoPacket f) c = record c { no_packet = frames_raised c.no_packet }
unheard_counted (PacketLong have most) c = record c { broken = frames_raised c.broken }
unheard_counted (NoRoom want have) c = record c { broken = frames_raised c.broken }

-- one more packet in an encapsulation that is not the port's
abbrev pub encapsulation_counted : Encapsulation → FrameCounters → FrameCounters
encapsulation_counted Raw c = record c { in_raw = frames_raised c.in_raw }
encapsulation_counted Llc c = record c { in_llc = frames_raised c.in_llc }
encapsulation_counted Snap c = record c { in_snap = frames_raised c.in_snap }
encapsulation_counted EthernetII c = record c { in_ethernet_ii = frames_raised c.in_ethernet_ii }

-- one more frame that is kept from the core: only its count changes
abbrev pub frame_counted : FrameDrop → FrameCounters → FrameCounters
frame_counted (Unheard fault) c = unheard_counted fault c
frame_counted (OtherEncapsulation came own) c = encapsulation_counted came c
frame_counted (OtherNetwork network) c = record c { other_network = frames_raised c.other_network }

-- counts of no frame
abbrev pub no_frames : FrameCounters
no_frames = record {
  handed_on = 0;
  broken = 0;
  own = 0;
  not_ours = 0;
  tagged = 0;
  other_type = 0;
  other_llc = 0;
  no_packet = 0;
  in_raw = 0;
  in_llc = 0;
  in_snap = 0;
  in_ethernet_ii = 0;
  other_network = 0;
}
