-- What a switch notices of frames that show a mistake on the segment. Defined by this project.
use Rattle.std.specs.Prelude.{ℕ, List, drop, take, slice_index, Bool, not, ◌&&◌, ◌||◌, ◌==◌, Option, Some, None, nat_le, if◌then◌else◌}
use Rattle.std.specs.Str.{bytes_eq}
use Rattle.ipx_wire.specs.Assigned.{broadcast_node}
use Rattle.ipx_wire.specs.Ipx.{number}
use Rattle.ipx_wire.specs.declared.address.Node.{Node}
use Rattle.ipx_ethernet.specs.declared.encapsulation.Encapsulation.{Encapsulation}
use Rattle.ipx_ethernet.specs.declared.encapsulation.Encapsulation.TheVariants.{Raw, Llc, Snap, EthernetII}
use Rattle.ipx_ethernet.specs.declared.ethernet_port.EthernetPort.{EthernetPort}
use Rattle.ipx_ethernet.specs.declared.fault.FrameFault.{FrameFault}
use Rattle.ipx_ethernet.specs.declared.fault.FrameFault.TheVariants.{OwnSource}
use Rattle.ipx_ethernet.specs.declared.notices.Claim.{Claim}
use Rattle.ipx_ethernet.specs.declared.notices.FrameNotice.{FrameNotice}
use Rattle.ipx_ethernet.specs.declared.notices.FrameNotice.TheVariants.{OwnFrame, OtherEncapsulation, OtherNetwork}
use Rattle.ipx_ethernet.specs.declared.notices.Notices.{Notices}
use Rattle.ipx_ethernet.specs.declared.notices.Sender.{Sender}
use Rattle.ipx_ethernet.specs.declared.notices.StationMove.{StationMove}
use Rattle.ipx_ethernet.specs.Frame.{length_or_type, packet_place}
use Rattle.ipx_ethernet.specs.FrameFault.{frame_fault, node_of}
use Rattle.ipx_ethernet.specs.PortFrames.{frames_raised}

-- nothing was noticed yet
abbrev pub no_notices : Notices
no_notices = record {
  claims = 0;
  last_claim = None;
  moves = 0;
  last_move = None;
  last_own = None;
  last_encapsulation = None;
}

-- who sent a frame that came from a remote
abbrev pub sender_of : List ℕ → ℕ → Sender
sender_of bytes end = record { node = node_of (take 6 (drop 6 bytes)); end = end }

-- whether a frame that has no fault is in this encapsulation: its length or type, and two bytes after it, say so
abbrev pub is_in : Encapsulation → List ℕ → Bool
is_in Raw bytes = nat_le (length_or_type bytes) 1500 && (number 2 14 bytes == 0xffff)
is_in Llc bytes = nat_le (length_or_type bytes) 1500 && (number 2 14 bytes == 0xe0e0)
is_in Snap bytes = nat_le (length_or_type bytes) 1500 && (number 2 14 bytes == 0xaaaa)
is_in EthernetII bytes = length_or_type bytes == 0x8137

-- RIP or SAP of the router that sent the frame itself: no router forwarded it
abbrev pub is_of_router : Node → List ℕ → Bool
is_of_router from packet = ((number 2 28 packet == 0x453) || (number 2 28 packet == 0x452))
    && (slice_index packet 4 == 0) && bytes_eq (take 6 (drop 22 packet)) from.0

-- its source network is known, and is not the port's
abbrev pub is_of_other_network : EthernetPort → List ℕ → Bool
is_of_other_network w packet =
    not ((number 4 18 packet == 0) || (number 4 18 packet == w.network.0))

-- a router says to all stations that the segment has another network than the port's
abbrev pub is_claim : EthernetPort → Node → Node → List ℕ → Bool
is_claim w to from packet =
    bytes_eq to.0 broadcast_node && is_of_router from packet && is_of_other_network w packet

abbrev pub claim_of : Sender → List ℕ → Claim
claim_of router packet = record { router = router; network = record { 0 = number 4 18 packet } }

-- the claim in a frame of the port's encapsulation, if there is one
abbrev pub claim_in : EthernetPort → List ℕ → ℕ → Option FrameNotice
claim_in w bytes end =
    if is_claim w (node_of (take 6 bytes)) (node_of (take 6 (drop 6 bytes))) (drop (packet_place w.encapsulation) bytes)
    then Some (OtherNetwork (claim_of (sender_of bytes end) (drop (packet_place w.encapsulation) bytes)))
    else None

-- what is noticed of a frame from a remote, by its fault: the port's own address as its source, another
-- encapsulation, or a claim
abbrev pub notice_by : Option FrameFault → EthernetPort → List ℕ → ℕ → Option FrameNotice
notice_by (Some OwnSource) w bytes end = Some (OwnFrame end)
notice_by (Some _) w bytes end = None
notice_by None w bytes end =
    if is_in w.encapsulation bytes then claim_in w bytes end
    else Some (OtherEncapsulation (sender_of bytes end))

abbrev pub notice_in : EthernetPort → List ℕ → ℕ → Option FrameNotice
notice_in w bytes end = notice_by (frame_fault w.own bytes) w bytes end

-- what is kept of it: the last one, and how many claims there were
abbrev pub frame_noticed : Option FrameNotice → Notices → Notices
frame_noticed None n = n
frame_noticed (Some (OwnFrame end)) n = record n { last_own = Some end }
frame_noticed (Some (OtherEncapsulation from)) n = record n { last_encapsulation = Some from }
frame_noticed (Some (OtherNetwork claim)) n =
    record n { claims = frames_raised n.claims; last_claim = Some claim }

-- the same for a station that moved to another remote
abbrev pub move_noticed : Option StationMove → Notices → Notices
move_noticed None n = n
move_noticed (Some m) n = record n { moves = frames_raised n.moves; last_move = Some m }
