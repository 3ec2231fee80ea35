-- What a switch does with a frame that came from a remote. Defined by this project.
use Rattle.std.specs.Prelude.{ℕ, List, [], take, drop, length, replicate, Bool, not, ◌&&◌, ◌||◌, Option, None, nat_le, if◌then◌else◌}
use Rattle.std.specs.Str.{bytes_eq}
use Rattle.ipx_wire.specs.declared.address.Node.{Node}
use Rattle.ipx_ethernet.specs.declared.ethernet_port.FrameDrop.{FrameDrop}
use Rattle.ipx_ethernet.specs.declared.ethernet_port.EthernetPort.{EthernetPort}
use Rattle.ipx_ethernet.specs.declared.frame_counters.FrameCounters.{FrameCounters}
use Rattle.ipx_ethernet.specs.Frame.{is_group}
use Rattle.ipx_ethernet.specs.FrameFault.{node_of}
use Rattle.ipx_ethernet.specs.declared.notices.Notices.{Notices}
use Rattle.ipx_ethernet.specs.declared.notices.StationMove.{StationMove}
use Rattle.ipx_ethernet.specs.Notices.{frame_noticed, move_noticed, no_notices, notice_in}
use Rattle.ipx_ethernet.specs.PortFrames.{frame_counted, frames_raised, no_frames}
use Rattle.ipx_ethernet.specs.declared.egress.Egress.{Egress}
use Rattle.ipx_ethernet.specs.declared.egress.Egress.TheVariants.{Nowhere, ToOne, ToAll, ToOthers}
use Rattle.ipx_ethernet.specs.declared.mac_table.Station.{Station}
use Rattle.ipx_ethernet.specs.SwitchEnds.{end_of_station, move_of, stations_with, way_out, way_past}

-- a switch: its port, whether its remotes are joined, the stations known, its counts, and what it noticed. The
-- counts are of received frames, of frames that were to be forwarded, and of packets of the core that did not
-- fit a frame
pub record SwitchView : Type 0 where
  pub port : EthernetPort
  pub joined : Bool
  pub stations : List Station
  pub counts : FrameCounters
  pub passed : ℕ
  pub refused : ℕ
  pub notices : Notices

-- nothing was received yet
abbrev pub new_switch : EthernetPort → Bool → SwitchView
new_switch port joined = record {
  port = port;
  joined = joined;
  stations = [];
  counts = no_frames;
  passed = 0;
  refused = 0;
  notices = no_notices;
}

-- this many bytes may be forwarded: no fewer than the addresses and the length or type. No more than a full
-- frame of 1,514 with a tag (IEEE 802.1Q) and its check sequence, four bytes each
abbrev pub may_pass : ℕ → Bool
may_pass n = nat_le 14 n && nat_le n 1522

-- the destination and the source of a frame
abbrev pub station_to : List ℕ → Node
station_to bytes = node_of (take 6 bytes)

abbrev pub station_from : List ℕ → Node
station_from bytes = node_of (take 6 (drop 6 bytes))

-- an address that a station at a remote may have: not a group, not zero, and not the port's own
abbrev pub may_be_station : Node → Node → Bool
may_be_station own node =
    not (is_group node.0 || bytes_eq node.0 (replicate 6 0) || bytes_eq node.0 own.0)

-- which stations are known after one sent a frame from a remote
abbrev pub stations_from : Node → Node → ℕ → ℕ → List Station → List Station
stations_from own from end now known =
    if may_be_station own from
    then stations_with (record { node = from; end = end; moment = now }) known
    else known

-- the same for bytes
abbrev pub stations_after : Node → List ℕ → ℕ → ℕ → List Station → List Station
stations_after own bytes end now known =
    if may_pass (length bytes) then stations_from own (station_from bytes) end now known else known

-- where a frame is forwarded, by where its destination is known. The port's own frame, which came back, and
-- one that is for the port are not forwarded
abbrev pub way_between : Node → Node → Node → ℕ → Option ℕ → Egress
way_between own to from end place =
    if bytes_eq from.0 own.0 || bytes_eq to.0 own.0 then Nowhere else way_past end place

-- the same for bytes, if the remotes are joined
abbrev pub way_joined : Node → List ℕ → ℕ → ℕ → List Station → Egress
way_joined own bytes end now known =
    if may_pass (length bytes)
    then way_between own (station_to bytes) (station_from bytes) end
    (end_of_station (station_to bytes) now known)
    else Nowhere

abbrev pub way_after : SwitchView → List ℕ → ℕ → ℕ → Egress
way_after h bytes end now =
    if h.joined then way_joined h.port.own bytes end now h.stations else Nowhere

-- where the port's own frame to a node is sent: to each remote if it is for a group. Otherwise to the remote
-- where its destination is known, or to each
abbrev pub way_of_own : Node → ℕ → List Station → Egress
way_of_own node now known =
    if is_group node.0 then ToAll else way_out (end_of_station node now known)

-- one more frame that was to be forwarded
abbrev pub passed_with : Egress → ℕ → ℕ
passed_with Nowhere n = n
passed_with (ToOne e) n = frames_raised n
passed_with ToAll n = frames_raised n
passed_with (ToOthers giver) n = frames_raised n

-- the source address is known, if a station may have it
abbrev pub switch_knowing : SwitchView → List ℕ → ℕ → ℕ → SwitchView
switch_knowing h bytes end now =
    record h { stations = stations_after h.port.own bytes end now h.stations }

-- the move of a frame's source, if a station may have it
abbrev pub move_by : Node → Node → ℕ → ℕ → List Station → Option StationMove
move_by own from end now known =
    if may_be_station own from then move_of from end now known else None

-- the same for bytes
abbrev pub move_in : Node → List ℕ → ℕ → ℕ → List Station → Option StationMove
move_in own bytes end now known =
    if may_pass (length bytes) then move_by own (station_from bytes) end now known else None

-- what a frame from a remote shows is noticed
abbrev pub switch_noticing : SwitchView → List ℕ → ℕ → ℕ → SwitchView
switch_noticing h bytes end now = record h {
  notices = frame_noticed (notice_in h.port bytes end)
      (move_noticed (move_in h.port.own bytes end now h.stations) h.notices);
}

-- its source is known, and it is counted if it is to be forwarded
abbrev pub switch_forwarding : SwitchView → List ℕ → ℕ → ℕ → SwitchView
switch_forwarding h bytes end now = record (switch_knowing h bytes end now) {
  passed = passed_with (way_after (switch_knowing h bytes end now) bytes end now) h.passed;
}

-- the switch after a frame from a remote
abbrev pub switch_passing : SwitchView → List ℕ → ℕ → ℕ → SwitchView
switch_passing h bytes end now =
    switch_forwarding (switch_noticing h bytes end now) bytes end now

-- a switch apart from what it noticed
abbrev pub apart_from_notices : SwitchView → SwitchView
apart_from_notices h = record h { notices = no_notices }

-- one more frame whose packet went to the core, and one that was kept from it: only its count changes
abbrev pub switch_handing : SwitchView → SwitchView
switch_handing h =
    record h { counts = record h.counts { handed_on = frames_raised h.counts.handed_on } }

abbrev pub switch_keeping : FrameDrop → SwitchView → SwitchView
switch_keeping k h = record h { counts = frame_counted k h.counts }

-- one more packet of the core that did not fit a frame: only its count changes
abbrev pub switch_refusing : SwitchView → SwitchView
switch_refusing h = record h { refused = frames_raised h.refused }
