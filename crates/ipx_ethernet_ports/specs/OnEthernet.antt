-- What Ethernet ports do with the frames there, and with packets of their core. Defined by this project.
use Rattle.std.specs.Prelude.{◌≡◌, ◌<◌, ◌⊎◌, ℕ, List, [], ◌∷◌, Bool, false, true, not, ◌&&◌, Option, Some, None, Result, filter, length, map, slice_get, slice_set, take}
use Rattle.std.specs.List.{range_with_len}
use Rattle.ipx_wire.specs.declared.address.Node.{Node}
use Rattle.ipx_ethernet.specs.declared.encapsulation.Encapsulation.{Encapsulation}
use Rattle.ipx_ethernet.specs.declared.fault.FrameFault.{FrameFault}
use Rattle.ipx_ethernet.specs.declared.ethernet_port.FrameDrop.{FrameDrop}
use Rattle.ipx_ethernet.specs.declared.ethernet_port.EthernetPort.{EthernetPort}
use Rattle.ipx_ethernet.specs.Frame.{FrameView, frame_of, own_bytes}
use Rattle.ipx_ethernet.specs.SentFrame.{IsSentFrame, sending_fault}
use Rattle.ipx_ethernet.specs.PortFrames.{IsForCore, KeepsFrame}
use Rattle.ipx_ethernet.specs.declared.egress.Egress.{Egress}
use Rattle.ipx_ethernet.specs.Heard.{SwitchView, switch_handing, switch_keeping, switch_passing, switch_refusing, way_after, way_of_own}
use Rattle.ipx_ethernet.specs.SwitchEnds.{is_way_to}
use Rattle.ipx_carrier.specs.declared.fault.DeviceFault.{DeviceFault}
use Rattle.ipx_carrier.specs.declared.port_driver.PacketSent.{PacketSent}
use Rattle.ipx_carrier.specs.declared.port_driver.PacketSent.TheVariants.{Unmapped, Transmitted}
use Rattle.ipx_carrier.specs.Counting.{raised}
use Rattle.ipx_carrier.specs.DriverTurns.{SendsEach}
use Rattle.ipx_carrier.specs.Turns.{Given, Ways}
use Rattle.ipx_ethernet_ports.specs.declared.end_sockets.FrameCame.{FrameCame}
use Rattle.ipx_ethernet_ports.specs.EndTraffic.{EndFrame, EndTraffic, EndsPass, frame_answered, frame_at, raised_times}

-- a frame that is sent by a port: `IsSentFrame` says which bytes it has
pub record SentFrameCopy : Type 0 where
  pub port : ℕ
  pub encapsulation : Encapsulation
  pub frame : FrameView

-- the size of the buffer that a frame is written into
abbrev pub frame_buffer : ℕ
frame_buffer = 1514

-- the frame of a packet, if it fits one
abbrev pub carried_by : Option FrameFault → SentFrameCopy → Option (List SentFrameCopy)
carried_by None frame = Some (frame ∷ [])
carried_by (Some fault) frame = None

abbrev pub frame_from : Option EthernetPort → Given → Option (List SentFrameCopy)
frame_from None p = None
frame_from (Some w) p = carried_by (sending_fault w.encapsulation p.bytes frame_buffer) (record {
  port = p.port;
  encapsulation = w.encapsulation;
  frame = frame_of p.node w.own (own_bytes p.bytes);
})

-- each packet is sent in one frame from its port to its node, and not at all if it does not fit a frame
abbrev pub by_frames : List EthernetPort → Ways SentFrameCopy
by_frames ports p = frame_from (slice_get ports p.port) p

-- which of the n remotes of a port a frame is sent to, of those that pass a test
abbrev pub ends_on : Egress → (ℕ → Bool) → ℕ → List ℕ
ends_on way test n = filter (λ e. is_way_to way e && test e) (range_with_len 0 n)

-- the same bytes as a frame for each of the n remotes of a port that an egress names, in order
abbrev pub frames_to : Egress → ℕ → ℕ → List ℕ → List EndFrame
frames_to way n port bytes = map (frame_at port bytes) (ends_on way (λ e. true) n)

-- after what came, bytes were sent to each of the remotes that an egress names, in order. Those that took
-- them have them, and one failure was counted for each of the others
pub record ReachesEnds (way : Egress) (n port : ℕ) (bytes : List ℕ) (came : List EndFrame) (old new : Option EndTraffic) (failed failed_after : ℕ) : Type 0 where
  pub takes : ℕ → Bool
  pub went : EndsPass old new came (map (frame_at port bytes) (ends_on way takes n))
  pub failures : failed_after ≡ raised_times (length (ends_on way (λ e. not (takes e)) n)) failed

-- what a switch takes for the core of bytes that came from a remote, into a buffer of this size: the packet
-- in them, as far as it fits. Or it keeps them, and then no packet in them is for the core
abbrev pub TakesPacket : SwitchView → ℕ → List ℕ → ℕ → ℕ → List ℕ → Option ℕ → SwitchView → Type 0
TakesPacket h end bytes now most room (Some n) after = (packet : List ℕ)
    × IsForCore h.port bytes packet × (take n room ≡ take most packet)
    × (after ≡ switch_handing (switch_passing h bytes end now))
TakesPacket h end bytes now most room None after = (k : FrameDrop) × KeepsFrame h.port bytes k
    × ((packet : List ℕ) → IsForCore h.port bytes packet → ⊥)
    × (after ≡ switch_keeping k (switch_passing h bytes end now))

-- the count of what was kept from the core
abbrev pub filtered_by : Option ℕ → ℕ → ℕ
filtered_by None kept = raised kept
filtered_by (Some n) kept = kept

-- Ethernet ports without their sockets: their switches, how many frames were kept from the core, what passed
-- through the sockets, and how often those failed
pub record EthernetPortsView : Type 0 where
  pub switches : List SwitchView
  pub kept : ℕ
  pub traffic : Option EndTraffic
  pub failed : ℕ

abbrev pub ethernet_ports_view : List SwitchView → ℕ → Option EndTraffic → ℕ → EthernetPortsView
ethernet_ports_view switches kept traffic failed =
    record { switches = switches; kept = kept; traffic = traffic; failed = failed }

-- how sockets are handed frames at a port of n remotes, as `sends` says of each, beside these switches
module _ {S : Type 0} (sends : S → EndFrame → S → Type 0) (n now : ℕ) (switches : List SwitchView) where
  -- what sockets answered was handed on to them: a frame, as it came, for each remote that its switch then says,
  -- in order; and nothing if none came
  abbrev pub HandsOn : List SwitchView → Option EndFrame → S → S → Type 0
  HandsOn switches_after None old new = new ≡ old
  HandsOn switches_after (Some f) old new = (h after : SwitchView) × (slice_get switches f.port ≡ Some h)
      × (switches_after ≡ slice_set switches f.port after)
      × SendsEach sends (frames_to (way_after after f.bytes f.end now) n f.port f.bytes) old new

  -- a packet of the core was handed to them: as its frame for each remote that the switch of its port says, in
  -- order; and as nothing if it does not fit a frame
  abbrev pub HandsPacket : Given → PacketSent → S → S → Type 0
  HandsPacket p (Transmitted count) old new = (h : SwitchView) × (frame : List ℕ)
      × (slice_get switches p.port ≡ Some h)
      × IsSentFrame h.port.encapsulation (frame_of p.node h.port.own (own_bytes p.bytes)) frame
      × SendsEach sends (frames_to (way_of_own p.node now h.stations) n p.port frame) old new
  HandsPacket p Unmapped old new = new ≡ old

-- sockets were asked at a port, into a buffer longer than any frame, and `asks` says what came of that. This
-- frame is what they answered, or none came. Then just that was handed on to them
pub record AreAskedForFrame {S : Type 0} (asks : ℕ → Result (Option FrameCame) DeviceFault → List ℕ → S → S → Type 0) (sends : S → EndFrame → S → Type 0) (n now : ℕ) (switches switches_after : List SwitchView) (port : ℕ) (before : S) (came : Option EndFrame) (after : S) : Type 0 where
  pub answer : Result (Option FrameCame) DeviceFault
  pub buffer : List ℕ
  pub asked : S
  pub asking : asks port answer buffer before asked
  pub whole : frame_buffer < length buffer
  pub answered : came ≡ frame_answered port buffer answer
  pub onward : HandsOn sends n now switches switches_after came asked after

-- a frame came to a port of n remotes, and only this one. It is forwarded, as it came, to the remotes that
-- the switch says, never to its own. The core gets its packet if that is for it
pub record HearsAtEthernet (n now most : ℕ) (frame : EndFrame) (came : List EndFrame) (room : List ℕ) (up : Option ℕ) (old new : EthernetPortsView) : Type 0 where
  pub switch : SwitchView
  pub after : SwitchView
  pub at_port : slice_get old.switches frame.port ≡ Some switch
  pub core : TakesPacket switch frame.end frame.bytes now most room up after
  pub onward : ReachesEnds (way_after after frame.bytes frame.end now) n frame.port frame.bytes came old.traffic new.traffic old.failed new.failed
  pub back : is_way_to (way_after after frame.bytes frame.end now) frame.end ≡ false
  pub switches : new.switches ≡ slice_set old.switches frame.port after
  pub counted : new.kept ≡ filtered_by up old.kept

-- the same for what the sockets answered: a frame; or that nothing came, or that they failed, which they count
abbrev pub HearsAnswerOf : ℕ → ℕ → ℕ → Option EndFrame → List ℕ → Option ℕ → EthernetPortsView → EthernetPortsView → Type 0
HearsAnswerOf n now most None room up old new = (up ≡ None) × (new.switches ≡ old.switches)
    × (new.kept ≡ old.kept) × EndsPass old.traffic new.traffic [] []
    × ((new.failed ≡ old.failed) ⊎ (new.failed ≡ raised old.failed))
HearsAnswerOf n now most (Some frame) room up old new =
    HearsAtEthernet n now most frame (frame ∷ []) room up old new

-- a packet of the core for a node at a port of n remotes: its frame was sent to the remotes that the switch
-- says. Or it does not fit a frame, and that was counted
abbrev pub SendsOnEthernet : SwitchView → ℕ → ℕ → ℕ → Node → List ℕ → PacketSent → SwitchView → Option EndTraffic → Option EndTraffic → ℕ → ℕ → Type 0
SendsOnEthernet h n now port node packet (Transmitted count) after old new failed failed_after = (frame : List ℕ)
    × (count ≡ 1) × (sending_fault h.port.encapsulation packet frame_buffer ≡ None)
    × IsSentFrame h.port.encapsulation (frame_of node h.port.own (own_bytes packet)) frame
    × ReachesEnds (way_of_own node now h.stations) n port frame [] old new failed failed_after
    × (after ≡ h)
SendsOnEthernet h n now port node packet Unmapped after old new failed failed_after = (fault : FrameFault)
    × (sending_fault h.port.encapsulation packet frame_buffer ≡ Some fault)
    × EndsPass old new [] [] × (failed_after ≡ failed) × (after ≡ switch_refusing h)

abbrev pub SendsPacket : ℕ → ℕ → ℕ → Node → List ℕ → PacketSent → EthernetPortsView → EthernetPortsView → Type 0
SendsPacket n now port node packet sent old new = (h : SwitchView) × (after : SwitchView)
    × (slice_get old.switches port ≡ Some h)
    × SendsOnEthernet h n now port node packet sent after old.traffic new.traffic old.failed new.failed
    × (new.switches ≡ slice_set old.switches port after) × (new.kept ≡ old.kept)
