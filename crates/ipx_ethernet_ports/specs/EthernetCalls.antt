-- How one call leaves Ethernet ports: of `receive`, which gave an answer, and of `send`, for a packet. Defined
-- by this project.
use Rattle.std.specs.Prelude.{◌≡◌, ℕ, List, Option, Result, slice_index}
use Rattle.ipx_carrier.specs.declared.fault.DeviceFault.{DeviceFault}
use Rattle.ipx_carrier.specs.declared.port_driver.PacketSent.{PacketSent}
use Rattle.ipx_carrier.specs.Device.{received_in}
use Rattle.ipx_carrier.specs.Turns.{Given}
use Rattle.ipx_ethernet_ports.specs.declared.end_sockets.FrameCame.{FrameCame}
use Rattle.ipx_ethernet_ports.specs.declared.ethernet_ports.EthernetPorts.{EthernetPorts}
use Rattle.ipx_ethernet_ports.specs.EndTraffic.{EndFrame, EndTraffic}
use Rattle.ipx_ethernet_ports.specs.OnEthernet.{AreAskedForFrame, EthernetPortsView, HandsPacket, HearsAnswerOf, SendsPacket, ethernet_ports_view}

module _ {S : Type 0} (ends_of : S → List ℕ) (traffic : S → Option EndTraffic) (failed : S → ℕ) where
  -- Ethernet ports without their sockets
  abbrev pub ethernet_seen : EthernetPorts S → EthernetPortsView
  ethernet_seen w = ethernet_ports_view w.switches.items w.kept (traffic w.sockets) (failed w.sockets)

  -- a port was asked, into a buffer of this size, and gave this answer. Its sockets were asked for a frame, as
  -- `asks` says, and its switch heard what they answered, at the time of the ports. That was handed on to the
  -- sockets, as `sends` says of each frame, and nothing else
  abbrev pub ReceivesByEthernet : (asks : ℕ → Result (Option FrameCame) DeviceFault → List ℕ → S → S → Type 0) → (sends : S → EndFrame → S → Type 0) → EthernetPorts S → ℕ → ℕ → Option (List ℕ) → EthernetPorts S → Type 0
  ReceivesByEthernet asks sends old port size answer new = (room : List ℕ) × (up : Option ℕ) × (came : Option EndFrame)
      × (answer ≡ received_in room up) × AreAskedForFrame asks sends (slice_index (ends_of old.sockets) port) old.moment old.switches.items new.switches.items port old.sockets came new.sockets
      × HearsAnswerOf (slice_index (ends_of old.sockets) port) old.moment size came room up
      (ethernet_seen old) (ethernet_seen new)
      × (new.moment ≡ old.moment) × (ends_of new.sockets ≡ ends_of old.sockets)

  -- a packet was sent in a frame, or does not fit one. The sockets were handed just that, as `sends` says
  abbrev pub SendsByEthernet : (sends : S → EndFrame → S → Type 0) → EthernetPorts S → Given → EthernetPorts S → Type 0
  SendsByEthernet sends old p new = (sent : PacketSent)
      × SendsPacket (slice_index (ends_of old.sockets) p.port) old.moment p.port p.node p.bytes sent
      (ethernet_seen old) (ethernet_seen new)
      × HandsPacket sends (slice_index (ends_of old.sockets) p.port) old.moment old.switches.items p sent old.sockets new.sockets
      × (new.moment ≡ old.moment) × (ends_of new.sockets ≡ ends_of old.sockets)
