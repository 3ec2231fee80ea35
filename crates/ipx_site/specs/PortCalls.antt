-- How one call leaves the ports of a running router, by the kind of the port. Nothing changes at ports of the
-- other kinds. Defined by this project.
use Rattle.std.specs.Prelude.{◌≡◌, ℕ, List, [], ◌∷◌, Option, Some, None, slice_get}
use Rattle.ipx_carrier.specs.declared.datagrams.Datagrams as OfDevice
use Rattle.ipx_carrier.specs.Device.{Datagram, Passes}
use Rattle.ipx_carrier.specs.DriverTurns.{SendsEach, SendsSomeOf}
use Rattle.ipx_carrier.specs.PortDrivers.{SendsFrontOf}
use Rattle.ipx_carrier.specs.Turns.{Given, by_ip, copies_of, peers_of}
use Rattle.ipx_ethernet_ports.specs.declared.end_sockets.EndSockets as OfSockets
use Rattle.ipx_ethernet_ports.specs.EthernetCalls.{ReceivesByEthernet, SendsByEthernet}
use Rattle.ipx_ipxnet_ports.specs.declared.place_sockets.PlaceSockets as OfPlaces
use Rattle.ipx_ipxnet_ports.specs.ServerCalls.{ReceivesByServers, SendsByServers}
use Rattle.ipx_site.specs.declared.router_ports.PortIndex.{PortIndex}
use Rattle.ipx_site.specs.declared.router_ports.PortIndex.TheVariants.{Datagrams, Ethernet, IpxnetServer}
use Rattle.ipx_site.specs.declared.router_ports.RouterPorts.{RouterPorts}
use Rattle.ipx_site.specs.RouterPorts.{given_at}

module _ {D E L : Type 0} {gd : OfDevice.Ghosts D} {ge : OfSockets.Ghosts E} {gl : OfPlaces.Ghosts L} where
  -- the indices of the ports, and whether pings were sent, stay
  abbrev pub StayIndexed : RouterPorts D E L gd ge gl → RouterPorts D E L gd ge gl → Type 0
  StayIndexed old new = (new.port_indices.items ≡ old.port_indices.items) × (new.pinged ≡ old.pinged)

  -- the datagrams of a packet for an RFC 1234 port of this index: one to each IP address of its node
  abbrev pub datagrams_of : RouterPorts D E L gd ge gl → ℕ → Given → List Datagram
  datagrams_of r k p = copies_of (by_ip (peers_of r.datagrams.peers.items)) (given_at k p)

  -- a port with this index was asked, into a buffer of this size, and gave this answer. At an RFC 1234 port the
  -- device received it. At an Ethernet or ipxnet port the sockets were asked, and its switch or server received
  -- what they answered. The sockets were handed what is sent on for that, and nothing else
  abbrev pub ReceivesByKind : Option PortIndex → RouterPorts D E L gd ge gl → ℕ → Option (List ℕ) → RouterPorts D E L gd ge gl → Type 0
  ReceivesByKind None old size answer new = ⊥
  ReceivesByKind (Some (Datagrams k)) old size answer new =
      gd.receives old.datagrams.device k size answer new.datagrams.device × (new.datagrams.peers ≡ old.datagrams.peers)
      × Passes (gd.traffic old.datagrams.device) (gd.traffic new.datagrams.device) (record { port = k; bytes = answer } ∷ []) []
      × (new.ethernet ≡ old.ethernet) × (new.servers ≡ old.servers) × StayIndexed old new
  ReceivesByKind (Some (Ethernet k)) old size answer new =
      ReceivesByEthernet ge.ends_of ge.traffic ge.failed ge.asks ge.sends old.ethernet k size answer new.ethernet
      × (new.datagrams ≡ old.datagrams) × (new.servers ≡ old.servers) × StayIndexed old new
  ReceivesByKind (Some (IpxnetServer k)) old size answer new =
      ReceivesByServers gl.traffic gl.failed gl.asks gl.sends old.servers k size answer new.servers
      × (new.datagrams ≡ old.datagrams) × (new.ethernet ≡ old.ethernet) × StayIndexed old new

  -- a packet was sent by a port with this index: as its datagrams, as a frame, or through an ipxnet server
  abbrev pub SendsByKind : Option PortIndex → RouterPorts D E L gd ge gl → Given → RouterPorts D E L gd ge gl → Type 0
  SendsByKind None old p new = ⊥
  SendsByKind (Some (Datagrams k)) old p new =
      SendsEach gd.sends (datagrams_of old k p) old.datagrams.device new.datagrams.device
      × (new.datagrams.peers ≡ old.datagrams.peers)
      × Passes (gd.traffic old.datagrams.device) (gd.traffic new.datagrams.device) [] (datagrams_of old k p)
      × (new.ethernet ≡ old.ethernet) × (new.servers ≡ old.servers) × StayIndexed old new
  SendsByKind (Some (Ethernet k)) old p new =
      SendsByEthernet ge.ends_of ge.traffic ge.failed ge.sends old.ethernet (given_at k p) new.ethernet
      × (new.datagrams ≡ old.datagrams) × (new.servers ≡ old.servers) × StayIndexed old new
  SendsByKind (Some (IpxnetServer k)) old p new =
      SendsByServers gl.traffic gl.failed gl.sends old.servers (given_at k p) new.servers
      × (new.datagrams ≡ old.datagrams) × (new.ethernet ≡ old.ethernet) × StayIndexed old new

  -- the same by the port's number, and of the answer of a port
  abbrev pub ReceivesAtPort : RouterPorts D E L gd ge gl → ℕ → ℕ → Option (List ℕ) → RouterPorts D E L gd ge gl → Type 0
  ReceivesAtPort old port size answer new = ReceivesByKind (slice_get old.port_indices.items port) old size answer new

  abbrev pub SendsByPort : RouterPorts D E L gd ge gl → Given → RouterPorts D E L gd ge gl → Type 0
  SendsByPort old p new = SendsByKind (slice_get old.port_indices.items p.port) old p new

  -- the device failed to receive at a port with this index, into a buffer of this size; or it failed to send a
  -- datagram of a packet, after those before it. Nothing else changed. The ports of the other kinds never fail
  abbrev pub FailsToReceive : Option PortIndex → RouterPorts D E L gd ge gl → ℕ → RouterPorts D E L gd ge gl → Type 0
  FailsToReceive None old size new = ⊥
  FailsToReceive (Some (Datagrams k)) old size new =
      gd.fails_to_receive old.datagrams.device k size new.datagrams.device × (new.datagrams.peers ≡ old.datagrams.peers)
      × (gd.traffic new.datagrams.device ≡ gd.traffic old.datagrams.device)
      × (new.ethernet ≡ old.ethernet) × (new.servers ≡ old.servers) × StayIndexed old new
  FailsToReceive (Some (Ethernet k)) old size new = ⊥
  FailsToReceive (Some (IpxnetServer k)) old size new = ⊥

  abbrev pub FailsToSend : Option PortIndex → RouterPorts D E L gd ge gl → Given → RouterPorts D E L gd ge gl → Type 0
  FailsToSend None old p new = ⊥
  FailsToSend (Some (Datagrams k)) old p new =
      SendsSomeOf gd.sends gd.fails_to_send (datagrams_of old k p) old.datagrams.device new.datagrams.device
      × (new.datagrams.peers ≡ old.datagrams.peers)
      × SendsFrontOf (datagrams_of old k p) (gd.traffic old.datagrams.device) (gd.traffic new.datagrams.device)
      × (new.ethernet ≡ old.ethernet) × (new.servers ≡ old.servers) × StayIndexed old new
  FailsToSend (Some (Ethernet k)) old p new = ⊥
  FailsToSend (Some (IpxnetServer k)) old p new = ⊥

  -- the same by the port's number
  abbrev pub FailsToReceiveAt : RouterPorts D E L gd ge gl → ℕ → ℕ → RouterPorts D E L gd ge gl → Type 0
  FailsToReceiveAt old port size new = FailsToReceive (slice_get old.port_indices.items port) old size new

  abbrev pub FailsToSendBy : RouterPorts D E L gd ge gl → Given → RouterPorts D E L gd ge gl → Type 0
  FailsToSendBy old p new = FailsToSend (slice_get old.port_indices.items p.port) old p new
