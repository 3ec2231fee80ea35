-- How one call leaves ipxnet ports: of `receive`, which gave an answer, and of `send`, for a packet. Defined by
-- this project.
use Rattle.std.specs.Prelude.{◌≡◌, ℕ, List, Option, Result}
use Rattle.ipx_carrier.specs.declared.fault.DeviceFault.{DeviceFault}
use Rattle.ipx_carrier.specs.declared.port_driver.PacketSent.{PacketSent}
use Rattle.ipx_carrier.specs.Device.{received_in}
use Rattle.ipx_carrier.specs.Turns.{Given}
use Rattle.ipx_ipxnet_ports.specs.declared.place_sockets.DatagramCame.{DatagramCame}
use Rattle.ipx_ipxnet_ports.specs.declared.server_ports.Servers.{Servers}
use Rattle.ipx_ipxnet_ports.specs.OnServers.{AreAskedForDatagram, HandsPacket, ReceivesAtServer, SendsThroughServer, ServersView, servers_view}
use Rattle.ipx_ipxnet_ports.specs.PlaceTraffic.{PlaceDatagram, PlaceTraffic}

module _ {S : Type 0} (traffic : S → Option PlaceTraffic) (failed : S → ℕ) where
  -- ipxnet ports without their sockets
  abbrev pub servers_seen : Servers S → ServersView
  servers_seen l = servers_view l.servers.items l.kept (traffic l.sockets) (failed l.sockets)

  -- a port was asked, into a buffer of this size, and gave this answer. Its sockets were asked for a datagram, as
  -- `asks` says, and its server received what they answered, at the time of the ports. What it sends for that was
  -- handed to the sockets, as `sends` says of each datagram, and nothing else
  abbrev pub ReceivesByServers : (asks : ℕ → Result (Option DatagramCame) DeviceFault → List ℕ → S → S → Type 0) → (sends : S → PlaceDatagram → S → Type 0) → Servers S → ℕ → ℕ → Option (List ℕ) → Servers S → Type 0
  ReceivesByServers asks sends old port size answer new = (room : List ℕ) × (up : Option ℕ) × (came : Option PlaceDatagram)
      × (answer ≡ received_in room up) × AreAskedForDatagram asks sends old.moment old.servers.items new.servers.items port old.sockets came new.sockets
      × ReceivesAtServer old.moment size came room up (servers_seen old) (servers_seen new)
      × (new.moment ≡ old.moment)

  -- a packet was sent through the server of its port, or is too long for clients. The sockets were handed just
  -- that, as `sends` says
  abbrev pub SendsByServers : (sends : S → PlaceDatagram → S → Type 0) → Servers S → Given → Servers S → Type 0
  SendsByServers sends old p new = (sent : PacketSent)
      × SendsThroughServer old.moment p.port p.node p.bytes sent (servers_seen old) (servers_seen new)
      × HandsPacket sends old.moment old.servers.items p old.sockets new.sockets
      × (new.moment ≡ old.moment)
