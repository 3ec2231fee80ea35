-- The port of the host of an operator: as it is opened, and from turn to turn. Defined by this project. The entry
-- points are `IsOpened` and `DrivesPortOn`.
use Rattle.std.specs.Prelude.{◌≡◌, List, [], ◌∷◌, map, true}
use Rattle.ipx_carrier.specs.Device.{Access}
use Rattle.ipx_carrier.specs.Traces.{v4_at}
use Rattle.ipx_carrier.specs.Turns.{Turn, peers_of}
use Rattle.ipx_config.specs.declared.host.HostConfig.{HostConfig}
use Rattle.ipx_sockets.specs.AccessLists.{access_by}
use Rattle.ipx_sockets.specs.PortTurns.{DrivesPort, HostPort}
use Rattle.ipx_sockets.specs.Senders.{udp_events}

-- as it is opened: one socket at the address and the UDP port of the file, with this access list. It was asked
-- nothing yet, and it is marked. A broadcast goes to nobody
pub record IsOpened (file : HostConfig) (access : Access) (port : HostPort) : Type 0 where
  pub udp_port : map (λ s. s.udp_port) port.device.device.sockets.items ≡ file.udp_port ∷ []
  pub at : map (λ s. s.socket.at) port.device.device.sockets.items
      ≡ v4_at file.address file.udp_port ∷ []
  pub unasked : udp_events port.device.device.sockets.items ≡ [] ∷ []
  pub marks : port.device.device.marks ≡ true ∷ []
  pub access_list : map access_by port.device.access_lists.items ≡ access ∷ []
  pub peers : peers_of port.peers.items ≡ [] ∷ []

-- these turns were taken there, one after another
abbrev pub DrivesPortOn : List Turn → HostPort → HostPort → Type 0
DrivesPortOn [] old new = new ≡ old
DrivesPortOn (t ∷ ts) old new = (mid : HostPort) × DrivesPort old t mid × DrivesPortOn ts mid new
