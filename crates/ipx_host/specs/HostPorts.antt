-- The port of a host as it is opened. The entry point is `IsOpened`. Defined by this project.
use Rattle.std.specs.Prelude.{◌≡◌, ℕ, List, [], ◌∷◌, Option, map, true}
use Rattle.ipx_carrier.specs.Traces.{v4_at}
use Rattle.ipx_carrier.specs.Turns.{peers_of}
use Rattle.ipx_config.specs.declared.host.HostConfig.{HostConfig}
use Rattle.ipx_sockets.specs.AccessLists.{access_by}
use Rattle.ipx_sockets.specs.PortTurns.{HostPort}
use Rattle.ipx_sockets.specs.Senders.{udp_events}
use Rattle.ipx_host.specs.Access.{guarded_host}

-- one socket at the address and the UDP port of the file, with the access list of the file and of the dialed IP
-- address, if there is one. It was asked nothing yet, and it is marked. A broadcast goes to the router
pub record IsOpened (file : HostConfig) (dials : Option (List ℕ)) (port : HostPort) : Type 0 where
  pub udp_port : map (λ s. s.udp_port) port.device.device.sockets.items ≡ file.udp_port ∷ []
  pub at : map (λ s. s.socket.at) port.device.device.sockets.items
      ≡ v4_at file.address file.udp_port ∷ []
  pub unasked : udp_events port.device.device.sockets.items ≡ [] ∷ []
  pub marks : port.device.device.marks ≡ true ∷ []
  pub access_list : map access_by port.device.access_lists.items ≡ guarded_host file dials ∷ []
  pub peers : peers_of port.peers.items ≡ (file.router ∷ []) ∷ []
