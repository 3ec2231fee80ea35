-- The routers that the host of an operator asks, and the senders that it accepts, by its file. Defined by
-- this project.
use Rattle.std.specs.Prelude.{ℕ, List, [], ◌∷◌, ◌++◌, Some, map, if◌then◌else◌}
use Rattle.ipx_wire.specs.declared.address.Address.{Address}
use Rattle.ipx_wire.specs.declared.address.Node.{Node}
use Rattle.ipx_carrier.specs.Device.{Access}
use Rattle.ipx_carrier.specs.Mapping.{node_at}
use Rattle.ipx_config.specs.Values.{is_peer}
use Rattle.ipx_config.specs.declared.host.HostConfig.{HostConfig}

-- IP addresses without those that repeat an earlier one
abbrev pub new_ips : List (List ℕ) → List (List ℕ) → List (List ℕ)
new_ips earlier [] = []
new_ips earlier (ip ∷ ips) =
    (if is_peer earlier ip then [] else ip ∷ []) ++ new_ips (earlier ++ ip ∷ []) ips

-- its router and the routers of its file, each once
abbrev pub asked_ips : HostConfig → List (List ℕ)
asked_ips file = new_ips [] (file.router ∷ file.routers.items)

abbrev pub asked_nodes : HostConfig → List Node
asked_nodes file = map node_at (asked_ips file)

-- the address that it asks from: the network, the node and the socket of its file
abbrev pub querier_address : HostConfig → Address
querier_address file = record {
  network = file.network;
  node = node_at file.address;
  socket = file.socket;
}

-- it sends only to these, accepts only these, and takes them as routers
abbrev pub guarded_querier : HostConfig → Access
guarded_querier file = record {
  network = file.network;
  sends = Some (asked_ips file);
  hears = Some (asked_ips file);
  routers = Some (asked_ips file);
}
