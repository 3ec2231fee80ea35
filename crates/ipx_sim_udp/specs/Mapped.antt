-- The IP addresses of a script's layout, and the peers of each place. Defined by this project.
use Rattle.std.specs.Prelude.{◌≡◌, ◌==◌, ◌&&◌, ℕ, Bool, not, List, map, Option, Some, is_some}
use Rattle.std.specs.List.{filter, list_all}
use Rattle.ipx_wire.specs.declared.address.Network.{Network}
use Rattle.ipx_wire.specs.declared.address.Node.{Node}
use Rattle.ipx_router.specs.declared.port.Port.{Port}
use Rattle.ipx_carrier.specs.Mapping.{ip_at}
use Rattle.ipx_net.specs.declared.host.Host.{Host}
use Rattle.ipx_net.specs.declared.place.Place.{Place}
use Rattle.ipx_sim.specs.ScriptPlaces.{same_place}
use Rattle.ipx_sim.specs.declared.names.ScriptTarget.{ScriptTarget}

-- a node has an IP address
abbrev pub has_ip : Node → Bool
has_ip node = is_some (ip_at node)

-- so have the nodes of a host's line: the host's own, and the router that it names
abbrev pub is_host_mapped : Host → Bool
is_host_mapped h = has_ip h.node && has_ip h.router

abbrev pub are_ports_mapped : List Port → Bool
are_ports_mapped ports = list_all (λ p. has_ip p.node) ports

-- another place on the same network
abbrev pub is_beside : Place → Network → ScriptTarget → Bool
is_beside place network s = (s.network.0 == network.0) && not (same_place s.place place)

-- the IP addresses of the nodes of spots that are beside a place, in order
abbrev pub beside : Place → Network → List ScriptTarget → List (Option (List ℕ))
beside place network spots = map (λ s. ip_at s.node) (filter (is_beside place network) spots)

-- they are the peers of the place
abbrev pub ArePeersAt : List ScriptTarget → Place → Network → List (List ℕ) → Type 0
ArePeersAt spots place network peers = map Some peers ≡ beside place network spots
