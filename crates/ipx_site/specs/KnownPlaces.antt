-- Which clients of before a restart an ipxnet port notes again. Defined by this project.
use Rattle.std.specs.Prelude.{◌==◌, Bool, List, filter, map}
use Rattle.std.specs.declared.net.socket_addr.SocketAddrV4.{SocketAddrV4}
use Rattle.ipx_table_dump.specs.declared.client_places.ClientPlace.{ClientPlace}
use Rattle.ipx_wire.specs.declared.address.Network.{Network}

-- a client was one of this network
abbrev pub is_known_here : Network → ClientPlace → Bool
is_known_here network client = client.network.0 == network.0

-- the addresses of these
abbrev pub places_known : Network → List ClientPlace → List SocketAddrV4
places_known network clients = map (λ c. c.place) (filter (is_known_here network) clients)
