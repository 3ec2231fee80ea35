-- Servers of several routers that are joined as one network: the addresses of the other routers, and the
-- clients that these have. Defined by this project.
use Rattle.std.specs.Prelude.{ℕ, ◌+◌, ◌-◌, List, [], ◌∷◌, ◌++◌, length, drop, filter, find, Bool, not, nat_lt, Option}
use Rattle.std.specs.List.{list_any}
use Rattle.std.specs.Str.{bytes_eq}
use Rattle.ipx_wire.specs.declared.address.Node.{Node}
use Rattle.ipxnet_server.specs.declared.peer_servers.RemoteClient.{RemoteClient}
use Rattle.std.specs.declared.net.socket_addr.SocketAddrV4.{SocketAddrV4}
use Rattle.ipxnet_server.specs.ServerClients.{are_one_place}

-- how many clients of joined routers are known at most
abbrev pub max_remote_clients : ℕ
max_remote_clients = 1024

-- after this many ms a silent one is forgotten: a day. What keeps a client known at its own router, as answers to
-- pings, is not passed on to others
abbrev pub remote_forgotten_after : ℕ
remote_forgotten_after = 86400000

-- a joined router has this address
abbrev pub is_joined_place : SocketAddrV4 → List SocketAddrV4 → Bool
is_joined_place place routers = list_any (λ r. are_one_place r place) routers

abbrev pub has_remote_node : Node → RemoteClient → Bool
has_remote_node node f = bytes_eq f.node.0 node.0

-- the client of a node, at a joined router
abbrev pub remote_client_of : Node → List RemoteClient → Option RemoteClient
remote_client_of node far = find (has_remote_node node) far

-- the clients that were heard less than a day ago; if the clock went back, no time has passed
abbrev pub was_remote_heard : ℕ → RemoteClient → Bool
was_remote_heard now f = nat_lt (now - f.heard) remote_forgotten_after

abbrev pub remote_clients_left : ℕ → List RemoteClient → List RemoteClient
remote_clients_left now far = filter (was_remote_heard now) far

-- the clients but the one of a node
abbrev pub remote_clients_but : Node → List RemoteClient → List RemoteClient
remote_clients_but node far = filter (λ f. not (has_remote_node node f)) far

-- the client of a node is heard through a router. It is then known once, as the last one, and if there are
-- too many the first one goes
abbrev pub remote_clients_heard : Node → SocketAddrV4 → ℕ → List RemoteClient → List RemoteClient
remote_clients_heard node router now far =
    drop (length (remote_clients_but node far) + 1 - max_remote_clients) (remote_clients_but node far)
    ++ record { node = node; router = router; heard = now } ∷ []
