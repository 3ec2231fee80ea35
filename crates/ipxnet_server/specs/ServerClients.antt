-- The clients of an ipxnet server, and for how long they are known. SHA-256 is that of FIPS 180-4; all else is
-- defined by this project.
use Rattle.std.specs.Prelude.{◌≡◌, ◌≢◌, ℕ, ◌+◌, ◌-◌, List, [], ◌∷◌, ◌++◌, length, drop, filter, find, take, ◌≤◌, AllPairs, Bool, true, false, not, ◌==◌, ◌&&◌, nat_le, nat_lt, Option, Some, None, if◌then◌else◌}
use Rattle.std.specs.Net.Addr.{ipv4_octets}
use Rattle.std.specs.Net.Socket.{v4_ip, v4_port}
use Rattle.std.specs.Str.{bytes_eq}
use Rattle.std.specs.Int.{w16, w32, to_be_bytes}
use Rattle.sha2.specs.Sha256.{sha256}
use Rattle.ipx_wire.specs.declared.address.Node.{Node}
use Rattle.std.specs.declared.net.socket_addr.SocketAddrV4.{SocketAddrV4}
use Rattle.ipxnet_server.specs.declared.clients.Client.{Client}
use Rattle.ipxnet_server.specs.declared.port.ServerPort.{ServerPort}

-- the most clients that a server may have
abbrev pub max_server_clients : ℕ
max_server_clients = 150

-- the most clients that may have one IP address
abbrev pub max_address_clients : ℕ
max_address_clients = 16

-- times in ms: after the first a silent client is forgotten, and after the second if there is no room for
-- another
abbrev pub forgotten_after : ℕ
forgotten_after = 300000

abbrev pub replaced_after : ℕ
replaced_after = 60000

-- what the node of a client at an address is made of: the secret and network of the port, the IP address, and
-- the UDP port
abbrev pub node_text : ServerPort → SocketAddrV4 → List ℕ
node_text port place =
    ((port.secret.0 ++ to_be_bytes w32 port.network.0) ++ ipv4_octets (v4_ip place))
    ++ to_be_bytes w16 (v4_port place)

-- the node: 02, so that it is no group address, and the first five bytes of the digest of that
abbrev pub node_of_place : ServerPort → SocketAddrV4 → Node
node_of_place port place = record { 0 = 2 ∷ take 5 (sha256 (node_text port place)) }

-- two addresses have the same IP address and the same UDP port
abbrev pub are_one_place : SocketAddrV4 → SocketAddrV4 → Bool
are_one_place a b = bytes_eq (ipv4_octets (v4_ip a)) (ipv4_octets (v4_ip b))
    && (v4_port a == v4_port b)

abbrev pub is_client_at : SocketAddrV4 → Client → Bool
is_client_at place c = are_one_place c.place place

abbrev pub has_client_node : Node → Client → Bool
has_client_node node c = bytes_eq c.node.0 node.0

-- the client at an address, and the client of a node
abbrev pub client_at : SocketAddrV4 → List Client → Option Client
client_at place known = find (is_client_at place) known

abbrev pub client_of_node : Node → List Client → Option Client
client_of_node node known = find (has_client_node node) known

-- a client has the node of its address
abbrev pub HasPlaceNode : ServerPort → Client → Type 0
HasPlaceNode port c = c.node ≡ node_of_place port c.place

-- no two clients have one address, and no two have one node
pub record AreTwoClients (a b : Client) : Type 0 where
  pub places : a.place ≢ b.place
  pub nodes : a.node ≢ b.node

abbrev pub EachClientOnce : List Client → Type 0
EachClientOnce known = AllPairs AreTwoClients known

-- it was heard less than this long ago; if the clock went back, no time has passed
abbrev pub was_heard_within : ℕ → ℕ → Client → Bool
was_heard_within time now c = nat_lt (now - c.heard) time

-- the clients that are not forgotten
abbrev pub clients_left : ℕ → List Client → List Client
clients_left now known = filter (was_heard_within forgotten_after now) known

-- the clients that have the IP address of a place, and at most 16 have that of any
abbrev pub is_client_of_ip : SocketAddrV4 → Client → Bool
is_client_of_ip place c = bytes_eq (ipv4_octets (v4_ip c.place)) (ipv4_octets (v4_ip place))

abbrev pub clients_of_ip : SocketAddrV4 → List Client → List Client
clients_of_ip place known = filter (is_client_of_ip place) known

abbrev pub AreFewOfEachIp : List Client → Type 0
AreFewOfEachIp known =
    (place : SocketAddrV4) → length (clients_of_ip place known) ≤ max_address_clients

-- the client that goes if one more of its IP address becomes one: none if there is room for that, otherwise the
-- one that was heard before the others in the order of calls
abbrev pub client_that_goes : SocketAddrV4 → List Client → Option Client
client_that_goes place known =
    if nat_le max_address_clients (length (clients_of_ip place known))
    then find (is_client_of_ip place) known else None

-- it was heard within the last minute, so that there is no room for one more of its IP address
abbrev pub was_heard_lately : ℕ → Option Client → Bool
was_heard_lately now None = false
was_heard_lately now (Some c) = was_heard_within replaced_after now c

abbrev pub is_address_full : ℕ → SocketAddrV4 → List Client → Bool
is_address_full now place known = was_heard_lately now (client_that_goes place known)

-- the first one, which was heard before all others in the order of calls, was heard within the last minute
abbrev pub is_first_heard : ℕ → List Client → Bool
is_first_heard now [] = true
is_first_heard now (c ∷ rest) = was_heard_within replaced_after now c

-- there is no room for one more
abbrev pub is_server_full : ℕ → ℕ → List Client → Bool
is_server_full most now known = nat_le most (length known) && is_first_heard now known

-- a client that becomes one now, and the client that is heard at an address: if none is known there, a new one
-- with this node
abbrev pub new_client : Node → SocketAddrV4 → ℕ → Client
new_client node place now = record { node = node; place = place; since = now; heard = now }

abbrev pub client_heard : Node → SocketAddrV4 → ℕ → Option Client → Client
client_heard node place now None = new_client node place now
client_heard node place now (Some c) = record c { heard = now }

-- the clients without this one
abbrev pub clients_but : Option Client → List Client → List Client
clients_but None known = known
clients_but (Some c) known = filter (λ k. not (is_client_at c.place k)) known

-- a new client is known as the last one. One of its IP address goes if that has too many, and then the first one
-- if there are too many
abbrev pub clients_with : ℕ → Node → SocketAddrV4 → ℕ → List Client → List Client
clients_with most node place now known =
    drop (length (clients_but (client_that_goes place known) known) + 1 - most)
    (clients_but (client_that_goes place known) known)
    ++ new_client node place now ∷ []

-- the client at an address is heard, and is then the last one; nothing happens if there is none
abbrev pub clients_moved : SocketAddrV4 → ℕ → List Client → Option Client → List Client
clients_moved place now known None = known
clients_moved place now known (Some c) =
    filter (λ k. not (is_client_at place k)) known ++ record c { heard = now } ∷ []

abbrev pub clients_heard : SocketAddrV4 → ℕ → List Client → List Client
clients_heard place now known = clients_moved place now known (client_at place known)
