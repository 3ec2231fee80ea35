-- What a router logs of the clients that connect to its ipxnet ports and of those that are gone. Defined by
-- this project.
use Rattle.std.specs.Prelude.{◌≡◌, ℕ, ◌+◌, ◌-◌, List, [], ◌∷◌, ◌++◌, Bool, not, ◌==◌, ◌&&◌, filter, length, map, slice_get, take, Option, Some, None}
use Rattle.std.specs.HashSet.{HashSet, contains_by}
use Rattle.std.specs.List.{list_any}
use Rattle.std.specs.Net.Addr.{ipv4_octets}
use Rattle.std.specs.Net.Socket.{v4_ip, v4_port}
use Rattle.std.specs.Str.{bytes_eq}
use Rattle.ipxnet_server.specs.declared.clients.Client.{Client}
use Rattle.ipxnet_server.specs.ServerClients.{are_one_place}
use Rattle.ipxnet_server.specs.ServerHears.{ServerView}
use Rattle.ipx_sockets.specs.Moments.{HasPassed}
use Rattle.ipx_site.specs.IpxnetTotals.{client_count_in}
use Rattle.ipx_site.specs.declared.client_log.ClientKey.{ClientKey}
use Rattle.ipx_site.specs.declared.client_log.ClientLog.{ClientLog}
use Rattle.ipx_site.specs.declared.client_log.PortClient.{PortClient}
use Rattle.ipx_site.specs.declared.router_ports.PortIndex.{PortIndex}
use Rattle.ipx_site.specs.declared.router_ports.PortIndex.TheVariants.{Datagrams, Ethernet, IpxnetServer}

-- the most lines logged at one look
abbrev pub max_client_lines : ℕ
max_client_lines = 10

-- two are the same client of the same port, and a client is in a list
abbrev pub is_one_client : PortClient → PortClient → Bool
is_one_client a b =
    (a.port == b.port) && (are_one_place a.place b.place && bytes_eq a.node.0 b.node.0)

abbrev pub is_listed_client : List PortClient → PortClient → Bool
is_listed_client clients client = list_any (λ one. is_one_client client one) clients

-- the clients that are not among these
abbrev pub clients_without : List PortClient → List PortClient → List PortClient
clients_without clients these = filter (λ c. not (is_listed_client these c)) clients

-- the clients logged as gone at a look: they were logged as connected, and are not connected
abbrev pub clients_gone : List PortClient → List PortClient → List PortClient
clients_gone told there = take max_client_lines (clients_without told there)

-- the clients logged as connecting: they are connected, and were not logged
abbrev pub clients_come : List PortClient → List PortClient → List PortClient
clients_come told there =
    take (max_client_lines - length (clients_gone told there)) (clients_without there told)

-- the clients that are logged as connected after the look, given exactly these lines
abbrev pub clients_logged : List PortClient → List PortClient → List PortClient
clients_logged told there = clients_without told (clients_gone told there) ++ clients_come told there

-- the clients of the port with this number
abbrev pub port_clients : ℕ → List Client → List PortClient
port_clients port clients =
    map (λ c. record { port = port; place = c.place; node = c.node }) clients

-- the clients of an ipxnet server, if there is one
abbrev pub server_clients : ℕ → Option ServerView → List PortClient
server_clients port None = []
server_clients port (Some l) = port_clients port l.clients

-- the clients of the port at an index; none if it is no ipxnet port
abbrev pub port_index_clients : ℕ → PortIndex → List ServerView → List PortClient
port_index_clients port (Datagrams place) servers = []
port_index_clients port (Ethernet place) servers = []
port_index_clients port (IpxnetServer place) servers = server_clients port (slice_get servers place)

-- the clients of ports in their order, the first of which has this number
abbrev pub all_clients : ℕ → List PortIndex → List ServerView → List PortClient
all_clients port [] servers = []
all_clients port (s ∷ port_indices) servers =
    port_index_clients port s servers ++ all_clients (port + 1) port_indices servers

-- a look at the clients is due: there are more or fewer of them than were logged, and a second has passed since
-- the last look
abbrev pub IsClientLookDue : ClientLog → List ServerView → ℕ → Type 0
IsClientLookDue log servers now =
    (length log.logged.items ≡ client_count_in servers → ⊥) × HasPassed 1000 log.looked now

-- ---- definitions for private functions

-- what distinguishes a client from all others
abbrev pub client_key : PortClient → ClientKey
client_key c = record {
  port = c.port;
  ip = ipv4_octets (v4_ip c.place);
  udp_port = v4_port c.place;
  node = c.node.0;
}

abbrev pub is_same_key : ClientKey → ClientKey → Bool
is_same_key a b = (a.port == b.port)
    && (bytes_eq a.ip b.ip && ((a.udp_port == b.udp_port) && bytes_eq a.node b.node))

-- the key of a client is in the set
abbrev pub has_client_key : {S : Type 0} → HashSet ClientKey S → PortClient → Bool
has_client_key keys c = contains_by (is_same_key (client_key c)) keys
