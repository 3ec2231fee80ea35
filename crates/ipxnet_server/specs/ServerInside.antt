-- Definitions for private functions of a server.
use Rattle.std.specs.Prelude.{◌≡◌, ◌≤◌, ℕ, List, [], length, true, false, None, is_some}
use Rattle.ipx_wire.specs.declared.ipx.packet.IpxHeader.{IpxHeader}
use Rattle.ipxnet_server.specs.declared.attempts.Attempt.{Attempt}
use Rattle.ipxnet_server.specs.declared.clients.Client.{Client}
use Rattle.ipxnet_server.specs.declared.disposition.Disposition.{Disposition}
use Rattle.ipxnet_server.specs.declared.disposition.Disposition.TheVariants.{Registered}
use Rattle.ipxnet_server.specs.Attempts.{max_attempts}
use Rattle.ipxnet_server.specs.NotedPlaces.{AreFewNotesOfEachIp, max_noted}
use Rattle.ipxnet_server.specs.declared.noted.Noted.{Noted}
use Rattle.ipxnet_server.specs.declared.peer_servers.RemoteClient.{RemoteClient}
use Rattle.std.specs.declared.net.socket_addr.SocketAddrV4.{SocketAddrV4}
use Rattle.ipxnet_server.specs.declared.recipients.Recipients.TheVariants.{One}
use Rattle.ipxnet_server.specs.ServerClients.{AreFewOfEachIp, EachClientOnce, client_at, is_address_full, is_server_full, max_server_clients}
use Rattle.ipxnet_server.specs.ServerHears.{IsAnswer, ServerView, answer_of, goes_to_core, is_joined_taker, is_of_client, is_of_joined, is_taker, server_admitting, takers_of}
use Rattle.ipxnet_server.specs.PeerServers.{is_joined_place, max_remote_clients}

-- how many clients there may be, and the clients
pub record ClientsView : Type 0 where
  pub max_clients : ℕ
  pub known : List Client

-- what holds for the clients of a server: no more than allowed, each once, few of each IP address, and memory
-- for all
pub record AreClients (most : ℕ) (known : List Client) (room : ℕ) : Type 0 where
  pub some : 1 ≤ most
  pub few : most ≤ max_server_clients
  pub within : length known ≤ most
  pub once : EachClientOnce known
  pub each : AreFewOfEachIp known
  pub all : room ≡ most

-- the addresses of joined routers, and their clients
pub record JoinedView : Type 0 where
  pub routers : List SocketAddrV4
  pub far : List RemoteClient

-- what holds for these: none if no router is joined, no more than allowed, and memory for all
pub record AreRemoteClients (routers : List SocketAddrV4) (far : List RemoteClient) (room : ℕ) : Type 0 where
  pub none : routers ≡ [] → far ≡ []
  pub within : length far ≤ max_remote_clients
  pub all : room ≡ max_remote_clients

-- before a packet is judged its sender became a client, or nothing changed
pub data MayKnow (from : SocketAddrV4) (now : ℕ) (old new : ServerView) : Type 0 where
  Same : new ≡ old → MayKnow from now old new
  Known : is_joined_place from old.routers ≡ false → client_at from old.clients ≡ None
      → is_address_full now from old.clients ≡ false → is_server_full old.max_clients now old.clients ≡ false
      → new ≡ server_admitting from now old → MayKnow from now old new

-- what comes from a joined router goes to no joined router and not to the core, and is not answered
pub record StaysAmongClients (heard : Disposition) : Type 0 where
  pub ring : (place : SocketAddrV4) → is_joined_taker (takers_of heard) place ≡ false
  pub core : goes_to_core heard ≡ false
  pub answer : answer_of heard ≡ None
  pub client : is_of_client heard ≡ false

-- what holds for the addresses that are noted: no more than allowed, few of each IP address, and memory for all
pub record AreNoted (noted : List Noted) (room : ℕ) : Type 0 where
  pub within : length noted ≤ max_noted
  pub each : AreFewNotesOfEachIp noted
  pub all : room ≡ max_noted

-- what holds for the registrations that are remembered: no more than allowed, and memory for all
pub record AreAttempts (recent : List Attempt) (room : ℕ) : Type 0 where
  pub within : length recent ≤ max_attempts
  pub all : room ≡ max_attempts

-- what holds for each datagram of `size` bytes, whatever becomes of it. It is never sent back to its sender,
-- and its answer is no longer. It goes from clients to clients, and a joined router's stays among those
pub record IsSoundHearing (l : ServerView) (from : SocketAddrV4) (size : ℕ) (heard : Disposition) : Type 0 where
  pub back : is_taker (takers_of heard) from ≡ false
  pub as_many : (header : IpxHeader) (answer : List ℕ) → heard ≡ Registered header
      → IsAnswer heard answer → length answer ≡ size
  pub no_longer : (answer : List ℕ) → IsAnswer heard answer → length answer ≤ size
  pub sender : is_of_client heard ≡ true → is_some (client_at from l.clients) ≡ true
  pub taker : (place : SocketAddrV4) → takers_of heard ≡ One place → is_some (client_at place l.clients) ≡ true
  pub joined : is_joined_place from l.routers ≡ true → StaysAmongClients heard
  pub member : is_joined_place from l.routers ≡ false → is_of_joined heard ≡ false
