-- A server whose clients of before a restart are noted again. Defined by this project.
use Rattle.std.specs.Prelude.{◌≤◌, ◌||◌, ℕ, ◌+◌, List, [], ◌∷◌, AllPairs, is_some, if◌then◌else◌}
use Rattle.std.specs.declared.net.socket_addr.SocketAddrV4.{SocketAddrV4}
use Rattle.ipxnet_server.specs.declared.noted.Noted.{Noted}
use Rattle.ipxnet_server.specs.AskTimes.{first_ask_of, restart_step, second_ask_of}
use Rattle.ipxnet_server.specs.NotedPlaces.{places_noted_again}
use Rattle.ipxnet_server.specs.PeerServers.{is_joined_place}
use Rattle.ipxnet_server.specs.ServerClients.{client_at}
use Rattle.ipxnet_server.specs.ServerHears.{ServerView}

-- an address was that of a client before a restart. It is noted, unless it is that of a client or of a joined router.
-- Nothing else changes: it is no client by this
abbrev pub server_noting_again : SocketAddrV4 → ℕ → ServerView → ServerView
server_noting_again place now l =
    if is_some (client_at place l.clients) || is_joined_place place l.routers then l
    else record l { noted = places_noted_again place now l.noted }

-- these addresses, one after another
abbrev pub server_noting_all : ℕ → List SocketAddrV4 → ServerView → ServerView
server_noting_all now [] l = l
server_noting_all now (place ∷ places) l = server_noting_all now places (server_noting_again place now l)

abbrev pub all_noted_again : ℕ → List SocketAddrV4 → List Noted → List Noted
all_noted_again now [] noted = noted
all_noted_again now (place ∷ places) noted = all_noted_again now places (places_noted_again place now noted)

-- ---- what follows

-- each time of one note is 20 ms or more before that of another
pub record ArePingsApart (a b : Noted) : Type 0 where
  pub first : a.since + first_ask_of a.cause + restart_step ≤ b.since + first_ask_of b.cause
  pub second : a.since + second_ask_of a.cause + restart_step ≤ b.since + second_ask_of b.cause

-- of those that were noted again, from none on and at one time, no two are pinged within 20 ms for the first time, nor
-- for the second: 50 in a second, each time
abbrev pub RestartAsksAreApart : Type 0
RestartAsksAreApart = (now : ℕ) (places : List SocketAddrV4) → AllPairs ArePingsApart (all_noted_again now places [])
