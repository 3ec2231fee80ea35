-- Totals over the servers of a router's ports for ipxnet. Defined by this project.
use Rattle.std.specs.Prelude.{◌≡◌, ◌<◌, ◌≤◌, ℕ, All, List, ◌∷◌, ◌++◌, Option, Some, None, IfSome, length, nat_lt, sum_by, if◌then◌else◌}
use Rattle.std.specs.declared.net.socket_addr.SocketAddrV4.{SocketAddrV4}
use Rattle.ipx_carrier.specs.Counting.{counted}
use Rattle.ipxnet_server.specs.ServerHears.{ServerView}
use Rattle.ipxnet_server.specs.declared.limiting.LimitedFlood.{LimitedFlood}

-- how many clients all ports have
abbrev pub client_count_in : List ServerView → ℕ
client_count_in servers = counted (sum_by (λ s. length s.clients) servers)

-- the datagrams of new players that were dropped because all places of their port were taken
abbrev pub full_in : List ServerView → ℕ
full_in servers = counted (sum_by (λ s. s.counts.full) servers)

-- those that were dropped because all places of their IP address were taken
abbrev pub full_of_address_in : List ServerView → ℕ
full_of_address_in servers = counted (sum_by (λ s. s.counts.full_of_address) servers)

-- what is for all, and was dropped: of players over their limit, and over the limit of its port
abbrev pub rate_limited_in : List ServerView → ℕ
rate_limited_in servers = counted (sum_by (λ s. s.counts.rate_limited) servers)

abbrev pub busy_in : List ServerView → ℕ
busy_in servers = counted (sum_by (λ s. s.counts.busy) servers)

-- the later of two floods, if there is any; the second one if they are of one time
abbrev pub later_flood : Option LimitedFlood → Option LimitedFlood → Option LimitedFlood
later_flood None b = b
later_flood (Some a) None = Some a
later_flood (Some a) (Some b) = if nat_lt b.at a.at then Some a else Some b

-- the last flood of a player over its limit at any port. Servers before its own have none that is later, and those
-- after it none that is as late
abbrev pub IsLastFlood : List ServerView → Option LimitedFlood → Type 0
IsLastFlood servers None = All (λ s. s.limited ≡ None) servers
IsLastFlood servers (Some flood) = (front : List ServerView) × (server : ServerView) × (back : List ServerView)
    × (servers ≡ front ++ server ∷ back) × (server.limited ≡ Some flood)
    × All (λ s. IfSome s.limited (λ other. other.at ≤ flood.at)) front
    × All (λ s. IfSome s.limited (λ other. other.at < flood.at)) back

-- the IP address and UDP port of the player of a flood, if there was one
abbrev pub flood_from : Option LimitedFlood → Option SocketAddrV4
flood_from None = None
flood_from (Some flood) = Some flood.from

-- those of the player of the last flood at any port; None if there was no flood
pub record IsOfLastFlood (servers : List ServerView) (place : Option SocketAddrV4) : Type 0 where
  pub flood : Option LimitedFlood
  pub last : IsLastFlood servers flood
  pub own : place ≡ flood_from flood
