-- The requests of a host that pings an SPX listener. Each asks for a connection, all with one id (Novell
-- SPX); how often it asks is defined by this project. The entry point is `PingGives`.
use Rattle.std.specs.Prelude.{◌≡◌, ℕ, ◌+◌, ◌-◌, ◌==◌, ◌||◌, ◌&&◌, Bool, nat_le, nat_lt, List, Option, Some, None, MatchBool, if◌then◌else◌}
use Rattle.ipx_wire.specs.declared.address.Address.{Address}
use Rattle.ipx_wire.specs.declared.address.Node.{Node}
use Rattle.ipx_wire.specs.Assigned.{local_network}
use Rattle.ipx_wire.specs.Ipx.{IsBytes}
use Rattle.ipx_wire.specs.Spx.{HasFreeBitsClear}
use Rattle.spx_link.specs.LinkView.{LinkView}
use Rattle.spx_link.specs.Offer.{dialed}
use Rattle.spx_link.specs.Poll.{OutgoingView, poll_link}
use Rattle.spx_messages.specs.WrittenPackets.{Home, IsWrittenPacket}
use Rattle.ipx_carrier.specs.Turns.{Given}
use Rattle.ipx_query.specs.declared.ping_core.PingCore.{PingCore}

-- the link that would ask for such a connection, with one buffer
abbrev pub ping_link : Address → Address → ℕ → LinkView
ping_link own to id = dialed id own.socket to 1 0

abbrev pub pinging_home : Address → Home
pinging_home own = record { network = own.network; node = own.node }

-- the bytes are exactly the request that this link gives first
pub record IsPing (own to : Address) (id : ℕ) (bytes : List ℕ) : Type 0 where
  pub request : OutgoingView
  pub gives : (poll_link (ping_link own to id) 0).0 ≡ Some request
  pub is : IsWrittenPacket (pinging_home own) (ping_link own to id) request bytes
  pub clear : HasFreeBitsClear is.packet.body
  pub in_range : IsBytes bytes

-- the listener's node if it is on the host's own network, otherwise the router
abbrev pub ping_node : PingCore → Node
ping_node p =
    if (p.to.network.0 == p.own.network.0) || (p.to.network.0 == local_network) then p.to.node
    else p.router

-- a request is due if one is left, a second or more after the one before
abbrev pub is_ping_due : PingCore → ℕ → Bool
is_ping_due p now =
    nat_lt p.sent p.count && ((p.sent == 0) || nat_le 1000 (now - p.sent_at))

abbrev pub ping_sent : PingCore → ℕ → PingCore
ping_sent p now = record p { sent = p.sent + 1; sent_at = now; hops = None }

-- what the host gives as it is asked for a packet at a given time
abbrev pub PingGives : PingCore → ℕ → Option Given → PingCore → Type 0
PingGives old now given new = MatchBool (is_ping_due old now)
    ((bytes : List ℕ) × IsPing old.own old.to old.id bytes
    × (given ≡ Some (record { port = 0; node = ping_node old; bytes = bytes }))
    × (new ≡ ping_sent old now))
    ((given ≡ None) × (new ≡ old))
