-- Definitions for private functions: a turn over the links of a host, in the order of their ids.
use Rattle.std.specs.Prelude.{◌≡◌, ◌≤◌, ◌<◌, ℕ, List, [], None, Some, if◌then◌else◌, ◌==◌, ◌||◌}
use Rattle.ipx_wire.specs.Assigned.{spx_type}
use Rattle.ipx_wire.specs.Ipx.{IsIpx}
use Rattle.ipx_wire.specs.Spx.{HasFreeBitsClear, IsSpx}
use Rattle.ipx_wire.specs.declared.address.Address.{Address}
use Rattle.ipx_wire.specs.declared.address.Node.{Node}
use Rattle.ipx_wire.specs.declared.address.Socket.{Socket}
use Rattle.spx_link.specs.LinkView.{LinkView}
use Rattle.spx_link.specs.Links.{LinksView, count_of, link_at}
use Rattle.spx_link.specs.Poll.{OutgoingView, poll_link}
use Rattle.spx_messages.specs.declared.poll.turn.Given.{Given}
use Rattle.spx_messages.specs.declared.poll.writing.HostAddress.{HostAddress}

-- the address of a socket of a host
abbrev pub address_at : HostAddress → Socket → Address
address_at p socket = record { network = p.network; node = p.node; socket = socket }

-- the next node of a packet to this address
abbrev pub node_towards : HostAddress → Address → Node
node_towards p to =
    if (to.network.0 == p.network.0) || (to.network.0 == 0) then to.node else p.router

-- the bytes are what a link gave, as an IPX packet between two addresses, and the free bits are 0
pub record IsPacketBetween (from to : Address) (g : OutgoingView) (bytes : List ℕ) : Type 0 where
  pub body : List ℕ
  pub spx : IsSpx g.header g.body body
  pub clear : HasFreeBitsClear body
  pub ipx : IsIpx (record {
    header = record { hops = 0; kind = spx_type; to = to; from = from };
    body = body;
  }) bytes []

-- what the link of an id gave
pub record GivesPacket (place : HostAddress) (s : LinksView) (id now : ℕ) (g : Given)
    (bytes : List ℕ) : Type 0 where
  pub link : LinkView
  pub given : OutgoingView
  pub at : link_at s id ≡ Some link
  pub gives : (poll_link link now).0 ≡ Some given
  pub giver : g.id ≡ id
  pub what : g.what ≡ given.what
  pub next : g.next ≡ node_towards place link.remote
  pub is : IsPacketBetween (address_at place link.local) link.remote given bytes

-- the link of this id was polled and gave nothing
pub record Rests (old new : LinksView) (now id : ℕ) (l : LinkView) : Type 0 where
  pub nothing : (poll_link l now).0 ≡ None
  pub link : link_at new id ≡ Some (poll_link l now).1

-- the links up to an id were polled and gave nothing, and the others are unchanged
pub record RestsTo (old new : LinksView) (now below : ℕ) : Type 0 where
  pub asked : (q : ℕ) (l : LinkView) → 0 < q → q ≤ below → link_at old q ≡ Some l
      → Rests old new now q l
  pub none : (q : ℕ) → link_at old q ≡ None → link_at new q ≡ None
  pub zero : link_at new 0 ≡ link_at old 0
  pub others : (q : ℕ) → below < q → link_at new q ≡ link_at old q
  pub last : new.last ≡ old.last
  pub count : count_of new ≡ count_of old

-- each link was polled and gave nothing
pub record AllRest (old new : LinksView) (now : ℕ) : Type 0 where
  pub asked : (q : ℕ) (l : LinkView) → link_at old q ≡ Some l → Rests old new now q l
  pub none : (q : ℕ) → link_at old q ≡ None → link_at new q ≡ None
  pub last : new.last ≡ old.last
  pub count : count_of new ≡ count_of old

-- the link of an id gave a packet: those with lower ids were polled and gave nothing, those with higher ids
-- were not polled
pub record Turned (place : HostAddress) (old new : LinksView) (now : ℕ) (g : Given)
    (bytes : List ℕ) : Type 0 where
  pub gives : GivesPacket place old g.id now g bytes
  pub before : (q : ℕ) (l : LinkView) → q < g.id → link_at old q ≡ Some l
      → Rests old new now q l
  pub giver : (l : LinkView) → link_at old g.id ≡ Some l
      → link_at new g.id ≡ Some (poll_link l now).1
  pub after : (q : ℕ) → g.id < q → link_at new q ≡ link_at old q
  pub none : (q : ℕ) → link_at old q ≡ None → link_at new q ≡ None
  pub last : new.last ≡ old.last
  pub count : count_of new ≡ count_of old
