-- An endpoint in contracts: what it holds by the ids of its links, and the listening sockets (Novell SPX).
use Rattle.std.specs.Prelude.{ℕ, ◌==◌, List, Option, Some, None, find, option_map}
use Rattle.ipx_wire.specs.declared.address.Network.{Network}
use Rattle.ipx_wire.specs.declared.address.Node.{Node}
use Rattle.ipx_wire.specs.declared.address.Socket.{Socket}
use Rattle.spx_link.specs.declared.outgoing.Sent.{Sent}
use Rattle.spx_link.specs.LinkView.{LinkView}
use Rattle.spx_link.specs.Links.{LinksView, link_at}
use Rattle.spx_messages.specs.Message.{MessageView}
use Rattle.spx_messages.specs.declared.listening.Listener.{Listener}
use Rattle.spx_messages.specs.declared.parts.Part.{Part}

pub record EndpointView : Type 0 where
  pub network : Network
  pub node : Node
  pub router : Node
  pub listening : List Listener
  pub links : LinksView
  pub parts : List Part
  -- the link and kind of the packet that the last poll gave
  pub said : Option (ℕ × Sent)
  -- the id of the link that read the last datagram
  pub heard : Option ℕ

-- what an id holds: its link, and its partial message
pub record Held : Type 0 where
  pub link : LinkView
  pub rest : Option MessageView

-- the entry of an id in a list
abbrev pub part_in : List Part → ℕ → Option Part
part_in parts id = find (λ p. p.id == id) parts

abbrev pub rest_of : Option Part → Option MessageView
rest_of None = None
rest_of (Some p) = p.inbox

abbrev pub rest_in : List Part → ℕ → Option MessageView
rest_in parts id = rest_of (part_in parts id)

abbrev pub held_with : Option LinkView → Option MessageView → Option Held
held_with None rest = None
held_with (Some l) rest = Some (record { link = l; rest = rest })

abbrev pub held_among : LinksView → List Part → ℕ → Option Held
held_among links parts id = held_with (link_at links id) (rest_in parts id)

-- what an id holds
abbrev pub held_at : EndpointView → ℕ → Option Held
held_at e id = held_among e.links e.parts id

abbrev pub listener_in : List Listener → ℕ → Option Listener
listener_in listening socket = find (λ l. l.socket.0 == socket) listening

abbrev pub buffers_in : List Listener → ℕ → Option ℕ
buffers_in listening socket = option_map (λ l. l.buffers) (listener_in listening socket)

-- for a socket that listens, the number of buffers of each link that is accepted there
abbrev pub buffers_at : EndpointView → Socket → Option ℕ
buffers_at e socket = buffers_in e.listening socket.0
