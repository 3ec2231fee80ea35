-- The names of a link (ids of Novell SPX, socket, remote address): its calls keep them, and its packets carry
-- them.
use Rattle.std.specs.Prelude.{ℕ, ◌≡◌, ◌≢◌, ◌⊎◌, ◌<◌, Bool, true, false, List, Option, Some}
use Rattle.ipx_wire.specs.declared.address.Socket.{Socket}
use Rattle.ipx_wire.specs.declared.address.Address.{Address}
use Rattle.ipx_wire.specs.declared.spx.packet.SpxHeader.{SpxHeader}
use Rattle.spx_link.specs.declared.outgoing.Sent.{Sent}
use Rattle.spx_link.specs.declared.outgoing.Sent.TheVariants as Sents
use Rattle.spx_link.specs.declared.state.State.{State}
use Rattle.spx_link.specs.declared.state.State.TheVariants.{Opening}
use Rattle.spx_link.specs.declared.received.Received.{Received}
use Rattle.spx_link.specs.declared.received.Received.TheVariants.{Stranger, Joined}
use Rattle.spx_link.specs.Limits.{no_id}
use Rattle.spx_link.specs.LinkView.{LinkView}
use Rattle.spx_link.specs.Poll.{OutgoingView, poll_link}
use Rattle.spx_link.specs.Receive.{receive_link}
use Rattle.spx_link.specs.Offer.{take_link}

-- its id, its peer's, its socket and the remote address
pub record Names : Type 0 where
  pub own : ℕ
  pub peer : ℕ
  pub local : Socket
  pub remote : Address

abbrev pub names : LinkView → Names
names l = record { own = l.own; peer = l.peer; local = l.local; remote = l.remote }

-- a packet for this link from its peer
pub record IsForLink (n : Names) (h : SpxHeader) : Type 0 where
  pub to : h.to_id ≡ n.own
  pub from : h.from_id ≡ n.peer

-- a packet that joins it
pub record IsReply (n : Names) (h : SpxHeader) : Type 0 where
  pub system : h.system ≡ true
  pub to : h.to_id ≡ n.own
  pub from : h.from_id < no_id

-- a link that joins gets its peer's id, and any other link that reads keeps all names
pub record ReadNames (l : LinkView) (h : SpxHeader) (r : Received × LinkView) : Type 0 where
  pub joins : r.0 ≡ Joined
      → IsReply (names l) h × (names r.1 ≡ record (names l) { peer = h.from_id })
  pub reads : r.0 ≢ Joined → r.0 ≢ Stranger → IsForLink (names l) h × (names r.1 ≡ names l)

-- packets without a unit
abbrev pub is_plain : Sent → Bool
is_plain Sents.Request = true
is_plain Sents.Reply = true
is_plain Sents.Confirm = true
is_plain Sents.Unit = false
is_plain Sents.Again = false
is_plain Sents.Ack = true
is_plain Sents.Probe = true

-- a packet is from the link's id, and to its peer's, or to FFFF while it is opening
pub record GaveNames (st : State) (l : LinkView) (g : OutgoingView) : Type 0 where
  pub from : g.header.from_id ≡ l.own
  pub to : (g.header.to_id ≡ l.peer) ⊎ ((g.header.to_id ≡ no_id) × (st ≡ Opening))
  pub system : g.header.system ≡ true → is_plain g.what ≡ true

pub record PollNames (st : State) (l : LinkView) (r : Option OutgoingView × LinkView) : Type 0 where
  pub keeps : names r.1 ≡ names l
  pub gave : (g : OutgoingView) → r.0 ≡ Some g → GaveNames st l g

pub record NameLaws : Type 0 where
  pub reads : (l : LinkView) (h : SpxHeader) (body : List ℕ) → ReadNames l h (receive_link l h body)
  pub polls : (l : LinkView) (now : ℕ) → PollNames l.state l (poll_link l now)
  pub takes : (l : LinkView) → names (take_link l).1 ≡ names l
