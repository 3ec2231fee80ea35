-- What no call of a link changes, and how polls change its next number (Novell SPX: the sequence number).
use Rattle.std.specs.Prelude.{ℕ, ◌≡◌, ◌+◌, Bool, List, Option, Some, None}
use Rattle.ipx_wire.specs.declared.address.Socket.{Socket}
use Rattle.ipx_wire.specs.declared.address.Address.{Address}
use Rattle.ipx_wire.specs.declared.spx.packet.SpxHeader.{SpxHeader}
use Rattle.spx_link.specs.declared.outgoing.Sent.{Sent}
use Rattle.spx_link.specs.declared.outgoing.Sent.TheVariants as Sents
use Rattle.spx_link.specs.SequenceMarks.{mark}
use Rattle.spx_link.specs.LinkView.{LinkView}
use Rattle.spx_link.specs.Offer.{take_link}
use Rattle.spx_link.specs.Poll.{OutgoingView, poll_link}
use Rattle.spx_link.specs.Receive.{receive_link}

-- what a link is made with, and its next number
pub record Lasting : Type 0 where
  pub own : ℕ
  pub local : Socket
  pub remote : Address
  pub buffers : ℕ
  pub accepted : Bool
  pub next : ℕ

abbrev pub lasting : LinkView → Lasting
lasting l =
    record {
      own = l.own;
      local = l.local;
      remote = l.remote;
      buffers = l.buffers;
      accepted = l.accepted;
      next = l.next;
    }

-- a poll that gives a unit for the first time adds one to the next number, and changes nothing else here
abbrev pub NextBy : Sent → LinkView → LinkView → Type 0
NextBy Sents.Request l k = lasting k ≡ lasting l
NextBy Sents.Reply l k = lasting k ≡ lasting l
NextBy Sents.Confirm l k = lasting k ≡ lasting l
NextBy Sents.Unit l k = lasting k ≡ record (lasting l) { next = mark (l.next + 1) }
NextBy Sents.Again l k = lasting k ≡ lasting l
NextBy Sents.Ack l k = lasting k ≡ lasting l
NextBy Sents.Probe l k = lasting k ≡ lasting l

abbrev pub NextOf : Option OutgoingView → LinkView → LinkView → Type 0
NextOf None l k = lasting k ≡ lasting l
NextOf (Some g) l k = NextBy g.what l k

pub record LastingLaws : Type 0 where
  pub receives : (l : LinkView) (h : SpxHeader) (body : List ℕ)
      → lasting (receive_link l h body).1 ≡ lasting l
  pub polls : (l : LinkView) (now : ℕ) → NextOf (poll_link l now).0 l (poll_link l now).1
  pub takes : (l : LinkView) → lasting (take_link l).1 ≡ lasting l
