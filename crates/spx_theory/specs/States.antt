-- How the calls of a link change its state, as far as the theorems of connections need it (Novell SPX:
-- opening, live, lost).
use Rattle.std.specs.Prelude.{ℕ, ◌≡◌, ◌≢◌, Bool, true, false, List, None, Some}
use Rattle.ipx_wire.specs.declared.spx.packet.SpxHeader.{SpxHeader}
use Rattle.spx_link.specs.declared.state.State.{State}
use Rattle.spx_link.specs.declared.state.State.TheVariants.{Opening, Live, Ending, PeerEnded, Confirmed, Lost}
use Rattle.spx_link.specs.declared.received.Received.TheVariants.{Stranger, Joined}
use Rattle.spx_link.specs.declared.outgoing.Sent.TheVariants.{Request}
use Rattle.spx_link.specs.LinkView.{LinkView}
use Rattle.spx_link.specs.Poll.{OutgoingView, poll_link}
use Rattle.spx_link.specs.Receive.{receive_link}
use Rattle.spx_link.specs.Offer.{refusal, take_link}

-- not joined yet, or given up
abbrev pub is_quiet : State → Bool
is_quiet Opening = true
is_quiet Live = false
is_quiet Ending = false
is_quiet PeerEnded = false
is_quiet Confirmed = false
is_quiet Lost = true

pub record StateLaws : Type 0 where
  -- no call puts a link into the opening state
  pub polls_open : (l : LinkView) (now : ℕ)
      → (poll_link l now).1.state ≡ Opening → l.state ≡ Opening
  pub reads_open : (l : LinkView) (h : SpxHeader) (body : List ℕ)
      → (receive_link l h body).0 ≢ Stranger → (receive_link l h body).1.state ≢ Opening
  pub joins : (l : LinkView) (h : SpxHeader) (body : List ℕ)
      → (receive_link l h body).0 ≡ Joined → l.state ≡ Opening
  pub takes_open : (l : LinkView) → (take_link l).1.state ≡ l.state
  -- a link that is opening or lost gives only requests, reads only a reply, and is offered nothing
  pub quiet_asks : (l : LinkView) (now : ℕ) (g : OutgoingView)
      → is_quiet l.state ≡ true → (poll_link l now).0 ≡ Some g → g.what ≡ Request
  pub quiet_stays : (l : LinkView) (now : ℕ)
      → is_quiet l.state ≡ true → is_quiet (poll_link l now).1.state ≡ true
  pub quiet_joins : (l : LinkView) (h : SpxHeader) (body : List ℕ)
      → is_quiet l.state ≡ true → (receive_link l h body).0 ≢ Stranger
      → (receive_link l h body).0 ≡ Joined
  pub quiet_refuses : (l : LinkView) → is_quiet l.state ≡ true → refusal l.state ≢ None
