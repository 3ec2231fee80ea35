-- The state of a link, as its contracts see it (one end of a connection of Novell SPX).
use Rattle.std.specs.Prelude.{ℕ, ◌+◌, ◌-◌, ◌==◌, Bool, true, false, List, [], length, nat_le}
use Rattle.std.specs.Prelude.{Option, None}
use Rattle.ipx_wire.specs.declared.address.Socket.{Socket}
use Rattle.ipx_wire.specs.declared.address.Address.{Address}
use Rattle.spx_link.specs.declared.unit.Unit.{Unit}
use Rattle.spx_link.specs.declared.queue.Queued.{Queued}
use Rattle.spx_link.specs.declared.state.State.{State}
use Rattle.spx_link.specs.declared.state.State.TheVariants.{Opening, Live, Ending, PeerEnded}
use Rattle.spx_link.specs.declared.state.State.TheVariants.{Confirmed, Lost}
use Rattle.spx_link.specs.declared.numbers.Numbers.{Numbers}
use Rattle.spx_link.specs.Limits.{resend_after, end_stream, most_units}

-- the first `out` units of the queue are sent and not acknowledged. Held units were received in order and not
-- taken. Units ahead were received before a missing one. They lie from `expected` on, with None at a gap
pub record LinkView : Type 0 where
  pub state : State
  pub own : ℕ
  pub peer : ℕ
  pub local : Socket
  pub remote : Address
  pub queue : List Queued
  pub out : ℕ
  pub next : ℕ
  pub room : ℕ
  pub expected : ℕ
  pub held : List Unit
  pub ahead : List (Option Unit)
  pub buffers : ℕ
  pub asked_at : ℕ
  pub asked_count : ℕ
  pub spoke : ℕ
  pub probes : ℕ
  pub owes_reply : Bool
  pub owes_confirm : Bool
  pub owes_ack : Bool
  pub accepted : Bool
  pub end_queued : Bool
  pub peer_ended : Bool
  -- how many units may be outstanding; whether units are retransmitted only when asked for, or by the clock;
  -- and the place that was asked for, counted from the first outstanding unit
  pub window : ℕ
  pub manual : Bool
  pub again : Option ℕ

-- how many more units it can hold
abbrev pub free : LinkView → ℕ
free l = l.buffers - length l.held

-- 500 ms or more have passed since a time; false if it is in the future
abbrev pub due : ℕ → ℕ → Bool
due at now = nat_le (at + resend_after) now

abbrev pub is_end : Unit → Bool
is_end u = u.stream == end_stream

-- the states in which units are sent
abbrev pub is_working : State → Bool
is_working Opening = false
is_working Live = true
is_working Ending = true
is_working PeerEnded = false
is_working Confirmed = false
is_working Lost = false

abbrev pub is_confirmed : State → Bool
is_confirmed Opening = false
is_confirmed Live = false
is_confirmed Ending = false
is_confirmed PeerEnded = false
is_confirmed Confirmed = true
is_confirmed Lost = false

-- the counts and 16-bit numbers that a link shows
abbrev pub numbers_of : LinkView → Numbers
numbers_of l =
    record {
      next = l.next;
      out = l.out;
      room = l.room;
      expected = l.expected;
      held = length l.held;
      buffers = l.buffers;
    }

-- a new link, between its own id and the peer's
abbrev pub made_link : State → ℕ → ℕ → Socket → Address → ℕ → ℕ → Bool → LinkView
made_link state own peer local remote buffers now accepted =
    record {
      state = state;
      own = own;
      peer = peer;
      local = local;
      remote = remote;
      queue = [];
      out = 0;
      next = 0;
      room = 0;
      expected = 0;
      held = [];
      ahead = [];
      buffers = buffers;
      asked_at = 0;
      asked_count = 0;
      spoke = now;
      probes = 0;
      owes_reply = accepted;
      owes_confirm = false;
      owes_ack = false;
      accepted = accepted;
      end_queued = false;
      peer_ended = false;
      window = most_units;
      manual = false;
      again = None;
    }
