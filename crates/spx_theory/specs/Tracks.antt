-- The relation of a link with 16-bit numbers (Novell SPX) to its end of the machine, whose numbers never
-- wrap.
use Rattle.std.specs.Prelude.{ℕ, ◌+◌, ◌≤◌, ◌≡◌, Bool, true, false, List, length, take, drop, map, Option, Some, slice_get, is_some}
use Rattle.spx_link.specs.declared.unit.Unit.{Unit}
use Rattle.spx_link.specs.declared.state.State.{State}
use Rattle.spx_link.specs.declared.state.State.TheVariants.{Opening, Live, Ending, PeerEnded, Confirmed, Lost}
use Rattle.spx_link.specs.Limits.{most_units, end_stream}
use Rattle.spx_link.specs.LinkView.{LinkView}
use Rattle.spx_link.specs.SequenceMarks.{mark}
use Rattle.spx_link.specs.Units.{queued_units}
use Rattle.spx_link.specs.Machine.{End, lead}
use Rattle.spx_link.specs.Offer.{the_end}

-- the part of a link that the machine speaks of: without times, counts, owed packets and state
pub record Core : Type 0 where
  pub queue : List Unit
  pub out : ℕ
  pub next : ℕ
  pub room : ℕ
  pub expected : ℕ
  pub held : List Unit
  pub ahead : List (Option Unit)
  pub buffers : ℕ
  pub peer_ended : Bool
  pub end_queued : Bool

abbrev pub core : LinkView → Core
core l =
    record {
      queue = queued_units l;
      out = l.out;
      next = l.next;
      room = l.room;
      expected = l.expected;
      held = l.held;
      ahead = l.ahead;
      buffers = l.buffers;
      peer_ended = l.peer_ended;
      end_queued = l.end_queued;
    }

-- the numbers of the link are those of the end, in 16 bits
pub record AgreesWith (l : Core) (c : End) : Type 0 where
  pub next : l.next ≡ mark c.sent
  pub expected : l.expected ≡ mark c.read
  pub out : c.base + l.out ≡ c.sent
  pub room : c.sent + l.room ≡ c.limit
  pub held : c.taken + length l.held ≡ c.read
  pub buffers : l.buffers ≡ c.buffers
  pub window : l.out ≤ most_units
  pub small : c.buffers ≤ most_units

-- the units of an end: none is of stream FF; one of stream FE is the last one, is the end of the connection
-- that was asked for, and is there if `closed`
pub record Formed (units : List Unit) (closed : Bool) : Type 0 where
  pub stream : (k : ℕ) (u : Unit) → slice_get units k ≡ Some u → u.stream ≤ end_stream
  pub end : (k : ℕ) (u : Unit) → slice_get units k ≡ Some u → u.stream ≡ end_stream
      → (closed ≡ true) × (length units ≡ k + 1) × (u ≡ the_end)
  pub there : closed ≡ true → (k : ℕ) × (slice_get units k ≡ Some the_end)

-- the link is the end c, whose peer is d: it queues c's units from the base on, holds those of d that are
-- read and not taken, and keeps those of d that the machine keeps
pub record Tracks (l : Core) (c d : End) : Type 0 where
  pub counts : AgreesWith l c
  pub queue : l.queue ≡ drop c.base c.units
  pub held : l.held ≡ drop c.taken (take c.read d.units)
  pub kept : c.kept ≡ map is_some l.ahead
  pub open' : lead c.kept ≡ 0
  pub ahead : (k : ℕ) (u : Unit) → slice_get l.ahead k ≡ Some (Some u)
      → slice_get d.units (c.read + k) ≡ Some u
  pub ended : l.peer_ended ≡ true → Formed d.units true × (length d.units ≤ c.read)
  pub formed : Formed c.units l.end_queued

-- the states before the end of the connection is asked for
abbrev pub may_end : State → Bool
may_end Opening = true
may_end Live = true
may_end Ending = false
may_end PeerEnded = false
may_end Confirmed = false
may_end Lost = false

-- in these states no end is queued
abbrev pub IsOpen : LinkView → Type 0
IsOpen l = may_end l.state ≡ true → l.end_queued ≡ false

pub record Follows (l : LinkView) (c d : End) : Type 0 where
  pub tracks : Tracks (core l) c d
  pub open' : IsOpen l
