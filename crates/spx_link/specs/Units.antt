-- The units of a link: those queued, and the unit that a packet carries.
use Rattle.std.specs.Prelude.{◌≡◌, ℕ, ◌==◌, ◌&&◌, not, false, List, [], map, if◌then◌else◌}
use Rattle.ipx_wire.specs.declared.spx.packet.SpxHeader.{SpxHeader}
use Rattle.spx_link.specs.declared.unit.Unit.{Unit}
use Rattle.spx_link.specs.declared.queue.Queued.{Queued}
use Rattle.spx_link.specs.Limits.{end_stream}
use Rattle.spx_link.specs.LinkView.{LinkView, is_end, numbers_of}

abbrev pub unit_of : Queued → Unit
unit_of q = q.unit

-- the units queued. The first `out` of them are outstanding
abbrev pub queued_units : LinkView → List Unit
queued_units l = map unit_of l.queue

-- a unit as its peer reads it: the end of a connection has no body, and ends no message
abbrev pub as_sent : Unit → Unit
as_sent u =
    record {
      stream = u.stream;
      last = u.last && not (is_end u);
      body = record { items = if is_end u then [] else u.body.items };
    }

-- the unit that a packet carries: the body of an end is dropped
abbrev pub unit_in : SpxHeader → List ℕ → Unit
unit_in h body =
    record {
      stream = h.stream;
      last = h.last;
      body = record { items = if h.stream == end_stream then [] else body };
    }

-- the units queued, held and kept ahead are unchanged
pub record SameUnits (old new : LinkView) : Type 0 where
  pub queued : queued_units new ≡ queued_units old
  pub held : new.held ≡ old.held
  pub ahead : new.ahead ≡ old.ahead

-- whether the end was queued, and whether the peer's was received, is unchanged
pub record SameEndings (old new : LinkView) : Type 0 where
  pub end_queued : new.end_queued ≡ old.end_queued
  pub peer_ended : new.peer_ended ≡ old.peer_ended

-- a link without units, whose peer allows so many
pub record IsEmpty (l : LinkView) (buffers room : ℕ) : Type 0 where
  pub queued : queued_units l ≡ []
  pub held : l.held ≡ []
  pub ahead : l.ahead ≡ []
  pub end_queued : l.end_queued ≡ false
  pub peer_ended : l.peer_ended ≡ false
  pub numbers : numbers_of l
      ≡ record { next = 0; out = 0; room = room; expected = 0; held = 0; buffers = buffers }
