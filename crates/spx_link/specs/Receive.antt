-- How a link answers a packet and the state that it leaves (Novell SPX, and this project's profile), with one
-- function for each rule.
use Rattle.std.specs.Prelude.{ℕ, ◌+◌, ◌==◌, nat_lt, nat_le, Bool, true, false, ◌&&◌, ◌||◌, not}
use Rattle.std.specs.Prelude.{List, [], ◌∷◌, ◌++◌, length, drop, zero, suc, Option, Some, None}
use Rattle.std.specs.Prelude.{is_some, if◌then◌else◌}
use Rattle.ipx_wire.specs.declared.spx.packet.SpxHeader.{SpxHeader}
use Rattle.spx_link.specs.declared.state.State.{State}
use Rattle.spx_link.specs.declared.state.State.TheVariants as States
use Rattle.spx_link.specs.declared.received.Received.{Received}
use Rattle.spx_link.specs.declared.received.Received.TheVariants.{Joined, Kept, Repeat, Ahead}
use Rattle.spx_link.specs.declared.received.Received.TheVariants.{OverAllocation, System, PeerEnded}
use Rattle.spx_link.specs.declared.received.Received.TheVariants.{Confirmed, Stranger}
use Rattle.spx_link.specs.declared.unit.Unit.{Unit}
use Rattle.spx_link.specs.Limits.{end_stream, confirm_stream, no_id}
use Rattle.spx_link.specs.LinkView.{LinkView, free, is_confirmed, is_end}
use Rattle.spx_link.specs.Units.{unit_in}
use Rattle.spx_link.specs.SequenceMarks.{mark, distance, acknowledged, outstanding_after, room_after}

-- the answers to a unit that is kept
abbrev pub is_kept : Received → Bool
is_kept Joined = false
is_kept Kept = true
is_kept Repeat = false
is_kept Ahead = false
is_kept OverAllocation = false
is_kept System = false
is_kept PeerEnded = true
is_kept Confirmed = false
is_kept Stranger = false

-- ---- the numbers that every packet carries

abbrev pub read_ack : ℕ → LinkView → LinkView
read_ack ack l =
    record l {
      queue = drop (acknowledged l.next l.out ack) l.queue;
      out = outstanding_after l.next l.out ack;
    }

abbrev pub read_limit : ℕ → LinkView → LinkView
read_limit limit l = record l { room = room_after l.next l.room limit }

abbrev pub read_numbers : LinkView → SpxHeader → LinkView
read_numbers l h = record (read_limit h.limit (read_ack h.ack l)) { probes = 0 }

-- ---- a system packet

abbrev pub is_system : SpxHeader → Bool
is_system h = (h.system && not (h.stream == end_stream)) || (h.stream == confirm_stream)

-- the link's end was queued, all that it sent is acknowledged, and it was not confirmed before
abbrev pub may_confirm : LinkView → SpxHeader → Bool
may_confirm l h =
    (h.stream == confirm_stream)
    && (l.end_queued && ((length l.queue == 0) && not (is_confirmed l.state)))

abbrev pub with_ack_owed : LinkView → Bool → LinkView
with_ack_owed l owed = record l { owes_ack = l.owes_ack || owed }

abbrev pub read_system : LinkView → SpxHeader → Received × LinkView
read_system l h =
    if may_confirm l h
    then (Confirmed, record (with_ack_owed l h.wants_ack) { state = States.Confirmed })
    else (System, with_ack_owed l h.wants_ack)

-- ---- a unit

-- how far it is ahead of the next expected unit
abbrev pub beyond_expected : LinkView → SpxHeader → ℕ
beyond_expected l h = distance h.seq l.expected

-- it was received before, so an acknowledgement is owed. For the end of a peer that has ended, a confirmation
-- is owed instead
abbrev pub repeated : LinkView → SpxHeader → LinkView
repeated l h =
    if (h.stream == end_stream) && l.peer_ended
    then record l { owes_confirm = true }
    else record l { owes_ack = true }

abbrev pub after_end : State → State
after_end States.Opening = States.PeerEnded
after_end States.Live = States.PeerEnded
after_end States.Ending = States.PeerEnded
after_end States.PeerEnded = States.PeerEnded
after_end States.Confirmed = States.Confirmed
after_end States.Lost = States.Lost

-- a unit at a place of those ahead. If the list is too short, gaps lead up to the place
abbrev pub put : ℕ → Unit → List (Option Unit) → List (Option Unit)
put zero u [] = Some u ∷ []
put zero u (x ∷ xs) = Some u ∷ xs
put (suc k) u [] = None ∷ put k u []
put (suc k) u (x ∷ xs) = x ∷ put k u xs

-- a unit was kept at the place before
abbrev pub is_taken : ℕ → List (Option Unit) → Bool
is_taken k [] = false
is_taken zero (x ∷ xs) = is_some x
is_taken (suc k) (x ∷ xs) = is_taken k xs

-- the units before the first gap, up to an end
abbrev pub leading : List (Option Unit) → List Unit
leading [] = []
leading (None ∷ xs) = []
leading (Some u ∷ xs) = u ∷ (if is_end u then [] else leading xs)

abbrev pub any_end : List Unit → Bool
any_end [] = false
any_end (u ∷ us) = is_end u || any_end us

-- these units are now in order, and the last of them is the peer's end. What is kept after it is dropped
abbrev pub keep_end : LinkView → List Unit → LinkView
keep_end l us =
    record l {
      held = l.held ++ us;
      ahead = [];
      expected = mark (l.expected + length us);
      peer_ended = true;
      owes_confirm = true;
      state = after_end l.state;
    }

-- these units are now in order, and the peer has not ended
abbrev pub keep_units : LinkView → List Unit → List (Option Unit) → LinkView
keep_units l us ahead =
    record l {
      held = l.held ++ us;
      ahead = drop (length us) ahead;
      expected = mark (l.expected + length us);
      owes_ack = true;
    }

-- of what is kept from `expected` on, the units in order are held
abbrev pub settle : LinkView → List (Option Unit) → Received × LinkView
settle l ahead =
    if any_end (leading ahead) then (PeerEnded, keep_end l (leading ahead))
    else (Kept, keep_units l (leading ahead) ahead)

-- there is a buffer for the unit: it is kept at its place, once
abbrev pub keep : LinkView → SpxHeader → List ℕ → Received × LinkView
keep l h body =
    if is_taken (beyond_expected l h) l.ahead
    then (Repeat, record l { owes_ack = true })
    else settle l (put (beyond_expected l h) (unit_in h body) l.ahead)

-- a unit beyond the free buffers is not kept
abbrev pub in_turn : LinkView → SpxHeader → List ℕ → Received × LinkView
in_turn l h body =
    if nat_lt (beyond_expected l h) (free l) then keep l h body
    else (OverAllocation, record l { owes_ack = true })

abbrev pub not_behind : LinkView → SpxHeader → List ℕ → Received × LinkView
not_behind l h body = if l.peer_ended then (Ahead, l) else in_turn l h body

abbrev pub read_unit : LinkView → SpxHeader → List ℕ → Received × LinkView
read_unit l h body =
    if nat_le 32768 (beyond_expected l h) then (Repeat, repeated l h) else not_behind l h body

-- ---- a packet

abbrev pub read_packet : LinkView → SpxHeader → List ℕ → Received × LinkView
read_packet l h body =
    if is_system h then read_system (read_numbers l h) h else read_unit (read_numbers l h) h body

-- a packet to the link and from its peer is read, any other changes nothing
abbrev pub is_own : LinkView → SpxHeader → Bool
is_own l h = (h.to_id == l.own) && (h.from_id == l.peer)

abbrev pub receive_joined : LinkView → SpxHeader → List ℕ → Received × LinkView
receive_joined l h body = if is_own l h then read_packet l h body else (Stranger, l)

-- a reply to the request, which joins
abbrev pub is_reply : LinkView → SpxHeader → Bool
is_reply l h =
    h.system
    && ((h.stream == 0)
    && (not h.wants_ack
    && ((h.to_id == l.own) && (nat_lt 0 h.from_id && nat_lt h.from_id no_id))))

abbrev pub joined_link : LinkView → SpxHeader → LinkView
joined_link l h = record l { state = States.Live; peer = h.from_id }

abbrev pub receive_reply : LinkView → SpxHeader → Received × LinkView
receive_reply l h = if is_reply l h then (Joined, read_numbers (joined_link l h) h) else (Stranger, l)

abbrev pub receive_at : State → LinkView → SpxHeader → List ℕ → Received × LinkView
receive_at States.Opening l h body = receive_reply l h
receive_at States.Live l h body = receive_joined l h body
receive_at States.Ending l h body = receive_joined l h body
receive_at States.PeerEnded l h body = receive_joined l h body
receive_at States.Confirmed l h body = receive_joined l h body
receive_at States.Lost l h body = (Stranger, l)

-- the answer to a packet with a body, and the link after it
abbrev pub receive_link : LinkView → SpxHeader → List ℕ → Received × LinkView
receive_link l h body = receive_at l.state l h body
