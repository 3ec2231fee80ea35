-- How a link reads does not depend on how it is paced.
use Rattle.std.proofs.Common.{ℕ, ◌≡◌, ◌==◌, ◌&&◌, ◌∙◌, Bool, true, false, List, Option, Some, None, ap, nat_le, nat_lt, refl, if◌then◌else◌}
use Rattle.ipx_wire.specs.declared.spx.packet.SpxHeader.{SpxHeader}
use Rattle.spx_link.specs.declared.unit.Unit.{Unit}
use Rattle.spx_link.specs.declared.state.State.{State}
use Rattle.spx_link.specs.declared.state.State.TheVariants as S
use Rattle.spx_link.specs.declared.received.Received.{Received}
use Rattle.spx_link.specs.declared.received.Received.TheVariants as R
use Rattle.spx_link.specs.Limits.{end_stream, most_units}
use Rattle.spx_link.specs.LinkView.{LinkView, free}
use Rattle.spx_link.specs.Receive.{any_end, beyond_expected, in_turn, is_own, is_reply, is_system, is_taken, joined_link, keep, keep_end, keep_units, leading, may_confirm, not_behind, put, read_numbers, read_packet, read_system, read_unit, receive_at, receive_joined, receive_link, receive_reply, repeated, settle, with_ack_owed}
use Rattle.spx_link.specs.Units.{unit_in}
use Rattle.spx_congestion.specs.Pacing.{PacerView}
use Rattle.spx_theory.specs.LosslessRounds.{Conveys, stops, goes}
use Rattle.theory_processes.specs.PacedRounds.{PacedReads, set_by, silent, hears}

-- a link with this window and this place to send again
abbrev pub paced : ℕ → Option ℕ → LinkView → LinkView
paced window place l = record l { window = window; manual = true; again = place }

pub set_is : (window : ℕ) (place : Option ℕ) (l : LinkView) → set_by window place l ≡ paced window place l
set_is window None l = refl
set_is window (Some k) l = refl

-- the same link with the window and the retransmission of a new one
abbrev pub unpaced : LinkView → LinkView
unpaced l = record l { window = most_units; manual = false; again = None }

abbrev read_as : Received × LinkView → Received × LinkView
read_as z = (z.0, unpaced z.1)

if_read : (b : Bool) (x y x' y' : Received × LinkView) → x' ≡ read_as x → y' ≡ read_as y → ◌≡◌ {A = Received × LinkView} (if b then x' else y') (read_as (if b then x else y))
if_read true x y x' y' e f = e
if_read false x y x' y' e f = f

if_link : (b : Bool) (x y x' y' : LinkView) → x' ≡ unpaced x → y' ≡ unpaced y → ◌≡◌ {A = LinkView} (if b then x' else y') (unpaced (if b then x else y))
if_link true x y x' y' e f = e
if_link false x y x' y' e f = f

system_as : (l : LinkView) (h : SpxHeader) → read_system (unpaced l) h ≡ read_as (read_system l h)
system_as l h =
    if_read (may_confirm l h) (R.Confirmed, record (with_ack_owed l h.wants_ack) { state = S.Confirmed }) (R.System, with_ack_owed l h.wants_ack)
    (R.Confirmed, record (with_ack_owed (unpaced l) h.wants_ack) { state = S.Confirmed }) (R.System, with_ack_owed (unpaced l) h.wants_ack) refl refl

repeated_as : (l : LinkView) (h : SpxHeader) → repeated (unpaced l) h ≡ unpaced (repeated l h)
repeated_as l h =
    if_link ((h.stream == end_stream) && l.peer_ended) (record l { owes_confirm = true }) (record l { owes_ack = true })
    (record (unpaced l) { owes_confirm = true }) (record (unpaced l) { owes_ack = true }) refl refl

settle_as : (l : LinkView) (ahead : List (Option Unit)) → settle (unpaced l) ahead ≡ read_as (settle l ahead)
settle_as l ahead =
    if_read (any_end (leading ahead)) (R.PeerEnded, keep_end l (leading ahead)) (R.Kept, keep_units l (leading ahead) ahead)
    (R.PeerEnded, keep_end (unpaced l) (leading ahead)) (R.Kept, keep_units (unpaced l) (leading ahead) ahead) refl refl

keep_as : (l : LinkView) (h : SpxHeader) (body : List ℕ) → keep (unpaced l) h body ≡ read_as (keep l h body)
keep_as l h body =
    let ahead = put (beyond_expected l h) (unit_in h body) l.ahead in
    if_read (is_taken (beyond_expected l h) l.ahead) (R.Repeat, record l { owes_ack = true }) (settle l ahead)
    (R.Repeat, record (unpaced l) { owes_ack = true }) (settle (unpaced l) ahead) refl (settle_as l ahead)

in_turn_as : (l : LinkView) (h : SpxHeader) (body : List ℕ) → in_turn (unpaced l) h body ≡ read_as (in_turn l h body)
in_turn_as l h body =
    if_read (nat_lt (beyond_expected l h) (free l)) (keep l h body) (R.OverAllocation, record l { owes_ack = true })
    (keep (unpaced l) h body) (R.OverAllocation, record (unpaced l) { owes_ack = true }) (keep_as l h body) refl

not_behind_as : (l : LinkView) (h : SpxHeader) (body : List ℕ) → not_behind (unpaced l) h body ≡ read_as (not_behind l h body)
not_behind_as l h body =
    if_read l.peer_ended (R.Ahead, l) (in_turn l h body) (R.Ahead, unpaced l) (in_turn (unpaced l) h body) refl (in_turn_as l h body)

unit_as : (l : LinkView) (h : SpxHeader) (body : List ℕ) → read_unit (unpaced l) h body ≡ read_as (read_unit l h body)
unit_as l h body =
    if_read (nat_le 32768 (beyond_expected l h)) (R.Repeat, repeated l h) (not_behind l h body)
    (R.Repeat, repeated (unpaced l) h) (not_behind (unpaced l) h body) (ap (λ (m : LinkView). (R.Repeat, m)) (repeated_as l h)) (not_behind_as l h body)

packet_as : (l : LinkView) (h : SpxHeader) (body : List ℕ) → read_packet (unpaced l) h body ≡ read_as (read_packet l h body)
packet_as l h body =
    if_read (is_system h) (read_system (read_numbers l h) h) (read_unit (read_numbers l h) h body)
    (read_system (read_numbers (unpaced l) h) h) (read_unit (read_numbers (unpaced l) h) h body) (system_as (read_numbers l h) h) (unit_as (read_numbers l h) h body)

joined_as : (l : LinkView) (h : SpxHeader) (body : List ℕ) → receive_joined (unpaced l) h body ≡ read_as (receive_joined l h body)
joined_as l h body =
    if_read (is_own l h) (read_packet l h body) (R.Stranger, l) (read_packet (unpaced l) h body) (R.Stranger, unpaced l) (packet_as l h body) refl

reply_as : (l : LinkView) (h : SpxHeader) → receive_reply (unpaced l) h ≡ read_as (receive_reply l h)
reply_as l h =
    if_read (is_reply l h) (R.Joined, read_numbers (joined_link l h) h) (R.Stranger, l)
    (R.Joined, read_numbers (joined_link (unpaced l) h) h) (R.Stranger, unpaced l) refl refl

at_as : (st : State) (l : LinkView) (h : SpxHeader) (body : List ℕ) → receive_at st (unpaced l) h body ≡ read_as (receive_at st l h body)
at_as S.Opening l h body = reply_as l h
at_as S.Live l h body = joined_as l h body
at_as S.Ending l h body = joined_as l h body
at_as S.PeerEnded l h body = joined_as l h body
at_as S.Confirmed l h body = joined_as l h body
at_as S.Lost l h body = refl

pub receive_as : (l : LinkView) (h : SpxHeader) (body : List ℕ) → receive_link (unpaced l) h body ≡ read_as (receive_link l h body)
receive_as l h body = at_as l.state l h body

-- what a paced link reads is conveyed to the same link when it is not paced
pub conveyed_as : (b a b' a' : LinkView) (p p' : PacerView) (now : ℕ) → PacedReads b a p now b' a' p' → Conveys b (unpaced a) now b' (unpaced a')
conveyed_as b a b' a' p p' now (silent is) = stops is
conveyed_as b a b' a' p p' now (hears {b1 = b1} {a1 = a1} {p1 = p1} o r is read told rest) =
    goes o r is (receive_as a o.header o.body ∙ ap read_as read) (conveyed_as b1 a1 b' a' p1 p' now rest)
