-- What no call of a link changes, and how polls change its next number.
use Rattle.std.proofs.Common.{ℕ, ◌≡◌, ◌==◌, true, ◌&&◌, ◌||◌, nat_le, nat_lt, List, [], ◌∷◌, Option, Some, None, slice_get, refl}
use Rattle.std.proofs.lemmas.Bool.{cond_both}
use Rattle.ipx_wire.specs.declared.spx.packet.SpxHeader.{SpxHeader}
use Rattle.spx_link.specs.declared.unit.Unit.{Unit}
use Rattle.spx_link.specs.declared.queue.Queued.{Queued}
use Rattle.spx_link.specs.declared.received.Received.{Received}
use Rattle.spx_link.specs.declared.state.State.{State}
use Rattle.spx_link.specs.Limits.{most_sends, end_stream}
use Rattle.spx_link.specs.Units.{unit_in}
use Rattle.spx_link.specs.LinkView.{LinkView, free, due}
use Rattle.spx_link.specs.Offer.{take_held, take_link}
use Rattle.spx_link.specs.Poll.{OutgoingView, lost, requests, requests_or_lost, poll_request, may_probe, most_probes, probes_once, probes_or_lost, poll_probe, acknowledges, poll_ack, late_if_working, sends_again, sends_again_or_lost, poll_late, poll_again, may_send, sends, poll_unit, confirms, poll_confirm, replies, poll_reply, poll_at, poll_link}
use Rattle.spx_link.specs.Receive.{read_numbers, read_system, read_unit, read_packet, is_system, is_own, is_reply, joined_link, receive_joined, receive_at, receive_link, beyond_expected, put, is_taken, leading, any_end, keep_end, keep_units, settle, keep, in_turn, not_behind, repeated, may_confirm, with_ack_owed}
use Rattle.spx_link.specs.declared.received.Received.TheVariants as R
use Rattle.spx_link.specs.declared.state.State.TheVariants as S
use Rattle.spx_theory.specs.Lasting.{lasting, NextOf, LastingLaws}

-- ---- receiving changes nothing of it

abbrev Lasts : LinkView → Received × LinkView → Type 0
Lasts l r = lasting r.1 ≡ lasting l

settle_lasts : (l : LinkView) (ahead : List (Option Unit)) → Lasts l (settle l ahead)
settle_lasts l ahead =
    cond_both {A = Received × LinkView} (any_end (leading ahead)) (R.PeerEnded, keep_end l (leading ahead)) (R.Kept, keep_units l (leading ahead) ahead) (Lasts l) (λ yes. refl) (λ no. refl)

keep_lasts : (l : LinkView) (h : SpxHeader) (body : List ℕ) → Lasts l (keep l h body)
keep_lasts l h body =
    cond_both {A = Received × LinkView} (is_taken (beyond_expected l h) l.ahead) (R.Repeat, record l { owes_ack = true }) (settle l (put (beyond_expected l h) (unit_in h body) l.ahead)) (Lasts l)
    (λ yes. refl) (λ no. settle_lasts l (put (beyond_expected l h) (unit_in h body) l.ahead))

in_turn_lasts : (l : LinkView) (h : SpxHeader) (body : List ℕ) → Lasts l (in_turn l h body)
in_turn_lasts l h body =
    cond_both {A = Received × LinkView} (nat_lt (beyond_expected l h) (free l)) (keep l h body) (R.OverAllocation, record l { owes_ack = true }) (Lasts l)
    (λ yes. keep_lasts l h body) (λ no. refl)

not_behind_lasts : (l : LinkView) (h : SpxHeader) (body : List ℕ) → Lasts l (not_behind l h body)
not_behind_lasts l h body = cond_both {A = Received × LinkView} l.peer_ended (R.Ahead, l) (in_turn l h body) (Lasts l) (λ yes. refl) (λ no. in_turn_lasts l h body)

repeated_lasts : (l : LinkView) (h : SpxHeader) → lasting (repeated l h) ≡ lasting l
repeated_lasts l h =
    cond_both {A = LinkView} ((h.stream == end_stream) && l.peer_ended) (record l { owes_confirm = true }) (record l { owes_ack = true }) (λ k. lasting k ≡ lasting l) (λ yes. refl) (λ no. refl)

unit_lasts : (l : LinkView) (h : SpxHeader) (body : List ℕ) → Lasts l (read_unit l h body)
unit_lasts l h body =
    cond_both {A = Received × LinkView} (nat_le 32768 (beyond_expected l h)) (R.Repeat, repeated l h) (not_behind l h body) (Lasts l)
    (λ yes. repeated_lasts l h) (λ no. not_behind_lasts l h body)

system_lasts : (l : LinkView) (h : SpxHeader) → Lasts l (read_system l h)
system_lasts l h =
    cond_both {A = Received × LinkView} (may_confirm l h) (R.Confirmed, record (with_ack_owed l h.wants_ack) { state = S.Confirmed }) (R.System, with_ack_owed l h.wants_ack) (Lasts l) (λ yes. refl) (λ no. refl)

packet_lasts : (l : LinkView) (h : SpxHeader) (body : List ℕ) → Lasts l (read_packet l h body)
packet_lasts l h body =
    cond_both {A = Received × LinkView} (is_system h) (read_system (read_numbers l h) h) (read_unit (read_numbers l h) h body) (Lasts l)
    (λ yes. system_lasts (read_numbers l h) h) (λ no. unit_lasts (read_numbers l h) h body)

own_lasts : (l : LinkView) (h : SpxHeader) (body : List ℕ) → Lasts l (receive_joined l h body)
own_lasts l h body = cond_both {A = Received × LinkView} (is_own l h) (read_packet l h body) (R.Stranger, l) (Lasts l) (λ yes. packet_lasts l h body) (λ no. refl)

receive_at_lasts : (s : State) (l : LinkView) (h : SpxHeader) (body : List ℕ) → Lasts l (receive_at s l h body)
receive_at_lasts S.Opening l h body = cond_both {A = Received × LinkView} (is_reply l h) (R.Joined, read_numbers (joined_link l h) h) (R.Stranger, l) (Lasts l) (λ yes. refl) (λ no. refl)
receive_at_lasts S.Live l h body = own_lasts l h body
receive_at_lasts S.Ending l h body = own_lasts l h body
receive_at_lasts S.PeerEnded l h body = own_lasts l h body
receive_at_lasts S.Confirmed l h body = own_lasts l h body
receive_at_lasts S.Lost l h body = refl

pub receive_lasts : (l : LinkView) (h : SpxHeader) (body : List ℕ) → lasting (receive_link l h body).1 ≡ lasting l
receive_lasts l h body = receive_at_lasts l.state l h body

-- ---- a poll that gives a unit adds one to the next number, and changes nothing else here

abbrev Gives' : LinkView → Option OutgoingView × LinkView → Type 0
Gives' l r = NextOf r.0 l r.1

probe_next : (l : LinkView) (now : ℕ) → Gives' l (poll_probe l now)
probe_next l now =
    cond_both {A = Option OutgoingView × LinkView} (may_probe l now) (probes_or_lost l now) (None, l) (Gives' l)
    (λ yes. cond_both {A = Option OutgoingView × LinkView} (nat_le (most_probes l) l.probes) (None, lost l) (probes_once l now) (Gives' l) (λ ten. refl) (λ fewer. refl))
    (λ no. refl)

ack_next : (l : LinkView) (now : ℕ) → Gives' l (poll_ack l now)
ack_next l now = cond_both {A = Option OutgoingView × LinkView} l.owes_ack (acknowledges l now) (poll_probe l now) (Gives' l) (λ yes. refl) (λ no. probe_next l now)

again_next : (l : LinkView) (now k : ℕ) (o : Option Queued) → Gives' l (sends_again_or_lost l now k o)
again_next l now k None = refl
again_next l now k (Some q) = cond_both {A = Option OutgoingView × LinkView} (nat_le most_sends q.count) (None, lost l) (sends_again l now k q) (Gives' l) (λ yes. refl) (λ no. refl)

late_next : (l : LinkView) (now : ℕ) (o : Option ℕ) → Gives' l (poll_late l now o)
late_next l now None = ack_next l now
late_next l now (Some k) = again_next l now k (slice_get l.queue k)

sends_next : (l : LinkView) (now : ℕ) (o : Option Queued) → Gives' l (sends l now o)
sends_next l now None = refl
sends_next l now (Some q) = refl

unit_next : (l : LinkView) (now : ℕ) → Gives' l (poll_unit l now)
unit_next l now =
    cond_both {A = Option OutgoingView × LinkView} (may_send l) (sends l now (slice_get l.queue l.out)) (poll_again l now) (Gives' l)
    (λ yes. sends_next l now (slice_get l.queue l.out)) (λ no. late_next l now (late_if_working l now))

reply_next : (l : LinkView) (now : ℕ) → Gives' l (poll_reply l now)
reply_next l now =
    cond_both {A = Option OutgoingView × LinkView} l.owes_reply (replies l now) (poll_confirm l now) (Gives' l) (λ yes. refl)
    (λ no. cond_both {A = Option OutgoingView × LinkView} l.owes_confirm (confirms l now) (poll_unit l now) (Gives' l) (λ yes. refl) (λ no'. unit_next l now))

request_next : (l : LinkView) (now : ℕ) → Gives' l (poll_request l now)
request_next l now =
    cond_both {A = Option OutgoingView × LinkView} ((l.asked_count == 0) || due l.asked_at now) (requests_or_lost l now) (None, l) (Gives' l)
    (λ yes. cond_both {A = Option OutgoingView × LinkView} (nat_le most_sends l.asked_count) (None, lost l) (requests l now) (Gives' l) (λ ten. refl) (λ fewer. refl))
    (λ no. refl)

poll_at_next : (st : State) (l : LinkView) (now : ℕ) → Gives' l (poll_at st l now)
poll_at_next S.Opening l now = request_next l now
poll_at_next S.Live l now = reply_next l now
poll_at_next S.Ending l now = reply_next l now
poll_at_next S.PeerEnded l now = reply_next l now
poll_at_next S.Confirmed l now = reply_next l now
poll_at_next S.Lost l now = refl

pub poll_next : (l : LinkView) (now : ℕ) → NextOf (poll_link l now).0 l (poll_link l now).1
poll_next l now = poll_at_next l.state l now

-- ---- taking changes nothing of it

take_held_lasts : (l : LinkView) (us : List Unit) → lasting (take_held l us).1 ≡ lasting l
take_held_lasts l [] = refl
take_held_lasts l (u ∷ us) = refl

pub take_lasts : (l : LinkView) → lasting (take_link l).1 ≡ lasting l
take_lasts l = take_held_lasts l l.held

-- ---- all together
pub lasting_laws : LastingLaws
lasting_laws = record { receives = receive_lasts; polls = poll_next; takes = take_lasts }
