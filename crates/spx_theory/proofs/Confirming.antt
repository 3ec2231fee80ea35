-- How the calls of a link change its end, its queue and what it holds: a confirmed link has queued its end,
-- and its queue is empty.
use Rattle.std.proofs.Common.{ℕ, ◌≡◌, ◌≢◌, ◌==◌, ◌&&◌, ◌||◌, not, Bool, true, false, cond, nat_le, nat_lt, List, [], ◌∷◌, length, drop, Option, Some, None, slice_get, refl, ◌∙◌, inl, inr, arith, eqb-true, length-drop, length-set}
use Rattle.std.proofs.lemmas.Bool.{cond_both, and_parts}
use Rattle.ipx_wire.specs.declared.spx.packet.SpxHeader.{SpxHeader}
use Rattle.spx_link.specs.declared.unit.Unit.{Unit}
use Rattle.spx_link.specs.declared.queue.Queued.{Queued}
use Rattle.spx_link.specs.declared.state.State.{State}
use Rattle.spx_link.specs.declared.received.Received.{Received}
use Rattle.spx_link.specs.Limits.{end_stream, confirm_stream, most_sends}
use Rattle.spx_link.specs.LinkView.{LinkView, free, due, is_confirmed}
use Rattle.spx_link.specs.Units.{unit_in}
use Rattle.spx_link.specs.SequenceMarks.{acknowledged}
use Rattle.spx_link.specs.Offer.{take_held}
use Rattle.spx_link.specs.Receive.{read_numbers, read_system, read_unit, read_packet, is_system, is_own, is_reply, joined_link, receive_at, receive_link, beyond_expected, put, is_taken, leading, any_end, keep_end, keep_units, settle, keep, in_turn, not_behind, repeated, may_confirm, with_ack_owed, after_end}
use Rattle.spx_link.specs.Poll.{OutgoingView, lost, requests, requests_or_lost, poll_request, may_probe, most_probes, probes_once, probes_or_lost, poll_probe, acknowledges, poll_ack, late_if_working, sends_again, sends_again_or_lost, poll_late, poll_again, may_send, sends, poll_unit, confirms, poll_confirm, replies, poll_reply, poll_at, poll_link}
use Rattle.spx_link.specs.declared.state.State.TheVariants as S
use Rattle.spx_link.specs.declared.received.Received.TheVariants as R
use Rattle.spx_theory.specs.Confirmed.{PollLeaves, ReadLeaves, TakeLeaves, CloseLaws}

-- ---- the link after a poll

abbrev pub StaysAfter : LinkView → Option OutgoingView × LinkView → Type 0
StaysAfter l r = PollLeaves l r.1

again_stays : (l : LinkView) (now k : ℕ) (o : Option Queued) → StaysAfter l (sends_again_or_lost l now k o)
again_stays l now k None = record { held = refl; queued = refl; queue = refl; state = inl refl }
again_stays l now k (Some q) =
    cond_both {A = Option OutgoingView × LinkView} (nat_le most_sends q.count) (None, lost l) (sends_again l now k q) (StaysAfter l)
    (λ y. record { held = refl; queued = refl; queue = refl; state = inr refl })
    (λ n. record { held = refl; queued = refl; queue = length-set l.queue k _; state = inl refl })

sends_stays : (l : LinkView) (now : ℕ) (o : Option Queued) → StaysAfter l (sends l now o)
sends_stays l now None = record { held = refl; queued = refl; queue = refl; state = inl refl }
sends_stays l now (Some q) = record { held = refl; queued = refl; queue = length-set l.queue l.out _; state = inl refl }

probe_stays : (l : LinkView) (now : ℕ) → StaysAfter l (poll_probe l now)
probe_stays l now =
    cond_both {A = Option OutgoingView × LinkView} (may_probe l now) (probes_or_lost l now) (None, l) (StaysAfter l)
    (λ y. cond_both {A = Option OutgoingView × LinkView} (nat_le (most_probes l) l.probes) (None, lost l) (probes_once l now) (StaysAfter l)
    (λ t. record { held = refl; queued = refl; queue = refl; state = inr refl }) (λ f. record { held = refl; queued = refl; queue = refl; state = inl refl }))
    (λ n. record { held = refl; queued = refl; queue = refl; state = inl refl })

ack_stays : (l : LinkView) (now : ℕ) → StaysAfter l (poll_ack l now)
ack_stays l now =
    cond_both {A = Option OutgoingView × LinkView} l.owes_ack (acknowledges l now) (poll_probe l now) (StaysAfter l)
    (λ y. record { held = refl; queued = refl; queue = refl; state = inl refl }) (λ n. probe_stays l now)

late_stays : (l : LinkView) (now : ℕ) (o : Option ℕ) → StaysAfter l (poll_late l now o)
late_stays l now None = ack_stays l now
late_stays l now (Some k) = again_stays l now k (slice_get l.queue k)

unit_stays : (l : LinkView) (now : ℕ) → StaysAfter l (poll_unit l now)
unit_stays l now =
    cond_both {A = Option OutgoingView × LinkView} (may_send l) (sends l now (slice_get l.queue l.out)) (poll_again l now) (StaysAfter l)
    (λ y. sends_stays l now (slice_get l.queue l.out)) (λ n. late_stays l now (late_if_working l now))

reply_stays : (l : LinkView) (now : ℕ) → StaysAfter l (poll_reply l now)
reply_stays l now =
    cond_both {A = Option OutgoingView × LinkView} l.owes_reply (replies l now) (poll_confirm l now) (StaysAfter l)
    (λ y. record { held = refl; queued = refl; queue = refl; state = inl refl })
    (λ n. cond_both {A = Option OutgoingView × LinkView} l.owes_confirm (confirms l now) (poll_unit l now) (StaysAfter l)
    (λ y. record { held = refl; queued = refl; queue = refl; state = inl refl }) (λ m. unit_stays l now))

request_stays : (l : LinkView) (now : ℕ) → StaysAfter l (poll_request l now)
request_stays l now =
    cond_both {A = Option OutgoingView × LinkView} ((l.asked_count == 0) || due l.asked_at now) (requests_or_lost l now) (None, l) (StaysAfter l)
    (λ y. cond_both {A = Option OutgoingView × LinkView} (nat_le most_sends l.asked_count) (None, lost l) (requests l now) (StaysAfter l)
    (λ t. record { held = refl; queued = refl; queue = refl; state = inr refl }) (λ f. record { held = refl; queued = refl; queue = refl; state = inl refl }))
    (λ n. record { held = refl; queued = refl; queue = refl; state = inl refl })

stays_at : (st : State) (l : LinkView) (now : ℕ) → StaysAfter l (poll_at st l now)
stays_at S.Opening l now = request_stays l now
stays_at S.Live l now = reply_stays l now
stays_at S.Ending l now = reply_stays l now
stays_at S.PeerEnded l now = reply_stays l now
stays_at S.Confirmed l now = reply_stays l now
stays_at S.Lost l now = record { held = refl; queued = refl; queue = refl; state = inl refl }

pub poll_stays : (l : LinkView) (now : ℕ) → PollLeaves l (poll_link l now).1
poll_stays l now = stays_at l.state l now

-- ---- the link after a read

goes : (l k : LinkView) (r : Received) → r ≢ R.Joined → k.end_queued ≡ l.end_queued → (length l.queue ≡ 0 → length k.queue ≡ 0) → (k.state ≡ S.Confirmed → l.state ≡ S.Confirmed) → ReadLeaves l (r, k)
goes l k r other queued queue state =
    record { queued = queued; right = λ was is. let done = was (state is) in (queued ∙ done.0, queue done.1); joins = λ e. absurd (other e) }

after_confirmed : (s : State) → after_end s ≡ S.Confirmed → s ≡ S.Confirmed
after_confirmed S.Opening e = absurd (cc e)
after_confirmed S.Live e = absurd (cc e)
after_confirmed S.Ending e = absurd (cc e)
after_confirmed S.PeerEnded e = absurd (cc e)
after_confirmed S.Confirmed e = refl
after_confirmed S.Lost e = absurd (cc e)

settle_goes : (l : LinkView) (ahead : List (Option Unit)) → ReadLeaves l (settle l ahead)
settle_goes l ahead =
    cond_both {A = Received × LinkView} (any_end (leading ahead)) (R.PeerEnded, keep_end l (leading ahead)) (R.Kept, keep_units l (leading ahead) ahead) (ReadLeaves l)
    (λ yes. goes l _ R.PeerEnded (λ e. cc) refl (λ e. e) (after_confirmed l.state))
    (λ no. goes l _ R.Kept (λ e. cc) refl (λ e. e) (λ e. e))

keep_goes : (l : LinkView) (h : SpxHeader) (body : List ℕ) → ReadLeaves l (keep l h body)
keep_goes l h body =
    cond_both {A = Received × LinkView} (is_taken (beyond_expected l h) l.ahead) (R.Repeat, record l { owes_ack = true }) (settle l (put (beyond_expected l h) (unit_in h body) l.ahead)) (ReadLeaves l)
    (λ yes. goes l _ R.Repeat (λ e. cc) refl (λ e. e) (λ e. e)) (λ no. settle_goes l (put (beyond_expected l h) (unit_in h body) l.ahead))

in_turn_goes : (l : LinkView) (h : SpxHeader) (body : List ℕ) → ReadLeaves l (in_turn l h body)
in_turn_goes l h body =
    cond_both {A = Received × LinkView} (nat_lt (beyond_expected l h) (free l)) (keep l h body) (R.OverAllocation, record l { owes_ack = true }) (ReadLeaves l)
    (λ yes. keep_goes l h body) (λ no. goes l _ R.OverAllocation (λ e. cc) refl (λ e. e) (λ e. e))

not_behind_goes : (l : LinkView) (h : SpxHeader) (body : List ℕ) → ReadLeaves l (not_behind l h body)
not_behind_goes l h body =
    cond_both {A = Received × LinkView} l.peer_ended (R.Ahead, l) (in_turn l h body) (ReadLeaves l)
    (λ yes. goes l l R.Ahead (λ e. cc) refl (λ e. e) (λ e. e)) (λ no. in_turn_goes l h body)

repeated_goes : (l : LinkView) (h : SpxHeader) → ReadLeaves l (R.Repeat, repeated l h)
repeated_goes l h =
    cond_both {A = LinkView} ((h.stream == end_stream) && l.peer_ended) (record l { owes_confirm = true }) (record l { owes_ack = true }) (λ k. ReadLeaves l (R.Repeat, k))
    (λ yes. goes l _ R.Repeat (λ e. cc) refl (λ e. e) (λ e. e)) (λ no. goes l _ R.Repeat (λ e. cc) refl (λ e. e) (λ e. e))

unit_goes : (l : LinkView) (h : SpxHeader) (body : List ℕ) → ReadLeaves l (read_unit l h body)
unit_goes l h body =
    cond_both {A = Received × LinkView} (nat_le 32768 (beyond_expected l h)) (R.Repeat, repeated l h) (not_behind l h body) (ReadLeaves l)
    (λ yes. repeated_goes l h) (λ no. not_behind_goes l h body)

system_goes : (l : LinkView) (h : SpxHeader) → ReadLeaves l (read_system l h)
system_goes l h =
    cond_both {A = Received × LinkView} (may_confirm l h) (R.Confirmed, record (with_ack_owed l h.wants_ack) { state = S.Confirmed }) (R.System, with_ack_owed l h.wants_ack) (ReadLeaves l)
    (λ yes.
    let ended = and_parts (h.stream == confirm_stream) (l.end_queued && ((length l.queue == 0) && not (is_confirmed l.state))) yes in
    let queue = and_parts l.end_queued ((length l.queue == 0) && not (is_confirmed l.state)) ended.1 in
    let none = and_parts (length l.queue == 0) (not (is_confirmed l.state)) queue.1 in
    record { queued = refl; right = λ was is. (queue.0, eqb-true _ _ none.0); joins = λ e. absurd (cc e) })
    (λ no. goes l _ R.System (λ e. cc) refl (λ e. e) (λ e. e))

-- fewer remain queued
none_left : (k : ℕ) (xs : List Queued) → length xs ≡ 0 → length (drop k xs) ≡ 0
none_left k xs e = omega (arith, length-drop k xs, e)

packet_goes : (l : LinkView) (h : SpxHeader) (body : List ℕ) → ReadLeaves l (read_packet l h body)
packet_goes l h body =
    let m : LinkView = read_numbers l h in
    let one : ReadLeaves m (cond {A = Received × LinkView} (is_system h) (read_system m h) (read_unit m h body)) =
    cond_both {A = Received × LinkView} (is_system h) (read_system m h) (read_unit m h body) (ReadLeaves m) (λ yes. system_goes m h) (λ no. unit_goes m h body) in
    record {
      queued = one.queued;
      right = λ was. one.right (λ is. let done = was is in (done.0, none_left (acknowledged l.next l.out h.ack) l.queue done.1));
      joins = one.joins;
    }

own_goes : (b : Bool) (l : LinkView) (x : Received × LinkView) → ReadLeaves l x → ReadLeaves l (cond b x (R.Stranger, l))
own_goes true l x g = g
own_goes false l x g = goes l l R.Stranger (λ e. cc) refl (λ e. e) (λ e. e)

reply_goes : (b : Bool) (l : LinkView) (h : SpxHeader) → ReadLeaves l (cond b (R.Joined, read_numbers (joined_link l h) h) (R.Stranger, l))
reply_goes true l h = record { queued = refl; right = λ was is. absurd (cc is); joins = λ e. (refl, refl) }
reply_goes false l h = goes l l R.Stranger (λ e. cc) refl (λ e. e) (λ e. e)

goes_at : (s : State) (l : LinkView) (h : SpxHeader) (body : List ℕ) → ReadLeaves l (receive_at s l h body)
goes_at S.Opening l h body = reply_goes (is_reply l h) l h
goes_at S.Live l h body = own_goes (is_own l h) l (read_packet l h body) (packet_goes l h body)
goes_at S.Ending l h body = own_goes (is_own l h) l (read_packet l h body) (packet_goes l h body)
goes_at S.PeerEnded l h body = own_goes (is_own l h) l (read_packet l h body) (packet_goes l h body)
goes_at S.Confirmed l h body = own_goes (is_own l h) l (read_packet l h body) (packet_goes l h body)
goes_at S.Lost l h body = goes l l R.Stranger (λ e. cc) refl (λ e. e) (λ e. e)

pub receive_goes : (l : LinkView) (h : SpxHeader) (body : List ℕ) → ReadLeaves l (receive_link l h body)
receive_goes l h body = goes_at l.state l h body

-- ---- the link after a take

pub take_leaves : (l : LinkView) (us : List Unit) → TakeLeaves l (take_held l us)
take_leaves l [] = record { queued = refl; queue = refl; state = refl }
take_leaves l (u ∷ us) = record { queued = refl; queue = refl; state = refl }

-- a link that holds nothing gives nothing
pub take_none : (l : LinkView) (us : List Unit) (u : Unit) → (take_held l us).0 ≡ Some u → us ≢ []
take_none l [] u gives e = absurd (cc gives)
take_none l (v ∷ us) u gives e = absurd (cc e)

-- ---- all together
pub close_laws : CloseLaws
close_laws =
    record {
      polls = poll_stays;
      receives = receive_goes;
      takes = λ l. take_leaves l l.held;
      takes_held = λ l u gives. take_none l l.held u gives;
    }
