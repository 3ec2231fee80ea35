-- How calls change what a link received and what it may send, and what its packets allow.
use Rattle.std.proofs.Common.{ℕ, zero, suc, ◌+◌, ◌<◌, ◌≤◌, ◌≡◌, ◌≢◌, ◌==◌, ◌&&◌, ◌||◌, max, Bool, true, false, cond, nat_le, nat_lt, List, [], ◌∷◌, ◌++◌, length, Option, Some, None, slice_get, refl, ap, ◌∙◌, arith, ltb-true, length-append, length-drop}
use Rattle.std.proofs.lemmas.Bool.{cond_both, and_parts}
use Rattle.ipx_wire.specs.declared.spx.packet.SpxHeader.{SpxHeader}
use Rattle.spx_link.specs.declared.unit.Unit.{Unit}
use Rattle.spx_link.specs.declared.queue.Queued.{Queued}
use Rattle.spx_link.specs.declared.received.Received.{Received}
use Rattle.spx_link.specs.declared.state.State.{State}
use Rattle.spx_link.specs.Limits.{most_sends, end_stream}
use Rattle.spx_link.specs.LinkView.{LinkView, due, free, is_end}
use Rattle.spx_link.specs.Units.{unit_in}
use Rattle.spx_link.specs.Offer.{take_held}
use Rattle.spx_link.specs.Poll.{OutgoingView, lost, requests, requests_or_lost, poll_request, may_probe, most_probes, probes_once, probes_or_lost, poll_probe, acknowledges, poll_ack, late_if_working, sends_again, sends_again_or_lost, poll_late, poll_again, may_send, sends, poll_unit, confirms, poll_confirm, replies, poll_reply, poll_at, poll_link}
use Rattle.spx_link.specs.Receive.{read_numbers, read_system, read_unit, read_packet, is_system, is_own, is_reply, joined_link, receive_at, receive_link, beyond_expected, put, is_taken, leading, any_end, keep_end, keep_units, settle, keep, in_turn, not_behind, repeated, may_confirm, with_ack_owed}
use Rattle.spx_link.specs.declared.received.Received.TheVariants as R
use Rattle.spx_link.specs.declared.state.State.TheVariants as S
use Rattle.spx_theory.specs.Allowances.{SameReceived, AfterPoll, HasTakenAndFits, JoinsBy, Took, AllowanceLaws}

-- ---- a poll

same_link : (l : LinkView) → SameReceived l l
same_link l = record { expected = refl; held = refl; ahead = refl; buffers = refl }

nothing : (l k : LinkView) → SameReceived l k → k.room ≡ l.room → k.next ≡ l.next → AfterPoll l (None, k)
nothing l k same room next = record { same = same; gives = (room, next) }

again_leaves : (l : LinkView) (now k : ℕ) (o : Option Queued) → AfterPoll l (sends_again_or_lost l now k o)
again_leaves l now k None = nothing l l (same_link l) refl refl
again_leaves l now k (Some q) =
    cond_both {A = Option OutgoingView × LinkView} (nat_le most_sends q.count) (None, lost l) (sends_again l now k q) (AfterPoll l)
    (λ y. nothing l (lost l) (record { expected = refl; held = refl; ahead = refl; buffers = refl }) refl refl) (λ n. record { same = record { expected = refl; held = refl; ahead = refl; buffers = refl }; gives = (refl, (refl, refl)) })

sends_leaves : (l : LinkView) (now : ℕ) (o : Option Queued) → 0 < l.room → AfterPoll l (sends l now o)
sends_leaves l now None some = nothing l l (same_link l) refl refl
sends_leaves l now (Some q) some = record { same = record { expected = refl; held = refl; ahead = refl; buffers = refl }; gives = (refl, omega (arith, some)) }

probe_leaves : (l : LinkView) (now : ℕ) → AfterPoll l (poll_probe l now)
probe_leaves l now =
    cond_both {A = Option OutgoingView × LinkView} (may_probe l now) (probes_or_lost l now) (None, l) (AfterPoll l)
    (λ y. cond_both {A = Option OutgoingView × LinkView} (nat_le (most_probes l) l.probes) (None, lost l) (probes_once l now) (AfterPoll l)
    (λ t. nothing l (lost l) (record { expected = refl; held = refl; ahead = refl; buffers = refl }) refl refl) (λ f. record { same = record { expected = refl; held = refl; ahead = refl; buffers = refl }; gives = (refl, (refl, refl)) }))
    (λ n. nothing l l (same_link l) refl refl)

ack_leaves : (l : LinkView) (now : ℕ) → AfterPoll l (poll_ack l now)
ack_leaves l now =
    cond_both {A = Option OutgoingView × LinkView} l.owes_ack (acknowledges l now) (poll_probe l now) (AfterPoll l)
    (λ y. record { same = record { expected = refl; held = refl; ahead = refl; buffers = refl }; gives = (refl, (refl, refl)) }) (λ n. probe_leaves l now)

late_leaves : (l : LinkView) (now : ℕ) (o : Option ℕ) → AfterPoll l (poll_late l now o)
late_leaves l now None = ack_leaves l now
late_leaves l now (Some k) = again_leaves l now k (slice_get l.queue k)

unit_leaves : (l : LinkView) (now : ℕ) → AfterPoll l (poll_unit l now)
unit_leaves l now =
    cond_both {A = Option OutgoingView × LinkView} (may_send l) (sends l now (slice_get l.queue l.out)) (poll_again l now) (AfterPoll l)
    (λ y. sends_leaves l now (slice_get l.queue l.out) (ltb-true _ _ (and_parts _ _ (and_parts _ _ (and_parts _ _ y).1).1).0))
    (λ n. late_leaves l now (late_if_working l now))

reply_leaves : (l : LinkView) (now : ℕ) → AfterPoll l (poll_reply l now)
reply_leaves l now =
    cond_both {A = Option OutgoingView × LinkView} l.owes_reply (replies l now) (poll_confirm l now) (AfterPoll l)
    (λ y. record { same = record { expected = refl; held = refl; ahead = refl; buffers = refl }; gives = (refl, (refl, refl)) })
    (λ n. cond_both {A = Option OutgoingView × LinkView} l.owes_confirm (confirms l now) (poll_unit l now) (AfterPoll l)
    (λ y. record { same = record { expected = refl; held = refl; ahead = refl; buffers = refl }; gives = (refl, (refl, refl)) }) (λ m. unit_leaves l now))

request_leaves : (l : LinkView) (now : ℕ) → AfterPoll l (poll_request l now)
request_leaves l now =
    cond_both {A = Option OutgoingView × LinkView} ((l.asked_count == 0) || due l.asked_at now) (requests_or_lost l now) (None, l) (AfterPoll l)
    (λ y. cond_both {A = Option OutgoingView × LinkView} (nat_le most_sends l.asked_count) (None, lost l) (requests l now) (AfterPoll l)
    (λ t. nothing l (lost l) (record { expected = refl; held = refl; ahead = refl; buffers = refl }) refl refl) (λ f. record { same = record { expected = refl; held = refl; ahead = refl; buffers = refl }; gives = (refl, (refl, refl)) }))
    (λ n. nothing l l (same_link l) refl refl)

leaves_at : (st : State) (l : LinkView) (now : ℕ) → AfterPoll l (poll_at st l now)
leaves_at S.Opening l now = request_leaves l now
leaves_at S.Live l now = reply_leaves l now
leaves_at S.Ending l now = reply_leaves l now
leaves_at S.PeerEnded l now = reply_leaves l now
leaves_at S.Confirmed l now = reply_leaves l now
leaves_at S.Lost l now = nothing l l (same_link l) refl refl

pub leaves : (l : LinkView) (now : ℕ) → AfterPoll l (poll_link l now)
leaves l now = leaves_at l.state l now

-- a lost link gives nothing and stays lost
lost_at : (st : State) (l : LinkView) (now : ℕ) → st ≡ S.Lost → poll_at st l now ≡ (None, l)
lost_at S.Lost l now is = refl
lost_at S.Opening l now is = absurd (cc is)
lost_at S.Live l now is = absurd (cc is)
lost_at S.Ending l now is = absurd (cc is)
lost_at S.PeerEnded l now is = absurd (cc is)
lost_at S.Confirmed l now is = absurd (cc is)

pub lost_polls : (l : LinkView) (now : ℕ) → l.state ≡ S.Lost → poll_link l now ≡ (None, l)
lost_polls l now is = lost_at l.state l now is

lost_reads_at : (st : State) (l : LinkView) (h : SpxHeader) (body : List ℕ) → st ≡ S.Lost → (receive_at st l h body).0 ≡ R.Stranger
lost_reads_at S.Lost l h body is = refl
lost_reads_at S.Opening l h body is = absurd (cc is)
lost_reads_at S.Live l h body is = absurd (cc is)
lost_reads_at S.Ending l h body is = absurd (cc is)
lost_reads_at S.PeerEnded l h body is = absurd (cc is)
lost_reads_at S.Confirmed l h body is = absurd (cc is)

pub lost_reads : (l : LinkView) (h : SpxHeader) (body : List ℕ) → l.state ≡ S.Lost → (receive_link l h body).0 ≡ R.Stranger
lost_reads l h body is = lost_reads_at l.state l h body is

-- ---- what was received: as many were taken

leading_le : (xs : List (Option Unit)) → length (leading xs) ≤ length xs
leading_le [] = omega arith
leading_le (None ∷ xs) = omega arith
leading_le (Some u ∷ xs) = cond_both {A = List Unit} (is_end u) [] (leading xs) (λ us. length (u ∷ us) ≤ length (Some u ∷ xs)) (λ y. omega arith) (λ n. omega (arith, leading_le xs))

put_le : (k : ℕ) (u : Unit) (xs : List (Option Unit)) → length (put k u xs) ≤ max (k + 1) (length xs)
put_le zero u [] = omega arith
put_le zero u (x ∷ xs) = omega arith
put_le (suc k) u [] = omega (arith, put_le k u [])
put_le (suc k) u (x ∷ xs) = omega (arith, put_le k u xs)

abbrev Keeps : LinkView → Received × LinkView → Type 0
Keeps l r = ((taken : ℕ) → HasTakenAndFits taken l → HasTakenAndFits taken r.1) × (r.1.buffers ≡ l.buffers)

keeps_settle : (l : LinkView) (xs : List (Option Unit)) → ((taken : ℕ) → HasTakenAndFits taken l → length l.held + length xs ≤ l.buffers) → Keeps l (settle l xs)
keeps_settle l xs fits =
    let us : List Unit = leading xs in
    let le : length us ≤ length xs = leading_le xs in
    let more : length (l.held ++ us) ≡ length l.held + length us = length-append l.held us in
    cond_both {A = Received × LinkView} (any_end us) (R.PeerEnded, keep_end l us) (R.Kept, keep_units l us xs) (Keeps l)
    (λ y. (λ taken t. record { expected = omega (arith, t.expected, more); fits = omega (arith, more, le, fits taken t) }, refl))
    (λ n. (λ taken t. record { expected = omega (arith, t.expected, more); fits = omega (arith, more, le, fits taken t, length-drop (length us) xs) }, refl))

keeps_keep : (l : LinkView) (h : SpxHeader) (body : List ℕ) → beyond_expected l h < free l → Keeps l (keep l h body)
keeps_keep l h body within =
    cond_both {A = Received × LinkView} (is_taken (beyond_expected l h) l.ahead) (R.Repeat, record l { owes_ack = true }) (settle l (put (beyond_expected l h) (unit_in h body) l.ahead)) (Keeps l)
    (λ y. (λ taken t. record { expected = t.expected; fits = t.fits }, refl))
    (λ n. keeps_settle l (put (beyond_expected l h) (unit_in h body) l.ahead) (λ taken t. omega (arith, within, t.fits, put_le (beyond_expected l h) (unit_in h body) l.ahead)))

keeps_in_turn : (l : LinkView) (h : SpxHeader) (body : List ℕ) → Keeps l (in_turn l h body)
keeps_in_turn l h body =
    cond_both {A = Received × LinkView} (nat_lt (beyond_expected l h) (free l)) (keep l h body) (R.OverAllocation, record l { owes_ack = true }) (Keeps l)
    (λ y. keeps_keep l h body (ltb-true _ _ y)) (λ n. (λ taken t. record { expected = t.expected; fits = t.fits }, refl))

keeps_not_behind : (l : LinkView) (h : SpxHeader) (body : List ℕ) → Keeps l (not_behind l h body)
keeps_not_behind l h body =
    cond_both {A = Received × LinkView} l.peer_ended (R.Ahead, l) (in_turn l h body) (Keeps l) (λ y. (λ taken t. record { expected = t.expected; fits = t.fits }, refl)) (λ n. keeps_in_turn l h body)

keeps_repeated : (l : LinkView) (h : SpxHeader) → Keeps l (R.Repeat, repeated l h)
keeps_repeated l h =
    cond_both {A = LinkView} ((h.stream == end_stream) && l.peer_ended) (record l { owes_confirm = true }) (record l { owes_ack = true }) (λ k. Keeps l (R.Repeat, k))
    (λ y. (λ taken t. record { expected = t.expected; fits = t.fits }, refl)) (λ n. (λ taken t. record { expected = t.expected; fits = t.fits }, refl))

keeps_unit : (l : LinkView) (h : SpxHeader) (body : List ℕ) → Keeps l (read_unit l h body)
keeps_unit l h body =
    cond_both {A = Received × LinkView} (nat_le 32768 (beyond_expected l h)) (R.Repeat, repeated l h) (not_behind l h body) (Keeps l) (λ y. keeps_repeated l h) (λ n. keeps_not_behind l h body)

keeps_system : (l : LinkView) (h : SpxHeader) → Keeps l (read_system l h)
keeps_system l h =
    cond_both {A = Received × LinkView} (may_confirm l h) (R.Confirmed, record (with_ack_owed l h.wants_ack) { state = S.Confirmed }) (R.System, with_ack_owed l h.wants_ack) (Keeps l)
    (λ y. (λ taken t. record { expected = t.expected; fits = t.fits }, refl)) (λ n. (λ taken t. record { expected = t.expected; fits = t.fits }, refl))

keeps_packet : (l : LinkView) (h : SpxHeader) (body : List ℕ) → Keeps l (read_packet l h body)
keeps_packet l h body =
    let m : LinkView = read_numbers l h in
    let one : Keeps m (cond {A = Received × LinkView} (is_system h) (read_system m h) (read_unit m h body)) =
    cond_both {A = Received × LinkView} (is_system h) (read_system m h) (read_unit m h body) (Keeps m) (λ y. keeps_system m h) (λ n. keeps_unit m h body) in
    (λ taken t. one.0 taken (record { expected = t.expected; fits = t.fits }), one.1)

keeps_own : (b : Bool) (l : LinkView) (x : Received × LinkView) → Keeps l x → Keeps l (cond b x (R.Stranger, l))
keeps_own true l x k = k
keeps_own false l x k = (λ taken t. record { expected = t.expected; fits = t.fits }, refl)

keeps_reply : (b : Bool) (l : LinkView) (h : SpxHeader) → Keeps l (cond b (R.Joined, read_numbers (joined_link l h) h) (R.Stranger, l))
keeps_reply true l h = (λ taken t. record { expected = t.expected; fits = t.fits }, refl)
keeps_reply false l h = (λ taken t. record { expected = t.expected; fits = t.fits }, refl)

keeps_at : (st : State) (l : LinkView) (h : SpxHeader) (body : List ℕ) → Keeps l (receive_at st l h body)
keeps_at S.Opening l h body = keeps_reply (is_reply l h) l h
keeps_at S.Live l h body = keeps_own (is_own l h) l (read_packet l h body) (keeps_packet l h body)
keeps_at S.Ending l h body = keeps_own (is_own l h) l (read_packet l h body) (keeps_packet l h body)
keeps_at S.PeerEnded l h body = keeps_own (is_own l h) l (read_packet l h body) (keeps_packet l h body)
keeps_at S.Confirmed l h body = keeps_own (is_own l h) l (read_packet l h body) (keeps_packet l h body)
keeps_at S.Lost l h body = (λ taken t. record { expected = t.expected; fits = t.fits }, refl)

pub receives_kept : (l : LinkView) (h : SpxHeader) (body : List ℕ) (taken : ℕ) → HasTakenAndFits taken l → HasTakenAndFits taken (receive_link l h body).1
receives_kept l h body taken t = (keeps_at l.state l h body).0 taken t

pub receives_buffers : (l : LinkView) (h : SpxHeader) (body : List ℕ) → (receive_link l h body).1.buffers ≡ l.buffers
receives_buffers l h body = (keeps_at l.state l h body).1

-- ---- what an opening link reads

joins_at : (st : State) (b : Bool) (l : LinkView) (h : SpxHeader) (body : List ℕ) → is_reply l h ≡ b → st ≡ S.Opening → (cond {A = Received × LinkView} b (R.Joined, read_numbers (joined_link l h) h) (R.Stranger, l)).0 ≢ R.Stranger
    → JoinsBy l h (cond {A = Received × LinkView} b (R.Joined, read_numbers (joined_link l h) h) (R.Stranger, l)).1
joins_at st true l h body is opens read = record { same = record { expected = refl; held = refl; ahead = refl; buffers = refl }; room = refl; next = refl; live = refl }
joins_at st false l h body is opens read = absurd (read refl)

opening_at : (st : State) (l : LinkView) (h : SpxHeader) (body : List ℕ) → st ≡ S.Opening → (receive_at st l h body).0 ≢ R.Stranger → JoinsBy l h (receive_at st l h body).1
opening_at S.Opening l h body is read = joins_at S.Opening (is_reply l h) l h body refl refl read
opening_at S.Live l h body is read = absurd (cc is)
opening_at S.Ending l h body is read = absurd (cc is)
opening_at S.PeerEnded l h body is read = absurd (cc is)
opening_at S.Confirmed l h body is read = absurd (cc is)
opening_at S.Lost l h body is read = absurd (cc is)

pub opening_joins : (l : LinkView) (h : SpxHeader) (body : List ℕ) → l.state ≡ S.Opening → (receive_link l h body).0 ≢ R.Stranger → JoinsBy l h (receive_link l h body).1
opening_joins l h body is read = opening_at l.state l h body is read

-- ---- a unit is taken

pub takes_one : (l : LinkView) (us : List Unit) (u : Unit) → l.held ≡ us → (take_held l us).0 ≡ Some u → Took l u (take_held l us).1
takes_one l [] u is gives = absurd (cc gives)
takes_one l (v ∷ us) u is gives =
    let same : v ≡ u = cc gives in
    record { held = is ∙ ap (λ w. w ∷ us) same; expected = refl; ahead = refl; buffers = refl; state = refl }

-- ---- all together
pub allowance_laws : AllowanceLaws
allowance_laws =
    record {
      polls = leaves;
      receives = receives_kept;
      buffers = receives_buffers;
      joins = opening_joins;
      takes = λ l u gives. takes_one l l.held u refl gives;
      lost_polls = lost_polls;
      lost_reads = lost_reads;
    }
