-- The names of a link: its calls keep them, and its packets carry them.
use Rattle.std.proofs.Common.{ℕ, ◌+◌, ◌≡◌, ◌≢◌, ◌<◌, ◌==◌, ◌&&◌, ◌||◌, Bool, true, false, cond, nat_le, nat_lt, List, [], ◌∷◌, Option, Some, None, refl, subst, inl, inr, arith}
use Rattle.std.proofs.lemmas.Bool.{cond_both}
use Rattle.std.proofs.lemmas.Bool.Decides.{nat_tests}
use Rattle.std.specs.Prelude.{slice_get, not}
use Rattle.ipx_wire.specs.declared.spx.packet.SpxHeader.{SpxHeader}
use Rattle.spx_link.specs.declared.unit.Unit.{Unit}
use Rattle.spx_link.specs.declared.queue.Queued.{Queued}
use Rattle.spx_link.specs.declared.outgoing.Sent.{Sent}
use Rattle.spx_link.specs.declared.state.State.{State}
use Rattle.spx_link.specs.declared.received.Received.{Received}
use Rattle.spx_link.specs.Limits.{most_sends, end_stream, no_id, confirm_stream}
use Rattle.spx_link.specs.LinkView.{LinkView, free, due}
use Rattle.spx_link.specs.Units.{unit_in}
use Rattle.spx_link.specs.SequenceMarks.{mark}
use Rattle.spx_link.specs.Offer.{take_held}
use Rattle.spx_link.specs.Receive.{read_numbers, read_system, read_unit, read_packet, is_system, is_own, is_reply, joined_link, receive_at, receive_link, beyond_expected, put, is_taken, leading, any_end, keep_end, keep_units, settle, keep, in_turn, not_behind, repeated, may_confirm, with_ack_owed}
use Rattle.spx_link.specs.Poll.{OutgoingView, plain, with_unit, base, lost, requests, requests_or_lost, poll_request, may_probe, most_probes, probes_once, probes_or_lost, poll_probe, acknowledges, poll_ack, late_if_working, sends_again, sends_again_or_lost, poll_late, poll_again, may_send, sends, poll_unit, confirms, poll_confirm, replies, poll_reply, poll_at, poll_link}
use Rattle.spx_theory.proofs.ReadingStates.{reading_at}
use Rattle.spx_link.specs.declared.outgoing.Sent.TheVariants as Sents
use Rattle.spx_link.specs.declared.state.State.TheVariants as S
use Rattle.spx_link.specs.declared.received.Received.TheVariants as R
use Rattle.spx_theory.specs.Names.{names, IsForLink, IsReply, ReadNames, is_plain, GaveNames, PollNames, NameLaws}

-- ---- the tests of a header
pub and_left : (a b : Bool) → (a && b) ≡ true → a ≡ true
and_left true b e = refl
and_left false b e = absurd (cc e)

pub and_right : (a b : Bool) → (a && b) ≡ true → b ≡ true
and_right true b e = e
and_right false b e = absurd (cc e)

eqb_is : (a b : ℕ) → (a == b) ≡ true → a ≡ b
eqb_is a b e = grind (arith, nat_tests)

ltb_is : (a b : ℕ) → nat_lt a b ≡ true → a < b
ltb_is a b e = grind (arith, nat_tests)

own_is : (l : LinkView) (h : SpxHeader) → is_own l h ≡ true → IsForLink (names l) h
own_is l h e =
    record {
      to = eqb_is h.to_id l.own (and_left (h.to_id == l.own) (h.from_id == l.peer) e);
      from = eqb_is h.from_id l.peer (and_right (h.to_id == l.own) (h.from_id == l.peer) e);
    }

reply_is : (l : LinkView) (h : SpxHeader) → is_reply l h ≡ true → IsReply (names l) h
reply_is l h e =
    let ids : Bool = nat_lt 0 h.from_id && nat_lt h.from_id no_id in
    let rest : Bool = (h.to_id == l.own) && ids in
    let quiet : Bool = not h.wants_ack && rest in
    let b : rest ≡ true = and_right (not h.wants_ack) rest (and_right (h.stream == 0) quiet (and_right h.system ((h.stream == 0) && quiet) e)) in
    record {
      system = and_left h.system ((h.stream == 0) && quiet) e;
      to = eqb_is h.to_id l.own (and_left (h.to_id == l.own) ids b);
      from = ltb_is h.from_id no_id (and_right (nat_lt 0 h.from_id) (nat_lt h.from_id no_id) (and_right (h.to_id == l.own) ids b));
    }

-- ---- receiving
abbrev pub Keeps : LinkView → Received × LinkView → Type 0
Keeps l r = names r.1 ≡ names l

keeps_settle : (l : LinkView) (ahead : List (Option Unit)) → Keeps l (settle l ahead)
keeps_settle l ahead =
    cond_both {A = Received × LinkView} (any_end (leading ahead)) (R.PeerEnded, keep_end l (leading ahead)) (R.Kept, keep_units l (leading ahead) ahead) (Keeps l) (λ yes. refl) (λ no. refl)

keeps_keep : (l : LinkView) (h : SpxHeader) (body : List ℕ) → Keeps l (keep l h body)
keeps_keep l h body =
    cond_both {A = Received × LinkView} (is_taken (beyond_expected l h) l.ahead) (R.Repeat, record l { owes_ack = true }) (settle l (put (beyond_expected l h) (unit_in h body) l.ahead)) (Keeps l)
    (λ yes. refl) (λ no. keeps_settle l (put (beyond_expected l h) (unit_in h body) l.ahead))

keeps_in_turn : (l : LinkView) (h : SpxHeader) (body : List ℕ) → Keeps l (in_turn l h body)
keeps_in_turn l h body =
    cond_both {A = Received × LinkView} (nat_lt (beyond_expected l h) (free l)) (keep l h body) (R.OverAllocation, record l { owes_ack = true }) (Keeps l) (λ yes. keeps_keep l h body) (λ no. refl)

keeps_not_behind : (l : LinkView) (h : SpxHeader) (body : List ℕ) → Keeps l (not_behind l h body)
keeps_not_behind l h body = cond_both {A = Received × LinkView} l.peer_ended (R.Ahead, l) (in_turn l h body) (Keeps l) (λ yes. refl) (λ no. keeps_in_turn l h body)

keeps_repeated : (l : LinkView) (h : SpxHeader) → Keeps l (R.Repeat, repeated l h)
keeps_repeated l h =
    cond_both {A = LinkView} ((h.stream == end_stream) && l.peer_ended) (record l { owes_confirm = true }) (record l { owes_ack = true }) (λ k. Keeps l (R.Repeat, k)) (λ yes. refl) (λ no. refl)

keeps_unit : (l : LinkView) (h : SpxHeader) (body : List ℕ) → Keeps l (read_unit l h body)
keeps_unit l h body =
    cond_both {A = Received × LinkView} (nat_le 32768 (beyond_expected l h)) (R.Repeat, repeated l h) (not_behind l h body) (Keeps l) (λ yes. keeps_repeated l h) (λ no. keeps_not_behind l h body)

keeps_system : (l : LinkView) (h : SpxHeader) → Keeps l (read_system l h)
keeps_system l h =
    cond_both {A = Received × LinkView} (may_confirm l h) (R.Confirmed, record (with_ack_owed l h.wants_ack) { state = S.Confirmed }) (R.System, with_ack_owed l h.wants_ack) (Keeps l) (λ yes. refl) (λ no. refl)

keeps_packet : (l : LinkView) (h : SpxHeader) (body : List ℕ) → Keeps l (read_packet l h body)
keeps_packet l h body =
    let m : LinkView = read_numbers l h in
    cond_both {A = Received × LinkView} (is_system h) (read_system m h) (read_unit m h body) (Keeps l) (λ yes. keeps_system m h) (λ no. keeps_unit m h body)

own_names : (b : Bool) (l : LinkView) (h : SpxHeader) (x : Received × LinkView) → is_own l h ≡ b → Keeps l x → (cond b x (R.Stranger, l)).0 ≢ R.Joined → ReadNames l h (cond b x (R.Stranger, l))
own_names true l h x own keeps never = record { joins = λ e. absurd (never e); reads = λ not_joined read. (own_is l h own, keeps) }
own_names false l h x own keeps never = record { joins = λ e. absurd (never e); reads = λ not_joined read. absurd (read refl) }

reply_names : (b : Bool) (l : LinkView) (h : SpxHeader) → is_reply l h ≡ b → ReadNames l h (cond b (R.Joined, read_numbers (joined_link l h) h) (R.Stranger, l))
reply_names true l h reply = record { joins = λ e. (reply_is l h reply, refl); reads = λ not_joined read. absurd (not_joined refl) }
reply_names false l h reply = record { joins = λ e. absurd (cc e); reads = λ not_joined read. absurd (read refl) }

names_at : (s : State) (l : LinkView) (h : SpxHeader) (body : List ℕ) → ReadNames l h (receive_at s l h body)
names_at S.Opening l h body = reply_names (is_reply l h) l h refl
names_at S.Live l h body = own_names (is_own l h) l h (read_packet l h body) refl (keeps_packet l h body) (λ e. absurd (cc ((reading_at S.Live l h body).joins e)))
names_at S.Ending l h body = own_names (is_own l h) l h (read_packet l h body) refl (keeps_packet l h body) (λ e. absurd (cc ((reading_at S.Ending l h body).joins e)))
names_at S.PeerEnded l h body = own_names (is_own l h) l h (read_packet l h body) refl (keeps_packet l h body) (λ e. absurd (cc ((reading_at S.PeerEnded l h body).joins e)))
names_at S.Confirmed l h body = own_names (is_own l h) l h (read_packet l h body) refl (keeps_packet l h body) (λ e. absurd (cc ((reading_at S.Confirmed l h body).joins e)))
names_at S.Lost l h body = record { joins = λ e. absurd (cc e); reads = λ not_joined read. absurd (read refl) }

pub read_names : (l : LinkView) (h : SpxHeader) (body : List ℕ) → ReadNames l h (receive_link l h body)
read_names l h body = names_at l.state l h body

-- ---- polling

none_names : (st : State) (l k : LinkView) → names k ≡ names l → PollNames st l (None, k)
none_names st l k keeps = record { keeps = keeps; gave = λ g is. absurd (cc is) }

some_names : (st : State) (l k : LinkView) (g : OutgoingView) → names k ≡ names l → GaveNames st l g → PollNames st l (Some g, k)
some_names st l k g keeps gave = record { keeps = keeps; gave = λ o is. let same : g ≡ o = cc is in subst (GaveNames st l) same gave }

plain_names : (st : State) (l k : LinkView) (what : Sent) (wants : Bool) (stream : ℕ) → names k ≡ names l → is_plain what ≡ true → PollNames st l (Some (plain l what wants stream l.peer), k)
plain_names st l k what wants stream keeps is = some_names st l k (plain l what wants stream l.peer) keeps (record { from = refl; to = inl refl; system = λ e. is })

unit_names : (st : State) (l k : LinkView) (what : Sent) (u : Unit) (seq : ℕ) → names k ≡ names l → PollNames st l (Some (with_unit l what u seq), k)
unit_names st l k what u seq keeps = some_names st l k (with_unit l what u seq) keeps (record { from = refl; to = inl refl; system = λ e. absurd (cc e) })

again_names : (st : State) (l : LinkView) (now k : ℕ) (o : Option Queued) → PollNames st l (sends_again_or_lost l now k o)
again_names st l now k None = none_names st l l refl
again_names st l now k (Some q) =
    cond_both {A = Option OutgoingView × LinkView} (nat_le most_sends q.count) (None, lost l) (sends_again l now k q) (PollNames st l)
    (λ y. none_names st l (lost l) refl) (λ n. unit_names st l _ Sents.Again q.unit (mark (base l + k)) refl)

sends_names : (st : State) (l : LinkView) (now : ℕ) (o : Option Queued) → PollNames st l (sends l now o)
sends_names st l now None = none_names st l l refl
sends_names st l now (Some q) = unit_names st l _ Sents.Unit q.unit l.next refl

probe_names : (st : State) (l : LinkView) (now : ℕ) → PollNames st l (poll_probe l now)
probe_names st l now =
    cond_both {A = Option OutgoingView × LinkView} (may_probe l now) (probes_or_lost l now) (None, l) (PollNames st l)
    (λ y. cond_both {A = Option OutgoingView × LinkView} (nat_le (most_probes l) l.probes) (None, lost l) (probes_once l now) (PollNames st l)
    (λ t. none_names st l (lost l) refl) (λ f. plain_names st l _ Sents.Probe true 0 refl refl))
    (λ n. none_names st l l refl)

ack_names : (st : State) (l : LinkView) (now : ℕ) → PollNames st l (poll_ack l now)
ack_names st l now =
    cond_both {A = Option OutgoingView × LinkView} l.owes_ack (acknowledges l now) (poll_probe l now) (PollNames st l) (λ y. plain_names st l _ Sents.Ack false 0 refl refl) (λ n. probe_names st l now)

late_names : (st : State) (l : LinkView) (now : ℕ) (o : Option ℕ) → PollNames st l (poll_late l now o)
late_names st l now None = ack_names st l now
late_names st l now (Some k) = again_names st l now k (slice_get l.queue k)

next_names : (st : State) (l : LinkView) (now : ℕ) → PollNames st l (poll_unit l now)
next_names st l now =
    cond_both {A = Option OutgoingView × LinkView} (may_send l) (sends l now (slice_get l.queue l.out)) (poll_again l now) (PollNames st l)
    (λ y. sends_names st l now (slice_get l.queue l.out)) (λ n. late_names st l now (late_if_working l now))

replies_names : (st : State) (l : LinkView) (now : ℕ) → PollNames st l (poll_reply l now)
replies_names st l now =
    cond_both {A = Option OutgoingView × LinkView} l.owes_reply (replies l now) (poll_confirm l now) (PollNames st l) (λ y. plain_names st l _ Sents.Reply false 0 refl refl)
    (λ n. cond_both {A = Option OutgoingView × LinkView} l.owes_confirm (confirms l now) (poll_unit l now) (PollNames st l)
    (λ y. plain_names st l _ Sents.Confirm false confirm_stream refl refl) (λ m. next_names st l now))

request_names : (l : LinkView) (now : ℕ) → PollNames S.Opening l (poll_request l now)
request_names l now =
    cond_both {A = Option OutgoingView × LinkView} ((l.asked_count == 0) || due l.asked_at now) (requests_or_lost l now) (None, l) (PollNames S.Opening l)
    (λ y. cond_both {A = Option OutgoingView × LinkView} (nat_le most_sends l.asked_count) (None, lost l) (requests l now) (PollNames S.Opening l)
    (λ t. none_names S.Opening l (lost l) refl)
    (λ f. some_names S.Opening l _ (plain l Sents.Request true 0 no_id) refl (record { from = refl; to = inr (refl, refl); system = λ e. refl })))
    (λ n. none_names S.Opening l l refl)

polls_at : (st : State) (l : LinkView) (now : ℕ) → PollNames st l (poll_at st l now)
polls_at S.Opening l now = request_names l now
polls_at S.Live l now = replies_names S.Live l now
polls_at S.Ending l now = replies_names S.Ending l now
polls_at S.PeerEnded l now = replies_names S.PeerEnded l now
polls_at S.Confirmed l now = replies_names S.Confirmed l now
polls_at S.Lost l now = none_names S.Lost l l refl

pub poll_names : (l : LinkView) (now : ℕ) → PollNames l.state l (poll_link l now)
poll_names l now = polls_at l.state l now

-- ---- taking
pub take_names : (l : LinkView) (us : List Unit) → names (take_held l us).1 ≡ names l
take_names l [] = refl
take_names l (u ∷ us) = refl

-- ---- all together
pub name_laws : NameLaws
name_laws = record { reads = read_names; polls = poll_names; takes = λ l. take_names l l.held }
