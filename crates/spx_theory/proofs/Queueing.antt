-- How each call of a link changes the units that it has to send.
use Rattle.std.proofs.Common.{ℕ, ◌+◌, ◌<◌, ◌≤◌, ◌≡◌, ◌⊎◌, ◌==◌, Bool, true, false, cond, not, ◌&&◌, ◌||◌, nat_le, nat_lt, List, [], ◌∷◌, ◌++◌, Option, Some, None, slice_get, length, map, drop, option_map, arith, refl, sym, ap, ◌∙◌, subst, ltb-true, eqb-true, ne_eqb, length-append, inl, inr}
use Rattle.std.proofs.lemmas.Bool.{cond_both, and_parts}
use Rattle.std.proofs.lemmas.List.{map-append, drop-append-le, drop-drop, drop-map}
use Rattle.std.proofs.lemmas.Option.{slice_get_within, slice_get-map}
use Rattle.ipx_wire.specs.declared.address.Socket.{Socket}
use Rattle.ipx_wire.specs.declared.address.Address.{Address}
use Rattle.ipx_wire.specs.declared.spx.packet.SpxHeader.{SpxHeader}
use Rattle.spx_link.specs.declared.unit.Unit.{Unit}
use Rattle.spx_link.specs.declared.queue.Queued.{Queued}
use Rattle.spx_link.specs.declared.outgoing.Sent.{Sent}
use Rattle.spx_link.specs.declared.state.State.{State}
use Rattle.spx_link.specs.declared.received.Received.{Received}
use Rattle.spx_link.specs.Limits.{most_units, most_sends, end_stream}
use Rattle.spx_link.specs.SequenceMarks.{mark, distance, acknowledged}
use Rattle.spx_link.specs.LinkView.{LinkView, due, is_end, is_working, free}
use Rattle.spx_link.specs.Units.{unit_in, unit_of, queued_units}
use Rattle.spx_link.specs.Offer.{refusal, queued, offer_link, end_link, take_held, take_link, owe_reply_link, lose_link, pace_link, again_link, dialed, accepted_from, the_end}
use Rattle.spx_link.specs.Receive.{read_numbers, read_system, read_unit, read_packet, is_system, is_own, is_reply, joined_link, receive_at, receive_link, beyond_expected, put, is_taken, leading, any_end, keep_end, keep_units, settle, keep, in_turn, not_behind, repeated, may_confirm, with_ack_owed}
use Rattle.spx_link.specs.Poll.{OutgoingView, with_unit, lost, requests, requests_or_lost, poll_request, is_waiting, may_probe, most_probes, probes_once, probes_or_lost, poll_probe, acknowledges, poll_ack, late_if_working, count_again, sends_again, sends_again_or_lost, poll_late, poll_again, may_send, sends, poll_unit, confirms, poll_confirm, replies, poll_reply, poll_at, poll_link}
use Rattle.spx_theory.specs.Tracks.{Formed, may_end}
use Rattle.spx_theory.specs.PairQueues.{SendsFrom, Queues, GivesUnit, PolledFrom, PollsFrom, QueueLaws}
use Rattle.spx_theory.proofs.Polling.{slice_get-drop, stamped, last_as, late_below}
use Rattle.spx_theory.proofs.Receiving.{taken_le}
use Rattle.spx_theory.proofs.ReadingStates.{reading}
use Rattle.spx_theory.proofs.Calling.{units_queued, formed_more, formed_end, live_opens}
use Rattle.spx_link.specs.declared.outgoing.Sent.TheVariants as Sents
use Rattle.spx_link.specs.declared.state.State.TheVariants as S
use Rattle.spx_link.specs.declared.received.Received.TheVariants as R

formed_none : Formed [] false
formed_none = record { stream = λ k u at. absurd (cc at); end = λ k u at. absurd (cc at); there = λ e. absurd (cc e) }

-- nothing of it changes
pub from_same : (l m : LinkView) (units : List Unit) (n : ℕ) → m.next ≡ l.next → m.out ≡ l.out → queued_units m ≡ queued_units l → SendsFrom l units n → SendsFrom m units n
from_same l m units n next out queue f =
    record { base = f.base; next = next ∙ f.next; out = omega (arith, out, f.out); queue = queue ∙ f.queue; some = f.some; window = omega (arith, out, f.window) }

-- ---- poll

pub record Asked (l : LinkView) (r : Option OutgoingView × LinkView) (units : List Unit) (n : ℕ) : Type 0 where
  pub to : PolledFrom r.0 r.1 units n
  pub queued : r.1.end_queued ≡ l.end_queued
  pub state : (r.1.state ≡ l.state) ⊎ (r.1.state ≡ S.Lost)

read_back : (u : Unit) → (u.stream ≡ 254 → u ≡ the_end) → (b : Bool) → is_end u ≡ b
    → record { stream = u.stream; last = u.last && not b; body = record { items = cond b [] u.body.items } } ≡ u
read_back u ends true is =
    let e : u ≡ the_end = ends (eqb-true _ _ is) in
    ap (λ (v : Unit). record { stream = v.stream; last = v.last && false; body = record { items = [] } }) e ∙ sym e
read_back u ends false is = ap (λ b. record { stream = u.stream; last = b; body = u.body }) (last_as u false is ends)

gives_unit : (l : LinkView) (units : List Unit) (closed : Bool) (what : Sent) (u : Unit) (k number : ℕ) → Formed units closed → number ≡ mark k → slice_get units k ≡ Some u
    → GivesUnit (with_unit l what u number) units k
gives_unit l units closed what u k number f is at =
    let low : u.stream ≤ 254 = f.stream k u at in
    record {
      u = u;
      there = at;
      unit = read_back u (λ ends. (f.end k u at ends).2) (is_end u) refl;
      whole = refl;
      reads = ne_eqb u.stream 255 (λ z. omega (arith, z, low));
      number = is;
    }

unit_there : (l : LinkView) (units : List Unit) (n k : ℕ) (q : Queued) (f : SendsFrom l units n) → slice_get l.queue k ≡ Some q → slice_get units (f.base + k) ≡ Some q.unit
unit_there l units n k q f is =
    sym (slice_get-drop f.base k units) ∙ (ap (λ xs. slice_get xs k) (sym f.queue) ∙ (slice_get-map unit_of l.queue k ∙ ap (option_map unit_of) is))

module _ (units : List Unit) (n : ℕ) where
  none_asked : (l : LinkView) → Queues l units n → Asked l (None, l) units n
  none_asked l s = record { to = s.from; queued = refl; state = inl refl }

  lost_asked : (l : LinkView) → Queues l units n → Asked l (None, lost l) units n
  lost_asked l s = record { to = from_same l (lost l) units n refl refl refl s.from; queued = refl; state = inr refl }

  again_asked : (l : LinkView) (now k : ℕ) (o : Option Queued) → Queues l units n → k < l.out → slice_get l.queue k ≡ o → Asked l (sends_again_or_lost l now k o) units n
  again_asked l now k None s below is = none_asked l s
  again_asked l now k (Some q) s below is =
      let m : LinkView = (sends_again l now k q).1 in
      let f : SendsFrom l units n = s.from in
      let number : mark (distance l.next l.out + k) ≡ mark (f.base + k) = omega (arith, f.next, f.out, f.window) in
      cond_both {A = Option OutgoingView × LinkView} (nat_le most_sends q.count) (None, lost l) (sends_again l now k q) (λ r. Asked l r units n)
      (λ yes. lost_asked l s)
      (λ no. record {
        to = (
          from_same l m units n refl refl (stamped l k now (count_again l q.count) q is) f,
          (f.base + k, omega (arith, f.out, below), omega (arith, f.out, f.window), gives_unit l units l.end_queued Sents.Again q.unit (f.base + k) (mark (distance l.next l.out + k)) s.formed number (unit_there l units n k q f is)),
        );
        queued = refl;
        state = inl refl;
      })

  unit_asked : (l : LinkView) (now : ℕ) (o : Option Queued) → Queues l units n → l.out < most_units → slice_get l.queue l.out ≡ o → Asked l (sends l now o) units n
  unit_asked l now None s window is = none_asked l s
  unit_asked l now (Some q) s window is =
      let m : LinkView = (sends l now (Some q)).1 in
      let f : SendsFrom l units n = s.from in
      let there : slice_get units n ≡ Some q.unit = subst (λ k. slice_get units k ≡ Some q.unit) f.out (unit_there l units n l.out q f is) in
      let within : n < length units = slice_get_within units n q.unit there in
      record {
        to = (
          record { base = f.base; next = omega (arith, f.next); out = omega (arith, f.out); queue = stamped l l.out now 1 q is ∙ f.queue; some = omega (arith, within); window = omega (arith, window) },
          gives_unit l units l.end_queued Sents.Unit q.unit n l.next s.formed f.next there,
        );
        queued = refl;
        state = inl refl;
      }

  probe_asked : (l : LinkView) (now : ℕ) → Queues l units n → Asked l (poll_probe l now) units n
  probe_asked l now s =
      cond_both {A = Option OutgoingView × LinkView} (may_probe l now) (probes_or_lost l now) (None, l) (λ r. Asked l r units n)
      (λ yes. cond_both {A = Option OutgoingView × LinkView} (nat_le (most_probes l) l.probes) (None, lost l) (probes_once l now) (λ r. Asked l r units n)
      (λ ten. lost_asked l s) (λ fewer. record { to = from_same l (probes_once l now).1 units n refl refl refl s.from; queued = refl; state = inl refl }))
      (λ no. none_asked l s)

  ack_asked : (l : LinkView) (now : ℕ) → Queues l units n → Asked l (poll_ack l now) units n
  ack_asked l now s =
      cond_both {A = Option OutgoingView × LinkView} l.owes_ack (acknowledges l now) (poll_probe l now) (λ r. Asked l r units n)
      (λ yes. record { to = from_same l (acknowledges l now).1 units n refl refl refl s.from; queued = refl; state = inl refl })
      (λ no. probe_asked l now s)

  late_asked : (l : LinkView) (now : ℕ) (o : Option ℕ) → Queues l units n → late_if_working l now ≡ o → Asked l (poll_late l now o) units n
  late_asked l now None s is = ack_asked l now s
  late_asked l now (Some k) s is = again_asked l now k (slice_get l.queue k) s (late_below l now k is) refl

  next_asked : (l : LinkView) (now : ℕ) → Queues l units n → Asked l (poll_unit l now) units n
  next_asked l now s =
      cond_both {A = Option OutgoingView × LinkView} (may_send l) (sends l now (slice_get l.queue l.out)) (poll_again l now) (λ r. Asked l r units n)
      (λ yes.
      let waiting = (and_parts (is_working l.state) (is_waiting l && (nat_lt 0 l.room && (nat_lt l.out most_units && nat_lt l.out l.window))) yes).1 in
      let room = (and_parts (is_waiting l) (nat_lt 0 l.room && (nat_lt l.out most_units && nat_lt l.out l.window)) waiting).1 in
      let both = (and_parts (nat_lt 0 l.room) (nat_lt l.out most_units && nat_lt l.out l.window) room).1 in
      unit_asked l now (slice_get l.queue l.out) s (ltb-true l.out most_units (and_parts (nat_lt l.out most_units) (nat_lt l.out l.window) both).0) refl)
      (λ no. late_asked l now (late_if_working l now) s refl)

  reply_asked : (l : LinkView) (now : ℕ) → Queues l units n → Asked l (poll_reply l now) units n
  reply_asked l now s =
      cond_both {A = Option OutgoingView × LinkView} l.owes_reply (replies l now) (poll_confirm l now) (λ r. Asked l r units n)
      (λ yes. record { to = from_same l (replies l now).1 units n refl refl refl s.from; queued = refl; state = inl refl })
      (λ no.
      cond_both {A = Option OutgoingView × LinkView} l.owes_confirm (confirms l now) (poll_unit l now) (λ r. Asked l r units n)
      (λ yes. record { to = from_same l (confirms l now).1 units n refl refl refl s.from; queued = refl; state = inl refl })
      (λ no. next_asked l now s))

  request_asked : (l : LinkView) (now : ℕ) → Queues l units n → Asked l (poll_request l now) units n
  request_asked l now s =
      cond_both {A = Option OutgoingView × LinkView} ((l.asked_count == 0) || due l.asked_at now) (requests_or_lost l now) (None, l) (λ r. Asked l r units n)
      (λ yes. cond_both {A = Option OutgoingView × LinkView} (nat_le most_sends l.asked_count) (None, lost l) (requests l now) (λ r. Asked l r units n)
      (λ ten. lost_asked l s) (λ fewer. record { to = from_same l (requests l now).1 units n refl refl refl s.from; queued = refl; state = inl refl }))
      (λ no. none_asked l s)

  asked_at : (st : State) (l : LinkView) (now : ℕ) → Queues l units n → Asked l (poll_at st l now) units n
  asked_at S.Opening l now s = request_asked l now s
  asked_at S.Live l now s = reply_asked l now s
  asked_at S.Ending l now s = reply_asked l now s
  asked_at S.PeerEnded l now s = reply_asked l now s
  asked_at S.Confirmed l now s = reply_asked l now s
  asked_at S.Lost l now s = none_asked l s

  pub polls_from : (l : LinkView) (now : ℕ) → Queues l units n → PollsFrom units n l now
  polls_from l now s =
      let a : Asked l (poll_link l now) units n = asked_at l.state l now s in
      record {
        to = a.to;
        formed = subst (Formed units) (sym a.queued) s.formed;
        open' = λ e. elim a.state [
          | inl same ↦ a.queued ∙ s.open' (ap may_end (sym same) ∙ e)
          | inr gone ↦ absurd (cc (sym (ap may_end gone) ∙ e))
        ];
      }

-- ---- receive

-- the parts of a packet other than its two numbers do not change the units
pub record Aside (l k : LinkView) : Type 0 where
  pub next : k.next ≡ l.next
  pub out : k.out ≡ l.out
  pub queue : k.queue ≡ l.queue
  pub queued : k.end_queued ≡ l.end_queued

aside : (l k : LinkView) → k.next ≡ l.next → k.out ≡ l.out → k.queue ≡ l.queue → k.end_queued ≡ l.end_queued → Aside l k
aside l k next out queue queued = record { next = next; out = out; queue = queue; queued = queued }

settle_aside : (l : LinkView) (ahead : List (Option Unit)) → Aside l (settle l ahead).1
settle_aside l ahead =
    cond_both {A = Received × LinkView} (any_end (leading ahead)) (R.PeerEnded, keep_end l (leading ahead)) (R.Kept, keep_units l (leading ahead) ahead) (λ r. Aside l r.1)
    (λ yes. aside l _ refl refl refl refl) (λ no. aside l _ refl refl refl refl)

turn_aside : (l : LinkView) (h : SpxHeader) (body : List ℕ) → Aside l (in_turn l h body).1
turn_aside l h body =
    cond_both {A = Received × LinkView} (nat_lt (beyond_expected l h) (free l)) (keep l h body) (R.OverAllocation, record l { owes_ack = true }) (λ r. Aside l r.1)
    (λ yes. cond_both {A = Received × LinkView} (is_taken (beyond_expected l h) l.ahead) (R.Repeat, record l { owes_ack = true }) (settle l (put (beyond_expected l h) (unit_in h body) l.ahead)) (λ r. Aside l r.1)
    (λ taken. aside l _ refl refl refl refl) (λ gap. settle_aside l (put (beyond_expected l h) (unit_in h body) l.ahead)))
    (λ no. aside l _ refl refl refl refl)

repeated_aside : (l : LinkView) (h : SpxHeader) → Aside l (repeated l h)
repeated_aside l h =
    cond_both {A = LinkView} ((h.stream == end_stream) && l.peer_ended) (record l { owes_confirm = true }) (record l { owes_ack = true }) (Aside l)
    (λ yes. aside l _ refl refl refl refl) (λ no. aside l _ refl refl refl refl)

unit_aside : (l : LinkView) (h : SpxHeader) (body : List ℕ) → Aside l (read_unit l h body).1
unit_aside l h body =
    cond_both {A = Received × LinkView} (nat_le 32768 (beyond_expected l h)) (R.Repeat, repeated l h) (not_behind l h body) (λ r. Aside l r.1)
    (λ yes. repeated_aside l h)
    (λ no. cond_both {A = Received × LinkView} l.peer_ended (R.Ahead, l) (in_turn l h body) (λ r. Aside l r.1) (λ yes. aside l l refl refl refl refl) (λ n. turn_aside l h body))

system_aside : (l : LinkView) (h : SpxHeader) → Aside l (read_system l h).1
system_aside l h =
    cond_both {A = Received × LinkView} (may_confirm l h) (R.Confirmed, record (with_ack_owed l h.wants_ack) { state = S.Confirmed }) (R.System, with_ack_owed l h.wants_ack) (λ r. Aside l r.1)
    (λ yes. aside l _ refl refl refl refl) (λ no. aside l _ refl refl refl refl)

packet_aside : (l : LinkView) (h : SpxHeader) (body : List ℕ) → Aside (read_numbers l h) (read_packet l h body).1
packet_aside l h body =
    cond_both {A = Received × LinkView} (is_system h) (read_system (read_numbers l h) h) (read_unit (read_numbers l h) h body) (λ r. Aside (read_numbers l h) r.1)
    (λ yes. system_aside (read_numbers l h) h) (λ no. unit_aside (read_numbers l h) h body)

-- acknowledged units leave the queue
numbers_from : (l : LinkView) (h : SpxHeader) (units : List Unit) (n : ℕ) → SendsFrom l units n → SendsFrom (read_numbers l h) units n
numbers_from l h units n f =
    let k : ℕ = acknowledged l.next l.out h.ack in
    let le : k ≤ l.out = taken_le l.next l.out h.ack in
    record {
      base = f.base + k;
      next = f.next;
      out = omega (arith, le, f.out);
      queue = sym (drop-map unit_of k l.queue) ∙ (ap (drop k) f.queue ∙ drop-drop k f.base units);
      some = f.some;
      window = omega (arith, f.window);
    }

-- the link after a packet, whether it was read or not
pub record Heard (l k : LinkView) (units : List Unit) (n : ℕ) : Type 0 where
  pub from : SendsFrom k units n
  pub queued : k.end_queued ≡ l.end_queued

read_heard : (l : LinkView) (h : SpxHeader) (body : List ℕ) (units : List Unit) (n : ℕ) → SendsFrom l units n → Heard l (read_packet l h body).1 units n
read_heard l h body units n f =
    let a : Aside (read_numbers l h) (read_packet l h body).1 = packet_aside l h body in
    record { from = from_same (read_numbers l h) (read_packet l h body).1 units n a.next a.out (ap (map unit_of) a.queue) (numbers_from l h units n f); queued = a.queued }

own_heard : (b : Bool) (l : LinkView) (h : SpxHeader) (body : List ℕ) (units : List Unit) (n : ℕ) → SendsFrom l units n → Heard l (cond {A = Received × LinkView} b (read_packet l h body) (R.Stranger, l)).1 units n
own_heard true l h body units n f = read_heard l h body units n f
own_heard false l h body units n f = record { from = f; queued = refl }

reply_heard : (b : Bool) (l : LinkView) (h : SpxHeader) (units : List Unit) (n : ℕ) → SendsFrom l units n → Heard l (cond {A = Received × LinkView} b (R.Joined, read_numbers (joined_link l h) h) (R.Stranger, l)).1 units n
reply_heard true l h units n f = record { from = numbers_from (joined_link l h) h units n (from_same l (joined_link l h) units n refl refl refl f); queued = refl }
reply_heard false l h units n f = record { from = f; queued = refl }

heard_at : (s : State) (l : LinkView) (h : SpxHeader) (body : List ℕ) (units : List Unit) (n : ℕ) → SendsFrom l units n → Heard l (receive_at s l h body).1 units n
heard_at S.Opening l h body units n f = reply_heard (is_reply l h) l h units n f
heard_at S.Live l h body units n f = own_heard (is_own l h) l h body units n f
heard_at S.Ending l h body units n f = own_heard (is_own l h) l h body units n f
heard_at S.PeerEnded l h body units n f = own_heard (is_own l h) l h body units n f
heard_at S.Confirmed l h body units n f = own_heard (is_own l h) l h body units n f
heard_at S.Lost l h body units n f = record { from = f; queued = refl }

pub receives_from : (l : LinkView) (h : SpxHeader) (body : List ℕ) (units : List Unit) (n : ℕ) → Queues l units n → Queues (receive_link l h body).1 units n
receives_from l h body units n s =
    let r : Heard l (receive_link l h body).1 units n = heard_at l.state l h body units n s.from in
    record { from = r.from; formed = subst (Formed units) (sym r.queued) s.formed; open' = (reading l h body).open' refl s.open' }

-- ---- the other calls
held_from : (l : LinkView) (us units : List Unit) (n : ℕ) → Queues l units n → Queues (take_held l us).1 units n
held_from l [] units n s = s
held_from l (u ∷ us) units n s = record { from = from_same l (take_held l (u ∷ us)).1 units n refl refl refl s.from; formed = s.formed; open' = s.open' }

pub takes_from : (l : LinkView) (units : List Unit) (n : ℕ) → Queues l units n → Queues (take_link l).1 units n
takes_from l units n s = held_from l l.held units n s

pub owes_from : (l : LinkView) (units : List Unit) (n : ℕ) → Queues l units n → Queues (owe_reply_link l) units n
owes_from l units n s = record { from = from_same l (owe_reply_link l) units n refl refl refl s.from; formed = s.formed; open' = s.open' }

pub loses_from : (l : LinkView) (units : List Unit) (n : ℕ) → Queues l units n → Queues (lose_link l) units n
loses_from l units n s = record { from = from_same l (lose_link l) units n refl refl refl s.from; formed = s.formed; open' = λ e. absurd (cc e) }

pub paces_from : (l : LinkView) (window : ℕ) (manual : Bool) (units : List Unit) (n : ℕ) → Queues l units n → Queues (pace_link l window manual) units n
paces_from l window manual units n s = record { from = from_same l (pace_link l window manual) units n refl refl refl s.from; formed = s.formed; open' = s.open' }

pub asks_from : (l : LinkView) (place : ℕ) (units : List Unit) (n : ℕ) → Queues l units n → Queues (again_link l place) units n
asks_from l place units n s = record { from = from_same l (again_link l place) units n refl refl refl s.from; formed = s.formed; open' = s.open' }

more_from : (l m : LinkView) (units us : List Unit) (n : ℕ) → m.next ≡ l.next → m.out ≡ l.out → queued_units m ≡ queued_units l ++ us → SendsFrom l units n → SendsFrom m (units ++ us) n
more_from l m units us n next out queue f =
    record {
      base = f.base;
      next = next ∙ f.next;
      out = omega (arith, out, f.out);
      queue = queue ∙ (ap (λ xs. xs ++ us) f.queue ∙ sym (drop-append-le f.base units us (omega (arith, f.out, f.some))));
      some = omega (arith, f.some, length-append units us);
      window = omega (arith, out, f.window);
    }

pub offers_from : (l : LinkView) (us units : List Unit) (n : ℕ) → refusal l.state ≡ None → ((k : ℕ) (u : Unit) → slice_get us k ≡ Some u → u.stream < 254)
    → Queues l units n → Queues (offer_link l us) (units ++ us) n
offers_from l us units n live low s =
    let none : l.end_queued ≡ false = s.open' (live_opens l.state live) in
    record {
      from = more_from l (offer_link l us) units us n refl refl (map-append unit_of l.queue (map queued us) ∙ ap (λ xs. map unit_of l.queue ++ xs) (units_queued us)) s.from;
      formed = subst (Formed (units ++ us)) (sym none) (formed_more units us (subst (Formed units) none s.formed) low);
      open' = s.open';
    }

pub ends_from : (l : LinkView) (units : List Unit) (n : ℕ) → refusal l.state ≡ None → Queues l units n → Queues (end_link l) (units ++ the_end ∷ []) n
ends_from l units n live s =
    let none : l.end_queued ≡ false = s.open' (live_opens l.state live) in
    record {
      from = more_from l (end_link l) units (the_end ∷ []) n refl refl (map-append unit_of l.queue (queued the_end ∷ [])) s.from;
      formed = formed_end units (subst (Formed units) none s.formed);
      open' = λ e. absurd (cc e);
    }

pub dialed_from : (id : ℕ) (socket : Socket) (to : Address) (buffers now : ℕ) → Queues (dialed id socket to buffers now) [] 0
dialed_from id socket to buffers now = record { from = record { base = 0; next = refl; out = refl; queue = refl; some = omega arith; window = omega arith }; formed = formed_none; open' = λ e. refl }

pub accepted_from_none : (id : ℕ) (socket : Socket) (from : Address) (h : SpxHeader) (buffers now : ℕ) → Queues (accepted_from id socket from h buffers now) [] 0
accepted_from_none id socket from h buffers now = record { from = record { base = 0; next = refl; out = refl; queue = refl; some = omega arith; window = omega arith }; formed = formed_none; open' = λ e. refl }

-- ---- all together
pub queue_laws : QueueLaws
queue_laws =
    record {
      polls = polls_from;
      receives = receives_from;
      takes = takes_from;
      owes = owes_from;
      loses = loses_from;
      paces = paces_from;
      asks = asks_from;
      offers = offers_from;
      ends = ends_from;
      dials = dialed_from;
      accepts = accepted_from_none;
    }
