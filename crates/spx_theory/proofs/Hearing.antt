-- How a joined link reads a packet of its peer.
use Rattle.std.proofs.Common.{ℕ, zero, suc, ◌∷◌, Some, slice_get, ◌-◌, ◌≡◌, ◌≢◌, ◌⊎◌, ◌==◌, ◌&&◌, ◌||◌, not, nat_le, nat_lt, Bool, true, false, List, [], ◌++◌, length, drop, Option, refl, sym, ap, ◌∙◌, subst, inl, inr, ⊎_elim, eqb-true}
use Rattle.std.proofs.lemmas.Bool.{cond_both, and_parts, cond-true, cases_Bool, eq-eqb}
use Rattle.std.proofs.lemmas.List.{append-nil}
use Rattle.ipx_wire.specs.declared.spx.packet.SpxHeader.{SpxHeader}
use Rattle.spx_link.specs.declared.unit.Unit.{Unit}
use Rattle.spx_link.specs.declared.received.Received.{Received}
use Rattle.spx_link.specs.declared.received.Received.TheVariants as R
use Rattle.spx_link.specs.declared.state.State.{State}
use Rattle.spx_link.specs.declared.state.State.TheVariants as S
use Rattle.spx_link.specs.Limits.{end_stream, confirm_stream}
use Rattle.spx_link.specs.LinkView.{LinkView, free, is_confirmed, is_end}
use Rattle.spx_link.specs.SequenceMarks.{acknowledged}
use Rattle.spx_link.specs.LinkTurns.{is_joined}
use Rattle.spx_link.specs.Units.{unit_in}
use Rattle.spx_link.specs.Receive.{read_numbers, is_system, may_confirm, with_ack_owed, read_system, beyond_expected, repeated, after_end, put, is_taken, leading, any_end, keep_end, keep_units, settle, keep, in_turn, not_behind, read_unit, read_packet, is_own, receive_joined, receive_at, receive_link}
use Rattle.spx_theory.proofs.RoundLists.{or_first, or_left, or_right, or_second}

-- it must answer
abbrev pub Owes : LinkView → Type 0
Owes l = (l.owes_ack || l.owes_confirm) ≡ true

-- the state after it: the same, or confirmed with an empty queue, or the peer ended
abbrev pub StateAfter : LinkView → LinkView → Type 0
StateAfter l m =
    ((m.state ≡ l.state) × (m.peer_ended ≡ l.peer_ended)) ⊎ ((m.state ≡ S.Confirmed) × (l.end_queued ≡ true) × (length m.queue ≡ 0) × (m.peer_ended ≡ l.peer_ended))
    ⊎ ((m.state ≡ after_end l.state) × (m.peer_ended ≡ true) × (m.owes_confirm ≡ true))

-- unless the peer ended, no unit that it newly holds is an end
pub record HoldsMore (l m : LinkView) : Type 0 where
  pub units : List Unit
  pub held : m.held ≡ l.held ++ units
  pub none : any_end units ≡ false

abbrev pub MoreHeld : LinkView → LinkView → Type 0
MoreHeld l m = m.peer_ended ≡ false → HoldsMore l m

holds_same : (l m : LinkView) → m.held ≡ l.held → MoreHeld l m
holds_same l m same open' = record { units = []; held = same ∙ sym (append-nil l.held); none = refl }

-- no unit of a list without an end is one
pub no_end : (us : List Unit) (k : ℕ) (u : Unit) → any_end us ≡ false → slice_get us k ≡ Some u → is_end u ≡ false
no_end [] k u none is = absurd (cc is)
no_end (v ∷ vs) zero u none is = let same : v ≡ u = cc is in ap is_end (sym same) ∙ or_first (is_end v) (any_end vs) none
no_end (v ∷ vs) (suc k) u none is = no_end vs k u (or_second (is_end v) (any_end vs) none) is

pub record Reads (l : LinkView) (h : SpxHeader) (r : Received × LinkView) : Type 0 where
  pub read : r.0 ≢ R.Stranger
  pub queue : r.1.queue ≡ drop (acknowledged l.next l.out h.ack) l.queue
  pub out : r.1.out ≡ l.out - acknowledged l.next l.out h.ack
  pub spoke : r.1.spoke ≡ l.spoke
  pub probes : r.1.probes ≡ 0
  pub own : r.1.own ≡ l.own
  pub peer : r.1.peer ≡ l.peer
  pub queued : r.1.end_queued ≡ l.end_queued
  pub acks : l.owes_ack ≡ true → r.1.owes_ack ≡ true
  pub confirms : l.owes_confirm ≡ true → r.1.owes_confirm ≡ true
  pub state : StateAfter l r.1
  -- a packet that asks for an answer, and a packet with a unit
  pub answers : h.wants_ack ≡ true → is_system h ≡ true → Owes r.1
  pub keeps : is_system h ≡ false → l.peer_ended ≡ false → Owes r.1
  -- a confirmation if the queue is empty; and what it newly holds
  pub confirmed : h.stream ≡ confirm_stream → l.end_queued ≡ true → length r.1.queue ≡ 0 → r.1.state ≡ S.Confirmed
  pub more : MoreHeld l r.1

pub owes_by_ack : (l : LinkView) → l.owes_ack ≡ true → Owes l
owes_by_ack l e = or_left l.owes_ack l.owes_confirm e

pub owes_by_confirm : (l : LinkView) → l.owes_confirm ≡ true → Owes l
owes_by_confirm l e = or_right l.owes_ack l.owes_confirm e

-- a link m with these flags and this state, and with the other fields of l after the packet's numbers were
-- read
leaf : (l : LinkView) (h : SpxHeader) (r : Received × LinkView) → is_system h ≡ false → r.0 ≢ R.Stranger
    → r.1.queue ≡ drop (acknowledged l.next l.out h.ack) l.queue → r.1.out ≡ l.out - acknowledged l.next l.out h.ack
    → r.1.spoke ≡ l.spoke → r.1.probes ≡ 0 → r.1.own ≡ l.own → r.1.peer ≡ l.peer → r.1.end_queued ≡ l.end_queued
    → (l.owes_ack ≡ true → r.1.owes_ack ≡ true) → (l.owes_confirm ≡ true → r.1.owes_confirm ≡ true) → StateAfter l r.1 → (l.peer_ended ≡ false → Owes r.1) → MoreHeld l r.1 → Reads l h r
leaf l h r unit read queue out spoke probes own peer queued acks confirms state keeps more =
    record {
      read = read;
      queue = queue;
      out = out;
      spoke = spoke;
      probes = probes;
      own = own;
      peer = peer;
      queued = queued;
      acks = acks;
      confirms = confirms;
      state = state;
      answers = λ wants system. absurd (cc (sym system ∙ unit));
      keeps = λ is. keeps;
      confirmed = λ e. absurd (cc (sym (or_right (h.system && not (h.stream == end_stream)) (h.stream == confirm_stream) (eq-eqb h.stream confirm_stream e)) ∙ unit));
      more = more;
    }

module _ (l : LinkView) (h : SpxHeader) (body : List ℕ) (unit : is_system h ≡ false) where
  abbrev with_ack : LinkView
  with_ack = record (read_numbers l h) { owes_ack = true }

  acked_leaf : (answer : Received) → answer ≢ R.Stranger → Reads l h (answer, with_ack)
  acked_leaf answer read =
      leaf l h (answer, with_ack) unit read refl refl refl refl refl refl refl (λ e. refl) (λ e. e) (inl (refl, refl)) (λ e. refl) (holds_same l with_ack refl)

  repeated_leaf : Reads l h (R.Repeat, repeated (read_numbers l h) h)
  repeated_leaf =
      cond_both ((h.stream == end_stream) && l.peer_ended) (record (read_numbers l h) { owes_confirm = true }) with_ack (λ m. Reads l h (R.Repeat, m))
      (λ ends. leaf l h (R.Repeat, record (read_numbers l h) { owes_confirm = true }) unit (λ e. cc e) refl refl refl refl refl refl refl (λ e. e) (λ e. refl) (inl (refl, refl)) (λ open'. absurd (cc (sym (and_parts (h.stream == end_stream) l.peer_ended ends).1 ∙ open'))) (holds_same l (record (read_numbers l h) { owes_confirm = true }) refl))
      (λ other. acked_leaf R.Repeat (λ e. cc e))

  settled_leaf : (ahead : List (Option Unit)) → Reads l h (settle (read_numbers l h) ahead)
  settled_leaf ahead =
      cond_both {A = Received × LinkView} (any_end (leading ahead)) (R.PeerEnded, keep_end (read_numbers l h) (leading ahead)) (R.Kept, keep_units (read_numbers l h) (leading ahead) ahead) (Reads l h)
      (λ ends. leaf l h (R.PeerEnded, keep_end (read_numbers l h) (leading ahead)) unit (λ e. cc e) refl refl refl refl refl refl refl (λ e. e) (λ e. refl) (inr (inr (refl, refl, refl))) (λ open'. or_right l.owes_ack true refl) (λ open'. absurd (cc open')))
      (λ goes_on. leaf l h (R.Kept, keep_units (read_numbers l h) (leading ahead) ahead) unit (λ e. cc e) refl refl refl refl refl refl refl (λ e. refl) (λ e. e) (inl (refl, refl)) (λ open'. refl) (λ open'. record { units = leading ahead; held = refl; none = goes_on }))

  unit_leaf : Reads l h (read_unit (read_numbers l h) h body)
  unit_leaf =
      let k : LinkView = read_numbers l h in
      cond_both {A = Received × LinkView} (nat_le 32768 (beyond_expected k h)) (R.Repeat, repeated k h) (not_behind k h body) (Reads l h)
      (λ behind. repeated_leaf)
      (λ near. cond_both {A = Received × LinkView} k.peer_ended (R.Ahead, k) (in_turn k h body) (Reads l h)
      (λ ended. leaf l h (R.Ahead, k) unit (λ e. cc e) refl refl refl refl refl refl refl (λ e. e) (λ e. e) (inl (refl, refl)) (λ open'. absurd (cc (sym ended ∙ open'))) (holds_same l k refl))
      (λ open'. cond_both {A = Received × LinkView} (nat_lt (beyond_expected k h) (free k)) (keep k h body) (R.OverAllocation, record k { owes_ack = true }) (Reads l h)
      (λ room. cond_both {A = Received × LinkView} (is_taken (beyond_expected k h) k.ahead) (R.Repeat, record k { owes_ack = true }) (settle k (put (beyond_expected k h) (unit_in h body) k.ahead)) (Reads l h)
      (λ was. acked_leaf R.Repeat (λ e. cc e))
      (λ new. settled_leaf (put (beyond_expected k h) (unit_in h body) k.ahead)))
      (λ over. acked_leaf R.OverAllocation (λ e. cc e))))

system_leaf : (l : LinkView) (h : SpxHeader) (body : List ℕ) → is_system h ≡ true → Reads l h (read_system (read_numbers l h) h)
system_leaf l h body sys =
    let k : LinkView = read_numbers l h in
    let owed : LinkView = with_ack_owed k h.wants_ack in
    cond_both {A = Received × LinkView} (may_confirm k h) (R.Confirmed, record owed { state = S.Confirmed }) (R.System, owed) (Reads l h)
    (λ may.
    let a = and_parts (h.stream == confirm_stream) (k.end_queued && ((length k.queue == 0) && not (is_confirmed k.state))) may in
    let b = and_parts k.end_queued ((length k.queue == 0) && not (is_confirmed k.state)) a.1 in
    let c = and_parts (length k.queue == 0) (not (is_confirmed k.state)) b.1 in
    record {
      read = λ e. cc e;
      queue = refl;
      out = refl;
      spoke = refl;
      probes = refl;
      own = refl;
      peer = refl;
      queued = refl;
      acks = λ e. or_left l.owes_ack h.wants_ack e;
      confirms = λ e. e;
      state = inr (inl (refl, b.0, eqb-true (length k.queue) 0 c.0, refl));
      answers = λ wants is. or_left (l.owes_ack || h.wants_ack) l.owes_confirm (or_right l.owes_ack h.wants_ack wants);
      keeps = λ unit. absurd (cc (sym sys ∙ unit));
      confirmed = λ e f g. refl;
      more = holds_same l (record owed { state = S.Confirmed }) refl;
    })
    (λ no. record {
      read = λ e. cc e;
      queue = refl;
      out = refl;
      spoke = refl;
      probes = refl;
      own = refl;
      peer = refl;
      queued = refl;
      acks = λ e. or_left l.owes_ack h.wants_ack e;
      confirms = λ e. e;
      state = inl (refl, refl);
      answers = λ wants is. or_left (l.owes_ack || h.wants_ack) l.owes_confirm (or_right l.owes_ack h.wants_ack wants);
      keeps = λ unit. absurd (cc (sym sys ∙ unit));
      confirmed = λ e f g. was_confirmed l.state
          (⊎_elim
          (λ (was : is_confirmed l.state ≡ true). was)
          (λ (not_so : is_confirmed l.state ≡ false).
          let may : may_confirm k h ≡ true = both (h.stream == confirm_stream) _ (eq-eqb h.stream confirm_stream e) (both k.end_queued _ f (both (length k.queue == 0) (not (is_confirmed k.state)) (eq-eqb (length k.queue) 0 g) (ap not not_so))) in
          absurd (cc (sym may ∙ no)))
          (cases_Bool (is_confirmed l.state)));
      more = holds_same l owed refl;
    })
  where
    both : (p q : Bool) → p ≡ true → q ≡ true → (p && q) ≡ true
    both p q e f = ap (λ x. x && q) e ∙ f

    was_confirmed : (st : State) → is_confirmed st ≡ true → st ≡ S.Confirmed
    was_confirmed S.Opening e = absurd (cc e)
    was_confirmed S.Live e = absurd (cc e)
    was_confirmed S.Ending e = absurd (cc e)
    was_confirmed S.PeerEnded e = absurd (cc e)
    was_confirmed S.Confirmed e = refl
    was_confirmed S.Lost e = absurd (cc e)

pub packet_reads : (l : LinkView) (h : SpxHeader) (body : List ℕ) → Reads l h (read_packet l h body)
packet_reads l h body =
    cond_both {A = Received × LinkView} (is_system h) (read_system (read_numbers l h) h) (read_unit (read_numbers l h) h body) (Reads l h)
    (λ sys. system_leaf l h body sys) (λ unit. unit_leaf l h body unit)

joined_reads : (l : LinkView) (h : SpxHeader) (body : List ℕ) → is_own l h ≡ true → Reads l h (receive_joined l h body)
joined_reads l h body own =
    subst (Reads l h) (sym (cond-true {A = Received × LinkView} (is_own l h) (read_packet l h body) (R.Stranger, l) own)) (packet_reads l h body)

reads_at : (st : State) (l : LinkView) (h : SpxHeader) (body : List ℕ) → is_joined st ≡ true → is_own l h ≡ true → Reads l h (receive_at st l h body)
reads_at S.Opening l h body is own = absurd (cc is)
reads_at S.Live l h body is own = joined_reads l h body own
reads_at S.Ending l h body is own = joined_reads l h body own
reads_at S.PeerEnded l h body is own = joined_reads l h body own
reads_at S.Confirmed l h body is own = joined_reads l h body own
reads_at S.Lost l h body is own = absurd (cc is)

pub reads : (l : LinkView) (h : SpxHeader) (body : List ℕ) → is_joined l.state ≡ true → is_own l h ≡ true → Reads l h (receive_link l h body)
reads l h body is own = reads_at l.state l h body is own

joined_end : (st : State) → is_joined st ≡ true → is_joined (after_end st) ≡ true
joined_end S.Opening is = refl
joined_end S.Live is = refl
joined_end S.Ending is = refl
joined_end S.PeerEnded is = refl
joined_end S.Confirmed is = refl
joined_end S.Lost is = absurd (cc is)

-- it stays joined
pub stays_joined : (l m : LinkView) → is_joined l.state ≡ true → StateAfter l m → is_joined m.state ≡ true
stays_joined l m is (inl same) = ap is_joined same.0 ∙ is
stays_joined l m is (inr (inl confirmed)) = ap is_joined confirmed.0
stays_joined l m is (inr (inr ended)) = ap is_joined ended.0 ∙ joined_end l.state is
