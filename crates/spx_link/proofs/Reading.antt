-- Which packets' units are kept, and what each rule of receive does to the units and to how far a connection has come.
use Rattle.std.proofs.Common.{◌≡◌, ℕ, ◌<◌, ◌↔◌, Bool, true, false, refl, ap, sym, ◌∙◌, ◌==◌, ◌&&◌, not, nat_le, nat_lt, List, [], ◌∷◌, ◌++◌, map, drop, length, Option, eqb-true, arith}
use Rattle.std.proofs.lemmas.Bool.{and_parts}
use Rattle.std.proofs.lemmas.Bool.Decides.{nat_tests}
use Rattle.std.proofs.lemmas.List.{drop-map, map-append}
use Rattle.ipx_wire.specs.declared.spx.packet.SpxHeader.{SpxHeader}
use Rattle.spx_link.specs.declared.queue.Queued.{Queued}
use Rattle.spx_link.specs.declared.unit.Unit as units
use Rattle.spx_link.specs.declared.received.Received.{Received}
use Rattle.spx_link.specs.declared.received.Received.TheVariants.{Joined, Kept, Repeat, Ahead, OverAllocation, System, PeerEnded, Confirmed, Stranger}
use Rattle.spx_link.specs.declared.state.State.{State}
use Rattle.spx_link.specs.declared.state.State.TheVariants as States
use Rattle.spx_link.specs.Limits.{end_stream, confirm_stream}
use Rattle.spx_link.specs.LinkView.{LinkView, free, is_confirmed}
use Rattle.spx_link.specs.SequenceMarks.{acknowledged, distance}
use Rattle.spx_link.specs.Offer.{queued, first_of, take_link, take_held}
use Rattle.spx_link.specs.Receive as R
use Rattle.spx_link.specs.Receive.{is_kept, is_own, is_system, receive_link, receive_at}
use Rattle.spx_link.specs.LinkTurns.{is_joined, IsInTurn, state_after, ended_after, ConfirmsWhole, kept_with, newly_held}
use Rattle.spx_link.specs.Units.{unit_of, queued_units, SameEndings}
use Rattle.spx_link.proofs.Carrying.{by_test}

-- ---- the unit that is in turn

abbrev turn : Bool → Bool → Bool → Bool → Bool
turn own system ended next = own && (not system && (not ended && next))

-- there is a buffer for it, and it was not kept before
abbrev wanted : LinkView → SpxHeader → Bool
wanted l h = not (nat_le 32768 (distance h.seq l.expected)) && (nat_lt (distance h.seq l.expected) (free l) && not (R.is_taken (distance h.seq l.expected) l.ahead))

abbrev in_turn : LinkView → SpxHeader → Bool
in_turn l h = turn (is_own l h) (is_system h) l.peer_ended (wanted l h)

of_another : (own system ended next : Bool) → own ≡ false → false ≡ turn own system ended next
of_another true system ended next e = cc
of_another false system ended next e = refl

of_system : (own system ended next : Bool) → system ≡ true → false ≡ turn own system ended next
of_system true true ended next e = refl
of_system false true ended next e = refl
of_system own false ended next e = cc

of_ended : (own system ended next : Bool) → ended ≡ true → false ≡ turn own system ended next
of_ended true true true next e = refl
of_ended true false true next e = refl
of_ended false system true next e = refl
of_ended own system false next e = cc

of_other_place : (own system ended next : Bool) → next ≡ false → false ≡ turn own system ended next
of_other_place true true ended false e = refl
of_other_place true false true false e = refl
of_other_place true false false false e = refl
of_other_place false system ended false e = refl
of_other_place own system ended true e = cc

of_all : (own system ended next : Bool) → own ≡ true → system ≡ false → ended ≡ false → next ≡ true → true ≡ turn own system ended next
of_all true false false true a b c d = refl
of_all false system ended next a b c d = cc
of_all true true ended next a b c d = cc
of_all true false true next a b c d = cc
of_all true false false false a b c d = cc

not_behind : (behind room taken : Bool) → behind ≡ true → (not behind && (room && not taken)) ≡ false
not_behind true room taken e = refl
not_behind false room taken e = cc

not_over : (behind room taken : Bool) → room ≡ false → (not behind && (room && not taken)) ≡ false
not_over true room taken e = refl
not_over false true taken e = cc
not_over false false taken e = refl

not_again : (behind room taken : Bool) → taken ≡ true → (not behind && (room && not taken)) ≡ false
not_again true room taken e = refl
not_again false false taken e = refl
not_again false true true e = refl
not_again false true false e = cc

so_wanted : (behind room taken : Bool) → behind ≡ false → room ≡ true → taken ≡ false → (not behind && (room && not taken)) ≡ true
so_wanted false true false a b c = refl
so_wanted true room taken a b c = cc
so_wanted false false taken a b c = cc
so_wanted false true true a b c = cc

-- ---- what a rule says

-- how far the connection has come, and what is left of the units to send
pub record Course (l : LinkView) (h : SpxHeader) (r : Received × LinkView) : Type 0 where
  pub state : r.1.state ≡ state_after r.0 l.state
  pub end_queued : r.1.end_queued ≡ l.end_queued
  pub peer_ended : r.1.peer_ended ≡ ended_after r.0 l.peer_ended
  pub queue : (r.0 ≡ Stranger → ⊥) → r.1.queue ≡ drop (acknowledged l.next l.out h.ack) l.queue
  pub unknown : r.0 ≡ Stranger → r.1 ≡ l
  pub done : r.0 ≡ Confirmed → ConfirmsWhole l r.1

both_tests : (b : Bool) → b ≡ true → b ≡ false → ⊥
both_tests true e f = cc
both_tests false e f = cc

-- the unit
pub record Keeps (l : LinkView) (h : SpxHeader) (body : List ℕ) (r : Received × LinkView) : Type 0 where
  pub turns : is_kept r.0 ≡ in_turn l h
  pub held : is_kept r.0 ≡ true → r.1.held ≡ l.held ++ newly_held l h body
  pub ahead : r.0 ≡ Kept → r.1.ahead ≡ drop (length (newly_held l h body)) (kept_with l h body)
  pub none_ahead : r.0 ≡ PeerEnded → r.1.ahead ≡ []
  pub same : is_kept r.0 ≡ false → (r.1.held ≡ l.held) × (r.1.ahead ≡ l.ahead)
  pub ends : r.0 ≡ PeerEnded → R.any_end (newly_held l h body) ≡ true
  pub goes_on : r.0 ≡ Kept → R.any_end (newly_held l h body) ≡ false

-- an answer that keeps none
unkept : (l m : LinkView) (h : SpxHeader) (body : List ℕ) (a : Received) → is_kept a ≡ in_turn l h → is_kept a ≡ false → m.held ≡ l.held → m.ahead ≡ l.ahead → Keeps l h body (a, m)
unkept l m h body a turns not_kept held ahead =
    record {
      turns = turns;
      held = λ e. absurd (both_tests (is_kept a) e not_kept);
      ahead = λ e. absurd (both_tests (is_kept a) (ap is_kept e) not_kept);
      none_ahead = λ e. absurd (both_tests (is_kept a) (ap is_kept e) not_kept);
      same = λ _. (held, ahead);
      ends = λ e. absurd (both_tests (is_kept a) (ap is_kept e) not_kept);
      goes_on = λ e. absurd (both_tests (is_kept a) (ap is_kept e) not_kept);
    }

pub record ReadSays (l : LinkView) (h : SpxHeader) (body : List ℕ) (r : Received × LinkView) : Type 0 where
  pub course : Course l h r
  pub unit : Keeps l h body r

stranger_says : (l : LinkView) (h : SpxHeader) (body : List ℕ) → false ≡ in_turn l h → ReadSays l h body (Stranger, l)
stranger_says l h body other = record {
  course = record { state = refl; end_queued = refl; peer_ended = refl; queue = λ no. absurd (no refl); unknown = λ _. refl; done = λ e. cc };
  unit = unkept l l h body Stranger other refl refl refl;
}

empty_of : {A : Type 0} (xs : List A) → (length xs == 0) ≡ true → xs ≡ []
empty_of [] e = refl
empty_of (x ∷ xs) e =
    let none : length (x ∷ xs) ≡ 0 = eqb-true (length (x ∷ xs)) 0 e in
    absurd (omega arith)

confirmed_says : (l : LinkView) (h : SpxHeader) (body : List ℕ) → is_system h ≡ true → R.may_confirm (R.read_numbers l h) h ≡ true → ReadSays l h body (Confirmed, record (R.with_ack_owed (R.read_numbers l h) h.wants_ack) { state = States.Confirmed })
confirmed_says l h body system may =
    let m : LinkView = R.read_numbers l h in
    let others : Bool = (length m.queue == 0) && not (is_confirmed l.state) in
    let more : (l.end_queued && others) ≡ true = (and_parts (h.stream == confirm_stream) (l.end_queued && others) may).1 in
    let rest : ((length m.queue == 0) && not (is_confirmed l.state)) ≡ true = (and_parts l.end_queued others more).1 in
    record {
      course = record {
        state = refl;
        end_queued = refl;
        peer_ended = refl;
        queue = λ _. refl;
        unknown = λ e. cc;
        done = λ _. record { end_queued = (and_parts l.end_queued others more).0; queue = empty_of m.queue (and_parts (length m.queue == 0) (not (is_confirmed l.state)) rest).0 };
      };
      unit = unkept l (record (R.with_ack_owed (R.read_numbers l h) h.wants_ack) { state = States.Confirmed }) h body Confirmed (of_system (is_own l h) (is_system h) l.peer_ended (wanted l h) system) refl refl refl;
    }

system_says : (l : LinkView) (h : SpxHeader) (body : List ℕ) → is_system h ≡ true → ReadSays l h body (R.read_system (R.read_numbers l h) h)
system_says l h body system =
    let m : LinkView = R.read_numbers l h in
    by_test (ReadSays l h body) (R.may_confirm m h) (Confirmed, record (R.with_ack_owed m h.wants_ack) { state = States.Confirmed }) (System, R.with_ack_owed m h.wants_ack)
    (λ may. confirmed_says l h body system may)
    (λ _. record {
      course = record { state = refl; end_queued = refl; peer_ended = refl; queue = λ _. refl; unknown = λ e. cc; done = λ e. cc };
      unit = unkept l (R.with_ack_owed m h.wants_ack) h body System (of_system (is_own l h) (is_system h) l.peer_ended (wanted l h) system) refl refl refl;
    })

repeated_says : (l : LinkView) (h : SpxHeader) (body : List ℕ) → false ≡ in_turn l h → ReadSays l h body (Repeat, R.repeated (R.read_numbers l h) h)
repeated_says l h body other =
    let m : LinkView = R.read_numbers l h in
    by_test (λ (n : LinkView). ReadSays l h body (Repeat, n)) ((h.stream == end_stream) && m.peer_ended) (record m { owes_confirm = true }) (record m { owes_ack = true })
    (λ _. record {
      course = record { state = refl; end_queued = refl; peer_ended = refl; queue = λ _. refl; unknown = λ e. cc; done = λ e. cc };
      unit = unkept l (record m { owes_confirm = true }) h body Repeat other refl refl refl;
    })
    (λ _. record {
      course = record { state = refl; end_queued = refl; peer_ended = refl; queue = λ _. refl; unknown = λ e. cc; done = λ e. cc };
      unit = unkept l (record m { owes_ack = true }) h body Repeat other refl refl refl;
    })

-- a unit that is kept: those that stand in order are held
settle_says : (l : LinkView) (h : SpxHeader) (body : List ℕ) → true ≡ in_turn l h → ReadSays l h body (R.settle (R.read_numbers l h) (kept_with l h body))
settle_says l h body next =
    let m : LinkView = R.read_numbers l h in
    let us : List units.Unit = newly_held l h body in
    by_test (ReadSays l h body) (R.any_end us) (PeerEnded, R.keep_end m us) (Kept, R.keep_units m us (kept_with l h body))
    (λ ends. record {
      course = record { state = refl; end_queued = refl; peer_ended = refl; queue = λ _. refl; unknown = λ e. cc; done = λ e. cc };
      unit = record { turns = next; held = λ _. refl; ahead = λ e. cc; none_ahead = λ _. refl; same = λ e. cc; ends = λ _. ends; goes_on = λ e. cc };
    })
    (λ goes. record {
      course = record { state = refl; end_queued = refl; peer_ended = refl; queue = λ _. refl; unknown = λ e. cc; done = λ e. cc };
      unit = record { turns = next; held = λ _. refl; ahead = λ _. refl; none_ahead = λ e. cc; same = λ e. cc; ends = λ e. cc; goes_on = λ _. goes };
    })

in_turn_says : (l : LinkView) (h : SpxHeader) (body : List ℕ) → is_own l h ≡ true → is_system h ≡ false → l.peer_ended ≡ false → nat_le 32768 (distance h.seq l.expected) ≡ false → ReadSays l h body (R.in_turn (R.read_numbers l h) h body)
in_turn_says l h body own unit more near =
    let m : LinkView = R.read_numbers l h in
    let behind : Bool = nat_le 32768 (distance h.seq l.expected) in
    let room : Bool = nat_lt (distance h.seq l.expected) (free l) in
    let taken : Bool = R.is_taken (distance h.seq l.expected) l.ahead in
    by_test (ReadSays l h body) room (R.keep m h body) (OverAllocation, record m { owes_ack = true })
    (λ fits. by_test (ReadSays l h body) taken (Repeat, record m { owes_ack = true }) (R.settle m (kept_with l h body))
    (λ again. record {
      course = record { state = refl; end_queued = refl; peer_ended = refl; queue = λ _. refl; unknown = λ e. cc; done = λ e. cc };
      unit = unkept l (record m { owes_ack = true }) h body Repeat (of_other_place (is_own l h) (is_system h) l.peer_ended (wanted l h) (not_again behind room taken again)) refl refl refl;
    })
    (λ new. settle_says l h body (of_all (is_own l h) (is_system h) l.peer_ended (wanted l h) own unit more (so_wanted behind room taken near fits new))))
    (λ over. record {
      course = record { state = refl; end_queued = refl; peer_ended = refl; queue = λ _. refl; unknown = λ e. cc; done = λ e. cc };
      unit = unkept l (record m { owes_ack = true }) h body OverAllocation (of_other_place (is_own l h) (is_system h) l.peer_ended (wanted l h) (not_over behind room taken over)) refl refl refl;
    })

unit_says : (l : LinkView) (h : SpxHeader) (body : List ℕ) → is_own l h ≡ true → is_system h ≡ false → ReadSays l h body (R.read_unit (R.read_numbers l h) h body)
unit_says l h body own unit =
    let m : LinkView = R.read_numbers l h in
    by_test (ReadSays l h body) (nat_le 32768 (R.beyond_expected m h)) (Repeat, R.repeated m h) (R.not_behind m h body)
    (λ far. repeated_says l h body (of_other_place (is_own l h) (is_system h) l.peer_ended (wanted l h) (not_behind (nat_le 32768 (distance h.seq l.expected)) (nat_lt (distance h.seq l.expected) (free l)) (R.is_taken (distance h.seq l.expected) l.ahead) far)))
    (λ near. by_test (ReadSays l h body) m.peer_ended (Ahead, m) (R.in_turn m h body)
    (λ ended. record {
      course = record { state = refl; end_queued = refl; peer_ended = refl; queue = λ _. refl; unknown = λ e. cc; done = λ e. cc };
      unit = unkept l m h body Ahead (of_ended (is_own l h) (is_system h) l.peer_ended (wanted l h) ended) refl refl refl;
    })
    (λ more. in_turn_says l h body own unit more near))

joined_says : (l : LinkView) (h : SpxHeader) (body : List ℕ) → ReadSays l h body (R.receive_joined l h body)
joined_says l h body =
    by_test (ReadSays l h body) (is_own l h) (R.read_packet l h body) (Stranger, l)
    (λ own. by_test (ReadSays l h body) (is_system h) (R.read_system (R.read_numbers l h) h) (R.read_unit (R.read_numbers l h) h body)
    (λ system. system_says l h body system)
    (λ unit. unit_says l h body own unit))
    (λ other. stranger_says l h body (of_another (is_own l h) (is_system h) l.peer_ended (wanted l h) other))

-- ---- any packet

pub record ReceiveSays (l : LinkView) (h : SpxHeader) (body : List ℕ) (r : Received × LinkView) : Type 0 where
  pub course : Course l h r
  pub turns : is_kept r.0 ≡ true ↔ IsInTurn l h
  pub held : is_kept r.0 ≡ true → r.1.held ≡ l.held ++ newly_held l h body
  pub ahead : r.0 ≡ Kept → r.1.ahead ≡ drop (length (newly_held l h body)) (kept_with l h body)
  pub none_ahead : r.0 ≡ PeerEnded → r.1.ahead ≡ []
  pub same : is_kept r.0 ≡ false → (r.1.held ≡ l.held) × (r.1.ahead ≡ l.ahead)
  pub ends : r.0 ≡ PeerEnded → R.any_end (newly_held l h body) ≡ true
  pub goes_on : r.0 ≡ Kept → R.any_end (newly_held l h body) ≡ false
  pub own : (r.0 ≡ Stranger → ⊥) → (r.0 ≡ Joined → ⊥) → (is_joined l.state ≡ true) × (is_own l h ≡ true)

not_true : (b : Bool) → not b ≡ true → b ≡ false
not_true true e = cc
not_true false e = refl

wanted_alone : (l : LinkView) (h : SpxHeader) → wanted l h ≡ true → (distance h.seq l.expected < 32768) × (distance h.seq l.expected < free l) × (R.is_taken (distance h.seq l.expected) l.ahead ≡ false)
wanted_alone l h e =
    let behind : Bool = nat_le 32768 (distance h.seq l.expected) in
    let room : Bool = nat_lt (distance h.seq l.expected) (free l) in
    let taken : Bool = R.is_taken (distance h.seq l.expected) l.ahead in
    let a = and_parts (not behind) (room && not taken) e in
    let b = and_parts room (not taken) a.1 in
    let near : nat_le 32768 (distance h.seq l.expected) ≡ false = not_true behind a.0 in
    let fits : nat_lt (distance h.seq l.expected) (free l) ≡ true = b.0 in
    (grind (arith, nat_tests), grind (arith, nat_tests), not_true taken b.1)

wanted_of : (l : LinkView) (h : SpxHeader) → distance h.seq l.expected < 32768 → distance h.seq l.expected < free l → R.is_taken (distance h.seq l.expected) l.ahead ≡ false → wanted l h ≡ true
wanted_of l h near room new =
    let a : nat_le 32768 (distance h.seq l.expected) ≡ false = grind (arith, nat_tests) in
    let b : nat_lt (distance h.seq l.expected) (free l) ≡ true = grind (arith, nat_tests) in
    so_wanted (nat_le 32768 (distance h.seq l.expected)) (nat_lt (distance h.seq l.expected) (free l)) (R.is_taken (distance h.seq l.expected) l.ahead) a b new

is_in_turn : (l : LinkView) (h : SpxHeader) → is_joined l.state ≡ true → in_turn l h ≡ true → IsInTurn l h
is_in_turn l h joined e =
    let a = and_parts _ _ e in
    let b = and_parts _ _ a.1 in
    let c = and_parts _ _ b.1 in
    record {
      joined = joined;
      own = a.0;
      unit = not_true (is_system h) b.0;
      more = not_true l.peer_ended c.0;
      near = (wanted_alone l h c.1).0;
      room = (wanted_alone l h c.1).1;
      new = (wanted_alone l h c.1).2;
    }

-- what is read is the link's own
own_alone : (l : LinkView) (h : SpxHeader) (body : List ℕ) → ((R.receive_joined l h body).0 ≡ Stranger → ⊥) → is_own l h ≡ true
own_alone l h body =
    by_test (λ (r : Received × LinkView). (r.0 ≡ Stranger → ⊥) → is_own l h ≡ true) (is_own l h) (R.read_packet l h body) (Stranger, l)
    (λ own _. own)
    (λ _ read. absurd (read refl))

of_joined : (l : LinkView) (h : SpxHeader) (body : List ℕ) → is_joined l.state ≡ true → ReceiveSays l h body (R.receive_joined l h body)
of_joined l h body joined =
    let says : ReadSays l h body (R.receive_joined l h body) = joined_says l h body in
    record {
      course = says.course;
      turns = (
        λ kept. is_in_turn l h joined (sym says.unit.turns ∙ kept),
        λ t. says.unit.turns ∙ sym (of_all (is_own l h) (is_system h) l.peer_ended (wanted l h) t.own t.unit t.more (wanted_of l h t.near t.room t.new)),
      );
      held = says.unit.held;
      ahead = says.unit.ahead;
      none_ahead = says.unit.none_ahead;
      same = says.unit.same;
      ends = says.unit.ends;
      goes_on = says.unit.goes_on;
      own = λ read _. (joined, own_alone l h body read);
    }

not_joined : (l : LinkView) (h : SpxHeader) → is_joined l.state ≡ false → false ≡ true ↔ IsInTurn l h
not_joined l h e = (λ x. cc, λ t. let j : is_joined l.state ≡ true = t.joined in cc)

stranger_receives : (l : LinkView) (h : SpxHeader) (body : List ℕ) → is_joined l.state ≡ false → ReceiveSays l h body (Stranger, l)
stranger_receives l h body e =
    record {
      course = record { state = refl; end_queued = refl; peer_ended = refl; queue = λ no. absurd (no refl); unknown = λ _. refl; done = λ x. cc };
      turns = not_joined l h e;
      held = λ x. cc;
      ahead = λ x. cc;
      none_ahead = λ x. cc;
      same = λ _. (refl, refl);
      ends = λ x. cc;
      goes_on = λ x. cc;
      own = λ read _. absurd (read refl);
    }

reply_receives : (l : LinkView) (h : SpxHeader) (body : List ℕ) → is_joined l.state ≡ false → ReceiveSays l h body (R.receive_reply l h)
reply_receives l h body e =
    by_test (ReceiveSays l h body) (R.is_reply l h) (Joined, R.read_numbers (R.joined_link l h) h) (Stranger, l)
    (λ _. record {
      course = record { state = refl; end_queued = refl; peer_ended = refl; queue = λ _. refl; unknown = λ x. cc; done = λ x. cc };
      turns = not_joined l h e;
      held = λ x. cc;
      ahead = λ x. cc;
      none_ahead = λ x. cc;
      same = λ _. (refl, refl);
      ends = λ x. cc;
      goes_on = λ x. cc;
      own = λ _ other. absurd (other refl);
    })
    (λ _. stranger_receives l h body e)

receive_at_says : (s : State) (l : LinkView) (h : SpxHeader) (body : List ℕ) → l.state ≡ s → ReceiveSays l h body (receive_at s l h body)
receive_at_says States.Opening l h body e = reply_receives l h body (ap is_joined e)
receive_at_says States.Live l h body e = of_joined l h body (ap is_joined e)
receive_at_says States.Ending l h body e = of_joined l h body (ap is_joined e)
receive_at_says States.PeerEnded l h body e = of_joined l h body (ap is_joined e)
receive_at_says States.Confirmed l h body e = of_joined l h body (ap is_joined e)
receive_at_says States.Lost l h body e = stranger_receives l h body (ap is_joined e)

pub receive_says : (l : LinkView) (h : SpxHeader) (body : List ℕ) → ReceiveSays l h body (receive_link l h body)
receive_says l h body = receive_at_says l.state l h body refl

-- the units that are left to send
pub units_left : (l m : LinkView) (count : ℕ) → m.queue ≡ drop count l.queue → queued_units m ≡ drop count (queued_units l)
units_left l m count e = ap (map unit_of) e ∙ sym (drop-map unit_of count l.queue)

-- ---- offers

units_queued : (us : List units.Unit) → map unit_of (map queued us) ≡ us
units_queued [] = refl
units_queued (u ∷ us) = ap (λ (rest : List units.Unit). u ∷ rest) (units_queued us)

pub units_joined : (qs : List Queued) (us : List units.Unit) → map unit_of (qs ++ map queued us) ≡ map unit_of qs ++ us
units_joined qs us = map-append unit_of qs (map queued us) ∙ ap (λ (more : List units.Unit). map unit_of qs ++ more) (units_queued us)

-- ---- takes

pub record TakeSays (l : LinkView) (r : Option units.Unit × LinkView) : Type 0 where
  pub gives : r.0 ≡ first_of l.held
  pub held : r.1.held ≡ drop 1 l.held
  pub ahead : r.1.ahead ≡ l.ahead
  pub queued : queued_units r.1 ≡ queued_units l
  pub endings : SameEndings l r.1
  pub state : r.1.state ≡ l.state

take_held_says : (l : LinkView) (us : List units.Unit) → l.held ≡ us → TakeSays l (take_held l us)
take_held_says l [] e =
    record {
      gives = ap first_of (sym e);
      held = e ∙ ap (drop 1) (sym e);
      ahead = refl;
      queued = refl;
      endings = record { end_queued = refl; peer_ended = refl };
      state = refl;
    }
take_held_says l (u ∷ us) e =
    record {
      gives = ap first_of (sym e);
      held = ap (drop 1) (sym e);
      ahead = refl;
      queued = refl;
      endings = record { end_queued = refl; peer_ended = refl };
      state = refl;
    }

pub take_says : (l : LinkView) → TakeSays l (take_link l)
take_says l = take_held_says l l.held refl
