-- What each rule of a poll gives, and what it leaves of the units.
use Rattle.std.proofs.Common.{◌≡◌, ℕ, ◌+◌, ◌<◌, inl, inr, Bool, true, false, [], refl, ap, sym, ◌∙◌, if◌then◌else◌, ◌==◌, ◌&&◌, ◌||◌, not, nat_le, nat_lt, map, take, length, set, Option, None, Some, IfSome, slice_get, option_map, arith}
use Rattle.std.proofs.Math.Seq.{map-set_same}
use Rattle.std.proofs.lemmas.Bool.{and_parts}
use Rattle.std.proofs.lemmas.Bool.Decides.{nat_tests}
use Rattle.std.proofs.lemmas.List.{length-take}
use Rattle.std.proofs.lemmas.List.Quantifiers.{position-Some}
use Rattle.std.proofs.lemmas.Option.{slice_get-map, get_or_from_slice_get}
use Rattle.spx_link.specs.declared.queue.Queued.{Queued}
use Rattle.spx_link.specs.declared.unit.Unit.{Unit}
use Rattle.spx_link.specs.declared.outgoing.Sent.TheVariants as Sents
use Rattle.spx_link.specs.declared.state.State.{State}
use Rattle.spx_link.specs.declared.state.State.TheVariants as States
use Rattle.spx_link.specs.Limits.{most_units, most_sends, end_stream, confirm_stream}
use Rattle.spx_link.specs.LinkView.{LinkView, due, is_end, is_working}
use Rattle.spx_link.specs.Offer.{the_end}
use Rattle.spx_link.specs.Poll as P
use Rattle.spx_link.specs.Poll.{OutgoingView, poll_link, poll_at}
use Rattle.spx_link.specs.Units.{unit_of, queued_units, as_sent, SameUnits, SameEndings}
use Rattle.spx_link.specs.PolledPackets.{CarriesToPeer, IsGiven, StaysOrIsLost}

-- what holds of both sides holds of the choice, and may rest on the test
pub by_test : {A : Type 0} (P : A → Type 0) (b : Bool) (x y : A) → (b ≡ true → P x) → (b ≡ false → P y) → P (if b then x else y)
by_test P true x y p q = p refl
by_test P false x y p q = q refl

pub record PollSays (l : LinkView) (r : Option OutgoingView × LinkView) : Type 0 where
  pub gives : IfSome r.0 (IsGiven l)
  pub units : SameUnits l r.1
  pub endings : SameEndings l r.1
  pub state : StaysOrIsLost l.state r.1.state r.0

-- ---- without a unit

none_says : (l : LinkView) → PollSays l (None, l)
none_says l = record { gives = tt; units = record { queued = refl; held = refl; ahead = refl }; endings = record { end_queued = refl; peer_ended = refl }; state = inl refl }

lost_says : (l : LinkView) → PollSays l (None, P.lost l)
lost_says l =
    record { gives = tt; units = record { queued = refl; held = refl; ahead = refl }; endings = record { end_queued = refl; peer_ended = refl }; state = inr (refl, refl) }

request_says : (l : LinkView) (now : ℕ) → l.state ≡ States.Opening → PollSays l (P.requests l now)
request_says l now opening = record {
  gives = record { from = refl; read = refl; allows = refl; kind = (record { to = refl; unit = refl; number = refl; body = refl }, opening) };
  units = record { queued = refl; held = refl; ahead = refl };
  endings = record { end_queued = refl; peer_ended = refl };
  state = inl refl;
}

-- a packet without a unit to the peer, after which the link is m
other_says : (l m : LinkView) (o : OutgoingView) → IsGiven l o → m.queue ≡ l.queue → m.held ≡ l.held → m.ahead ≡ l.ahead → m.end_queued ≡ l.end_queued → m.peer_ended ≡ l.peer_ended → m.state ≡ l.state → PollSays l (Some o, m)
other_says l m o given queue held ahead queued ended state =
    record {
      gives = given;
      units = record { queued = ap (map unit_of) queue; held = held; ahead = ahead };
      endings = record { end_queued = queued; peer_ended = ended };
      state = inl state;
    }

-- ---- a unit

carries : (l : LinkView) (u : Unit) (seq : ℕ) → CarriesToPeer l u (P.with_unit l Sents.Unit u seq)
carries l u seq = record { to = refl; unit = refl; body = refl; system = refl }

-- a unit that is stamped is the same unit
stamped : (l : LinkView) (place : ℕ) (q new : Queued) → slice_get l.queue place ≡ Some q → new.unit ≡ q.unit → map unit_of (set l.queue place new) ≡ queued_units l
stamped l place q new at same = map-set_same unit_of l.queue place new q (same ∙ sym (ap unit_of (get_or_from_slice_get l.queue place q q at)))

unit_at : (l : LinkView) (place : ℕ) (q : Queued) → slice_get l.queue place ≡ Some q → slice_get (queued_units l) place ≡ Some q.unit
unit_at l place q at =
    let unit_or_none : Option Queued → Option Unit = option_map unit_of in
    slice_get-map unit_of l.queue place ∙ ap unit_or_none at

sends_says : (l : LinkView) (now : ℕ) (q : Option Queued) → slice_get l.queue l.out ≡ q → P.may_send l ≡ true → PollSays l (P.sends l now q)
sends_says l now None at may = none_says l
sends_says l now (Some q) at may =
    record {
      gives = record {
        from = refl;
        read = refl;
        allows = refl;
        kind = record {
          unit = q.unit;
          queued = unit_at l l.out q at;
          carries = carries l q.unit l.next;
          number = refl;
          room = grind (arith, nat_tests);
          window = grind (arith, nat_tests);
          working = (and_parts (is_working l.state) (P.is_waiting l && (nat_lt 0 l.room && (nat_lt l.out most_units && nat_lt l.out l.window))) may).0;
          paced = grind (arith, nat_tests);
        };
      };
      units = record { queued = stamped l l.out q (record { unit = q.unit; at = now; count = 1 }) at refl; held = refl; ahead = refl };
      endings = record { end_queued = refl; peer_ended = refl };
      state = inl refl;
    }

again_says : (l : LinkView) (now place : ℕ) (q : Queued) → slice_get l.queue place ≡ Some q → place < l.out → is_working l.state ≡ true → PollSays l (P.sends_again l now place q)
again_says l now place q at out working =
    record {
      gives = record {
        from = refl;
        read = refl;
        allows = refl;
        kind = record {
          unit = q.unit;
          place = place;
          outstanding = out;
          queued = unit_at l place q at;
          carries = record { to = refl; unit = refl; body = refl; system = refl };
          number = refl;
          working = working;
        };
      };
      units = record { queued = stamped l place q (record { unit = q.unit; at = now; count = P.count_again l q.count }) at refl; held = refl; ahead = refl };
      endings = record { end_queued = refl; peer_ended = refl };
      state = inl refl;
    }

again_or_lost_says : (l : LinkView) (now place : ℕ) (q : Option Queued) → slice_get l.queue place ≡ q → place < l.out → is_working l.state ≡ true → PollSays l (P.sends_again_or_lost l now place q)
again_or_lost_says l now place None at out working = none_says l
again_or_lost_says l now place (Some q) at out working =
    by_test (PollSays l) (nat_le most_sends q.count) (None, P.lost l) (P.sends_again l now place q) (λ _. lost_says l) (λ _. again_says l now place q at out working)

-- the late unit is outstanding
late_out : (l : LinkView) (now place : ℕ) (q : Queued) → P.late l now ≡ Some place → place < l.out
late_out l now place q e =
    -- by the clock
    let found = position-Some (λ (x : Queued). due x.at now) (take l.out l.queue) place q e in
    omega (arith, found.0, length-take l.out l.queue)

pub below_out : (count : ℕ) (o : Option ℕ) (place : ℕ) → P.place_below count o ≡ Some place → place < count
below_out count None place e = absurd (cc)
below_out count (Some k) place e = by_bool (nat_lt k count) refl e
  where
    by_bool : (b : Bool) → nat_lt k count ≡ b → (if b then Some k else None) ≡ Some place → place < count
    by_bool true less same = let is : k ≡ place = cc in grind (arith, nat_tests)
    by_bool false less same = absurd (cc)

wanted_out : (l : LinkView) (now place : ℕ) (q : Queued) → P.wanted l now ≡ Some place → place < l.out
wanted_out l now place q e = by_bool l.manual refl e
  where
    by_bool : (b : Bool) → l.manual ≡ b → (if b then P.asked_again l else P.late l now) ≡ Some place → place < l.out
    by_bool true hand same = let less = below_out (length (take l.out l.queue)) l.again place same in omega (arith, less, length-take l.out l.queue)
    by_bool false hand same = late_out l now place q same

-- ---- the rules

probe_says : (l : LinkView) (now : ℕ) → PollSays l (P.poll_probe l now)
probe_says l now =
    by_test (PollSays l) (P.may_probe l now) (P.probes_or_lost l now) (None, l)
    (λ _. by_test (PollSays l) (nat_le (P.most_probes l) l.probes) (None, P.lost l) (P.probes_once l now)
    (λ _. lost_says l)
    (λ _. other_says l (record l { probes = l.probes + 1; spoke = now }) (P.plain l Sents.Probe true 0 l.peer)
    (record { from = refl; read = refl; allows = refl; kind = record { to = refl; unit = refl; number = refl; body = refl } }) refl refl refl refl refl refl))
    (λ _. none_says l)

ack_says : (l : LinkView) (now : ℕ) → PollSays l (P.poll_ack l now)
ack_says l now =
    by_test (PollSays l) l.owes_ack (P.acknowledges l now) (P.poll_probe l now)
    (λ _. other_says l (record l { owes_ack = false; spoke = now }) (P.plain l Sents.Ack false 0 l.peer)
    (record { from = refl; read = refl; allows = refl; kind = record { to = refl; unit = refl; number = refl; body = refl } }) refl refl refl refl refl refl)
    (λ _. probe_says l now)

late_at_says : (l : LinkView) (now place : ℕ) (q : Option Queued) → slice_get l.queue place ≡ q → P.wanted l now ≡ Some place → is_working l.state ≡ true → PollSays l (P.sends_again_or_lost l now place q)
late_at_says l now place None at late working = none_says l
late_at_says l now place (Some q) at late working = again_or_lost_says l now place (Some q) at (wanted_out l now place q late) working

late_says : (l : LinkView) (now : ℕ) (place : Option ℕ) → P.wanted l now ≡ place → is_working l.state ≡ true → PollSays l (P.poll_late l now place)
late_says l now None late working = ack_says l now
late_says l now (Some place) late working = late_at_says l now place (slice_get l.queue place) refl late working

poll_again_says : (l : LinkView) (now : ℕ) → PollSays l (P.poll_again l now)
poll_again_says l now =
    by_test (λ (place : Option ℕ). PollSays l (P.poll_late l now place)) (is_working l.state) (P.wanted l now) None
    (λ working. late_says l now (P.wanted l now) refl working)
    (λ _. ack_says l now)

unit_says : (l : LinkView) (now : ℕ) → PollSays l (P.poll_unit l now)
unit_says l now =
    by_test (PollSays l) (P.may_send l) (P.sends l now (slice_get l.queue l.out)) (P.poll_again l now)
    (λ may. sends_says l now (slice_get l.queue l.out) refl may)
    (λ _. poll_again_says l now)

reply_says : (l : LinkView) (now : ℕ) → PollSays l (P.poll_reply l now)
reply_says l now =
    by_test (PollSays l) l.owes_reply (P.replies l now) (P.poll_confirm l now)
    (λ _. other_says l (record l { owes_reply = false; owes_ack = false; spoke = now }) (P.plain l Sents.Reply false 0 l.peer)
    (record { from = refl; read = refl; allows = refl; kind = record { to = refl; unit = refl; number = refl; body = refl } }) refl refl refl refl refl refl)
    (λ _. by_test (PollSays l) l.owes_confirm (P.confirms l now) (P.poll_unit l now)
    (λ _. other_says l (record l { owes_confirm = false; owes_ack = false; spoke = now }) (P.plain l Sents.Confirm false confirm_stream l.peer)
    (record { from = refl; read = refl; allows = refl; kind = record { to = refl; unit = refl; number = refl; body = refl } }) refl refl refl refl refl refl)
    (λ _. unit_says l now))

requests_say : (l : LinkView) (now : ℕ) → l.state ≡ States.Opening → PollSays l (P.poll_request l now)
requests_say l now opening =
    by_test (PollSays l) ((l.asked_count == 0) || due l.asked_at now) (P.requests_or_lost l now) (None, l)
    (λ _. by_test (PollSays l) (nat_le most_sends l.asked_count) (None, P.lost l) (P.requests l now) (λ _. lost_says l) (λ _. request_says l now opening))
    (λ _. none_says l)

poll_at_says : (s : State) (l : LinkView) (now : ℕ) → l.state ≡ s → PollSays l (poll_at s l now)
poll_at_says States.Opening l now e = requests_say l now e
poll_at_says States.Live l now e = reply_says l now
poll_at_says States.Ending l now e = reply_says l now
poll_at_says States.PeerEnded l now e = reply_says l now
poll_at_says States.Confirmed l now e = reply_says l now
poll_at_says States.Lost l now e = none_says l

pub poll_says : (l : LinkView) (now : ℕ) → PollSays l (poll_link l now)
poll_says l now = poll_at_says l.state l now refl

-- ---- units as they are sent

and_true : (b : Bool) → (b && true) ≡ b
and_true true = refl
and_true false = refl

sent_by : (u : Unit) (ends : Bool) → ends ≡ false → record { stream = u.stream; last = u.last && not ends; body = record { items = if ends then [] else u.body.items } } ≡ u
sent_by u true e = cc
sent_by u false e = ap (λ (last : Bool). record u { last = last }) (and_true u.last)

pub sent_as_it_is : (u : Unit) → u.stream < end_stream → as_sent u ≡ u
sent_as_it_is u below = sent_by u (is_end u) (grind (arith, nat_tests))

pub end_sent_as_it_is : as_sent the_end ≡ the_end
end_sent_as_it_is = refl
