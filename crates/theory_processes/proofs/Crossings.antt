-- Everything that a paced link gives at one time, read by its peer at once. If a unit is outstanding and its wait is
-- over, or may be sent for the first time, then the first one that is not acknowledged reaches the peer.
use Rattle.std.proofs.Common.{ℕ, ◌+◌, ◌-◌, ◌^◌, ◌<◌, ◌≤◌, ◌≡◌, ◌⊎◌, ◌&&◌, true, length, take, nat_lt, ltb-true, Option, None, Some, refl, sym, ap, ◌∙◌, subst, inl, inr, arith, length-take}
use Rattle.std.proofs.lemmas.Bool.{and_parts, cond-true, leb-true, lt-ltb}
use Rattle.std.specs.Prelude.{⊤}
use Rattle.spx_link.specs.declared.outgoing.Sent.{Sent}
use Rattle.spx_link.specs.declared.outgoing.Sent.TheVariants as Sents
use Rattle.spx_link.specs.Limits.{most_manual_probes, most_sends, most_units}
use Rattle.spx_link.specs.LinkView.{LinkView, due, is_working}
use Rattle.spx_link.specs.LinkTurns.{is_joined}
use Rattle.spx_link.specs.Machine.{End, AreSound, got, packet_now}
use Rattle.spx_link.specs.Poll.{OutgoingView, asked_again, base, is_waiting, late, late_if_working, may_send, most_probes, place_below, poll_link, wanted}
use Rattle.spx_link.specs.SequenceMarks.{distance, mark}
use Rattle.spx_congestion.specs.Giving.{gave_of}
use Rattle.spx_congestion.specs.Pacing.{PacerView, Tends, given_by, has_credit, has_given_up, plan_of, with_outstanding}
use Rattle.spx_congestion.specs.Saving.{HasSaved}
use Rattle.spx_congestion.specs.Waiting.{TimesOut}
use Rattle.spx_theory.specs.Named.{AreNamed}
use Rattle.spx_theory.specs.PairSteps.{Polled}
use Rattle.spx_theory.specs.Spelling.{PolledTo}
use Rattle.spx_theory.specs.Tracks.{Follows, IsOpen, core}
use Rattle.spx_theory.proofs.Amid.{outstanding_there}
use Rattle.spx_theory.proofs.Ending.{not_yet}
use Rattle.spx_theory.proofs.Entries.{carries_unit}
use Rattle.spx_theory.proofs.Having.{Has, has_on}
use Rattle.spx_theory.proofs.Hearing.{Owes}
use Rattle.spx_theory.proofs.PollCases.{IsResting, poll_by}
use Rattle.spx_theory.proofs.RoundLists.{and_both}
use Rattle.spx_theory.proofs.RoundPackets.{PositionIs, Spoken, spoken}
use Rattle.spx_theory.proofs.RoundPolls.{Gave, GivesUp, KindOf, KindsBy, poll_kinds}
use Rattle.theory_processes.specs.PacedRounds.{PacedConveys, Plans, noted, loses, rests, gives}
use Rattle.theory_processes.specs.PacingLaws.{PacingLaws}
use Rattle.theory_processes.proofs.Amidst.{Amid, Stepped, planned, step}
use Rattle.theory_processes.proofs.PacerPlanning.{ComesFirst, IsFree, Timed, first_given, first_plan, given_base, given_tick, next_plan, plan_again, plan_base, plan_first, plan_tick, saved_given, timed_given}
use Rattle.theory_processes.proofs.Unpacing.{paced, set_is}

-- ---- what a poll gives

-- a new unit is within the window, and one that is sent again is at the place that is due
abbrev IsAs : Sent → LinkView → ℕ → OutgoingView → Type 0
IsAs Sents.Request l now g = ⊤
IsAs Sents.Reply l now g = ⊤
IsAs Sents.Confirm l now g = ⊤
IsAs Sents.Unit l now g = l.out < l.window
IsAs Sents.Again l now g = (k : ℕ) × (late_if_working l now ≡ Some k) × (g.header.seq ≡ mark (base l + k))
IsAs Sents.Ack l now g = ⊤
IsAs Sents.Probe l now g = ⊤

abbrev IsAsIn : LinkView → ℕ → Option OutgoingView → Type 0
IsAsIn l now None = ⊤
IsAsIn l now (Some g) = IsAs g.what l now g

abbrev IsAsBy : LinkView → ℕ → Option OutgoingView × LinkView → Type 0
IsAsBy l now r = IsAsIn l now r.0

within_window : (l : LinkView) → may_send l ≡ true → l.out < l.window
within_window l may =
    let a = and_parts (is_working l.state) (is_waiting l && (nat_lt 0 l.room && (nat_lt l.out most_units && nat_lt l.out l.window))) may in
    let b = and_parts (is_waiting l) (nat_lt 0 l.room && (nat_lt l.out most_units && nat_lt l.out l.window)) a.1 in
    let c = and_parts (nat_lt 0 l.room) (nat_lt l.out most_units && nat_lt l.out l.window) b.1 in
    let d = and_parts (nat_lt l.out most_units) (nat_lt l.out l.window) c.1 in
    ltb-true l.out l.window d.1

given_as : (l : LinkView) (now : ℕ) → is_joined l.state ≡ true → IsAsBy l now (poll_link l now)
given_as l now joined =
    poll_by l now (IsAsBy l now) (record {
      replied = λ e. tt;
      confirmed = λ e. tt;
      sent = λ q may is. within_window l may;
      again = λ k q late' is few. (k, late', refl);
      gave_up = λ k q late' is many. tt;
      nowhere = λ k late' is. tt;
      acked = λ e. tt;
      probed = λ may few. tt;
      gave_up_probing = λ may many. tt;
      rests = λ r. tt;
    }) joined

-- ---- the first unit that is not acknowledged

-- either one is outstanding, and the plan is to send the first of them again; or none is, and one may be sent
pub record Ahead (since now : ℕ) (a : LinkView) (p : PacerView) : Type 0 where
  pub saved : HasSaved p since
  pub turn : ((0 < a.out) × ComesFirst p a.out now) ⊎ ((a.out ≡ 0) × (0 < a.room) × (0 < length a.queue))

asks_first : (l : LinkView) (now : ℕ) → is_working l.state ≡ true → l.manual ≡ true → l.again ≡ Some 0 → 0 < l.out → 0 < length l.queue → late_if_working l now ≡ Some 0
asks_first l now works manual again some queue =
    let count : 0 < length (take l.out l.queue) = omega (arith, length-take l.out l.queue, some, queue) in
    let asked : asked_again l ≡ Some 0 = ap (place_below (length (take l.out l.queue))) again ∙ cond-true (nat_lt 0 (length (take l.out l.queue))) (Some 0) None (lt-ltb 0 (length (take l.out l.queue)) count) in
    cond-true (is_working l.state) (wanted l now) None works ∙ (cond-true l.manual (asked_again l) (late l now) manual ∙ asked)

-- a number identifies one index of those that are outstanding
same_place : (n base out next sent place seq : ℕ) → next ≡ mark sent → base + out ≡ sent → out ≤ 8192 → place < out → base ≤ n → n < sent
    → seq ≡ mark n → seq ≡ mark (distance next out + place) → n ≡ base + place
same_place n base out next sent place seq a b c d e f g h = omega arith

-- a link that was set by a plan
pub record IsSet (a : LinkView) (p1 : PacerView) (a1 : LinkView) : Type 0 where
  pub is : a1 ≡ paced (plan_of p1).window (plan_of p1).again a

set_of : (a a1 : LinkView) (p p1 : PacerView) (now : ℕ) → Plans a p now a1 p1 → IsSet a p1 a1
set_of a a1 p p1 now plan = record { is = plan.sets ∙ set_is (plan_of p1).window (plan_of p1).again a }

module _ (laws : PacingLaws) (since now : ℕ) (rested : since + 256 ≤ now) (a a1 : LinkView) (p p1 : PacerView) (plan : Plans a p now a1 p1) (fits : p.base + 1 < 2 ^ 64) where
  is_set : a1 ≡ paced (plan_of p1).window (plan_of p1).again a
  is_set = (set_of a a1 p p1 now plan).is

  same_out : a1.out ≡ a.out
  same_out = ap (λ (l : LinkView). l.out) is_set

  same_room : a1.room ≡ a.room
  same_room = ap (λ (l : LinkView). l.room) is_set

  same_queue : a1.queue ≡ a.queue
  same_queue = ap (λ (l : LinkView). l.queue) is_set

  credited : Ahead since now a p → has_credit p1 ≡ true
  credited ahead = (laws.goes_on p p1 since a.out now ahead.saved plan.tends).1 rested

  -- the plan for the first outstanding unit
  first_is : Ahead since now a p → 0 < a.out → ComesFirst p a.out now → (a1.window ≡ 0) × (a1.again ≡ Some 0)
  first_is ahead some comes =
      let is = plan_again p p1 a.out now plan.tends comes some fits (credited ahead) in
      (ap (λ (l : LinkView). l.window) is_set ∙ ap (λ (z : _). z.window) is, ap (λ (l : LinkView). l.again) is_set ∙ ap (λ (z : _). z.again) is)

  is_manual : a1.manual ≡ true
  is_manual = ap (λ (l : LinkView). l.manual) is_set

  -- such a link gives something
  must_give : is_working a1.state ≡ true → a1.out ≤ length a1.queue → Ahead since now a p → IsResting a1 now → ⊥
  must_give works there ahead r =
      elim ahead.turn [
        | inl first ↦
            let is = first_is ahead first.0 first.1 in
            let out : 0 < a1.out = omega (arith, same_out, first.0) in
            let asked : late_if_working a1 now ≡ Some 0 = asks_first a1 now works is_manual is.1 out (omega (arith, out, there)) in
            cc (sym asked ∙ r.late)
        | inr new ↦
            let opens : 0 < (plan_of p1).window = (laws.goes_on p p1 since a.out now ahead.saved plan.tends).2 rested new.0 in
            let window : a1.window ≡ (plan_of p1).window = ap (λ (l : LinkView). l.window) is_set in
            let may : may_send a1 ≡ true =
            and_both (is_working a1.state) _ works
            (and_both (is_waiting a1) _ (lt-ltb a1.out (length a1.queue) (omega (arith, same_out, new.0, new.2, ap length same_queue)))
            (and_both (nat_lt 0 a1.room) _ (lt-ltb 0 a1.room (omega (arith, same_room, new.1)))
            (and_both (nat_lt a1.out most_units) (nat_lt a1.out a1.window) (lt-ltb a1.out most_units (omega (arith, same_out, new.0))) (lt-ltb a1.out a1.window (omega (arith, same_out, new.0, opens, window)))))) in
            cc (sym may ∙ r.unit)
      ]

  -- and the first packet with a unit has the first one
  module _ (c d : End) (f : Follows a1 c d) (line : AreSound c d) (works : is_working a1.state ≡ true) (g : OutgoingView) (m : LinkView) (s : Spoken g.what m g c d) (ahead : Ahead since now a p) where
    abbrev Reached : Sent → Type 0
    Reached what = Ahead since now m (given_by (with_outstanding p1 m.out now) (gave_of what g.header.stream) now) ⊎ (s.position ≡ Some c.base)

    still : (what : Sent) → IsFree (gave_of what g.header.stream) → m.queue ≡ a1.queue → m.out ≡ a1.out → Reached what
    still what free queue out =
        let room : m.room ≡ a1.room = omega (arith, f.tracks.counts.room, f.tracks.counts.out, s.tracks.counts.room, s.tracks.counts.out, s.grew.base, s.grew.limit, out) in
        inl (record {
          saved = saved_given p p1 since a.out m.out now (gave_of what g.header.stream) free ahead.saved plan.tends;
          turn = elim ahead.turn [
            | inl first ↦ inl (omega (arith, first.0, out, same_out), inr (first_given p1 m.out now (gave_of what g.header.stream) free (plan_first p p1 a.out now plan.tends first.1)))
            | inr new ↦ inr (omega (arith, new.0, out, same_out), omega (arith, new.1, room, same_room), omega (arith, new.2, ap length queue, ap length same_queue))
          ];
        })

    reach : (what : Sent) → KindOf what a1 now g m → PositionIs what c s.position → IsAs what a1 now g → Reached what
    reach Sents.Request kind at as' = absurd kind
    reach Sents.Reply kind at as' = still Sents.Reply refl kind.queue kind.out
    reach Sents.Confirm kind at as' = still Sents.Confirm refl kind.queue kind.out
    reach Sents.Unit kind at as' =
        elim ahead.turn [
          | inl first ↦ let is = first_is ahead first.0 first.1 in absurd (omega (arith, as', is.0))
          | inr new ↦ let place : c.sent ≡ c.base = omega (arith, f.tracks.counts.out, same_out, new.0) in inr (at ∙ ap (λ n. Some n) place)
        ]
    reach Sents.Again kind at as' =
        elim ahead.turn [
          | inl first ↦
              let is = first_is ahead first.0 first.1 in
              let out : 0 < a1.out = omega (arith, same_out, first.0) in
              let there = outstanding_there a1 c d f line in
              let asked : late_if_working a1 now ≡ Some 0 = asks_first a1 now works is_manual is.1 out (omega (arith, out, there.0)) in
              let both : Some as'.0 ≡ Some 0 = sym as'.1 ∙ asked in
              let zero : as'.0 ≡ 0 = cc both in
              let number : g.header.seq ≡ mark (distance a1.next a1.out + 0) = as'.2 ∙ ap (λ k. mark (base a1 + k)) zero in
              let t = f.tracks.counts in
              let place : at.0 ≡ c.base + 0 =
              same_place at.0 c.base a1.out a1.next c.sent 0 g.header.seq t.next t.out t.window out at.2 at.3 (carries_unit s.position at.0 s.after.units g.header g.body at.1 s.carries).1 number in
              inr (at.1 ∙ ap (λ n. Some n) (omega (arith, place)))
          | inr new ↦ absurd (omega (arith, kind.below, same_out, new.0))
        ]
    reach Sents.Ack kind at as' = still Sents.Ack refl kind.queue kind.out
    reach Sents.Probe kind at as' = still Sents.Probe refl kind.queue kind.out

-- ---- all packets

-- the end c0 has a unit for the peer: one that is outstanding, or one that it may send
pub record HasNext (a : LinkView) : Type 0 where
  pub works : is_working a.state ≡ true
  pub some : (0 < a.out) ⊎ ((a.out ≡ 0) × (0 < a.room) × (0 < length a.queue))

-- the peer has the unit of this position, and owes an answer
abbrev pub IsThere : LinkView → End → ℕ → Type 0
IsThere b d n = Has d n × Owes b

-- a pacer in the round that began with p0
pub record InRound (now : ℕ) (p0 : PacerView) (out0 : ℕ) (p : PacerView) : Type 0 where
  pub base : p.base ≡ p0.base
  pub tick : p.tick ≤ now
  pub timed : Timed p0 out0 now p

pub record PacedCrossed (now : ℕ) (a0 b0 : LinkView) (p0 : PacerView) (c0 d0 : End) (a b : LinkView) (p : PacerView) : Type 0 where
  pub one : End
  pub two : End
  pub mid : Amid now a0 b0 c0 d0 a b one two
  pub rests : IsResting a now
  pub paces : InRound now p0 a0.out p
  pub reaches : HasNext a0 → IsThere b two c0.base

-- a manual link that rests has not given up
module _ (now : ℕ) (a0 b0 : LinkView) (c0 d0 : End) (a b : LinkView) (c d : End) (manual : a.manual ≡ true) (mid : Amid now a0 b0 c0 d0 a b c d) where
  never_gives_up : GivesUp a now → ⊥
  never_gives_up g =
      elim g.why [
        | inl late' ↦ omega (arith, mid.counts late'.place late'.unit late'.below late'.there, leb-true most_sends late'.unit.count late'.often)
        | inr probe ↦ elim mid.probes [
          | inl few ↦ omega (arith, few, leb-true (most_probes a) a.probes probe.often, cond-true a.manual most_manual_probes most_sends manual)
          | inr now' ↦ cc (sym (ap (λ t. due t now) now'.0 ∙ not_yet now) ∙ probe.due')
        ]
      ]

-- before a plan: the first one of the round, or a later one
abbrev Before : ℕ → LinkView → PacerView → LinkView → PacerView → Type 0
Before now a0 p0 a p = ((p ≡ p0) × (a.out ≡ a0.out)) ⊎ Timed p0 a0.out now p

module _ (laws : PacingLaws) (since now : ℕ) (rested : since + 256 ≤ now) (shown : now < 2 ^ 64 - 1) (a0 b0 : LinkView) (p0 : PacerView) (c0 d0 : End) (names : AreNamed a0 b0)
    (joined : is_joined a0.state ≡ true) (ripe : 0 < a0.out → TimesOut p0 a0.out now) (few : p0.trip.doubled + 1 < 10) (fits : p0.base + 1 < 2 ^ 64) where
  timed_on : (a a1 : LinkView) (p p1 : PacerView) → Plans a p now a1 p1 → Before now a0 p0 a p → Timed p0 a0.out now p1
  timed_on a a1 p p1 plan (inl start) =
      let t : Tends p0 a0.out now p1 = subst (λ n. Tends p0 n now p1) start.1 (subst (λ z. Tends z a.out now p1) start.0 plan.tends) in
      first_plan p0 p1 a0.out now t ripe
  timed_on a a1 p p1 plan (inr was) = next_plan laws.waits p0 a0.out p p1 a.out now plan.tends shown was

  not_given_up : (p1 : PacerView) → Timed p0 a0.out now p1 → has_given_up p1 ≡ true → ⊥
  not_given_up p1 t gone = omega (arith, leb-true 10 p1.trip.doubled gone, t.few, few)

  pub cross : (a b a' b' : LinkView) (p p' : PacerView) → PacedConveys a p b now a' p' b' → (c d : End) → Amid now a0 b0 c0 d0 a b c d → Before now a0 p0 a p
      → p.base ≡ p0.base → p.tick ≤ now → (HasNext a0 → Ahead since now a p ⊎ IsThere b d c0.base) → PacedCrossed now a0 b0 p0 c0 d0 a' b' p'
  cross a b a' b' p p' (loses {a1 = a1} plan gone) c d mid before base tick goal =
      absurd (not_given_up p' (timed_on a a1 p p' plan before) (and_parts (is_working a1.state) (has_given_up p') gone).1)
  cross a b a' b' p p' (rests {a1 = a1} plan on is) c d mid before base tick goal =
      let set = (set_of a a1 p p' now plan).is in
      let mid1 : Amid now a0 b0 c0 d0 a1 b c d = subst (λ z. Amid now a0 b0 c0 d0 z b c d) (sym set) (planned now a0 b0 c0 d0 a b c d (plan_of p').window (plan_of p').again mid) in
      let manual : a1.manual ≡ true = ap (λ (l : LinkView). l.manual) set in
      let timed : Timed p0 a0.out now p' = timed_on a a1 p p' plan before in
      elim (subst (KindsBy a1 now) is (poll_kinds a1 now (ap is_joined mid1.state ∙ joined))) [
        | inl rest ↦ record {
          one = c;
          two = d;
          mid = subst (λ k. Amid now a0 b0 c0 d0 k b c d) (sym rest.0) mid1;
          rests = subst (λ k. IsResting k now) (sym rest.0) rest.1;
          paces = record { base = plan_base p p' a.out now plan.tends ∙ base; tick = omega (arith, plan_tick p p' a.out now plan.tends tick); timed = timed };
          reaches = λ next. elim (goal next) [
            | inl ahead ↦
                let there = outstanding_there a1 c d mid1.first mid1.line in
                absurd (must_give laws since now rested a a1 p p' plan (omega (arith, fits, base)) (ap is_working mid1.state ∙ next.works) there.0 ahead rest.1)
            | inr there ↦ there
          ];
        }
        | inr gone ↦ absurd (never_gives_up now a0 b0 c0 d0 a1 b c d manual mid1 gone)
      ]
  cross a b a' b' p p' (gives {a1 = a1} {a2 = a2} {b1 = b1} {p1 = p1} g r plan on is read rest) c d mid before base tick goal =
      let set = (set_of a a1 p p1 now plan).is in
      let mid1 : Amid now a0 b0 c0 d0 a1 b c d = subst (λ z. Amid now a0 b0 c0 d0 z b c d) (sym set) (planned now a0 b0 c0 d0 a b c d (plan_of p1).window (plan_of p1).again mid) in
      let manual : a1.manual ≡ true = ap (λ (l : LinkView). l.manual) set in
      let in_state : is_joined a1.state ≡ true = ap is_joined mid1.state ∙ joined in
      let timed : Timed p0 a0.out now p1 = timed_on a a1 p p1 plan before in
      let gave : Gave a1 now g a2 = subst (KindsBy a1 now) is (poll_kinds a1 now in_state) in
      let as' : IsAs g.what a1 now g = subst (IsAsBy a1 now) is (given_as a1 now in_state) in
      let polled : Polled a1 now c d = laws.links.steps.polls a1 now c d mid1.first mid1.line in
      let to : PolledTo (Some g) (core a2) c d = subst (λ z. PolledTo z.0 (core z.1) c d) is polled.to in
      let open' : IsOpen a2 = subst (λ z. IsOpen z.1) is polled.open' in
      let s : Spoken g.what a2 g c d = spoken laws.links g.what a2 g c d mid1.line to in
      let d' : End = got (packet_now s.position s.after d) d in
      let st : Stepped now a0 b0 c0 d0 b a2 b1 s.after d' s.position =
      subst (λ z. Stepped now a0 b0 c0 d0 b a2 z.1 s.after d' s.position) read (step laws.links now a0 b0 c0 d0 names a1 b c d manual mid1 g a2 gave s open') in
      let w = with_outstanding p1 a2.out now in
      cross a2 b1 a' b' (noted p1 a2 g now) p' rest s.after d' st.next
      (inr (timed_given p0 a0.out p1 (gave_of g.what g.header.stream) a2.out now timed))
      (given_base w (gave_of g.what g.header.stream) now ∙ (plan_base p p1 a.out now plan.tends ∙ base))
      (omega (arith, given_tick w (gave_of g.what g.header.stream) now, plan_tick p p1 a.out now plan.tends tick))
      (λ next. goal_on mid1 gave as' s st plan (goal next) next)
    where
      goal_on : Amid now a0 b0 c0 d0 a1 b c d → Gave a1 now g a2 → IsAs g.what a1 now g → (s : Spoken g.what a2 g c d) → Stepped now a0 b0 c0 d0 b a2 b1 s.after (got (packet_now s.position s.after d) d) s.position
          → Plans a p now a1 p1 → Ahead since now a p ⊎ IsThere b d c0.base → HasNext a0
          → Ahead since now a2 (noted p1 a2 g now) ⊎ IsThere b1 (got (packet_now s.position s.after d) d) c0.base
      goal_on mid1 gave as' s st plan (inl ahead) next =
          elim (reach laws since now rested a a1 p p1 plan (omega (arith, fits, base)) c d mid1.first mid1.line (ap is_working mid1.state ∙ next.works) g a2 s ahead g.what gave.kind s.at as') [
            | inl still ↦ inl still
            | inr here ↦ inr (st.met c0.base (here ∙ ap (λ n. Some n) mid1.grew.base))
          ]
      goal_on mid1 gave as' s st plan (inr there) next = inr (has_on s.position _ c0.base there.0, st.owes there.1)
