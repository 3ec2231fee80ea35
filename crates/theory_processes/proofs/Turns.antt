-- Round after round with plans: how many are enough.
use Rattle.std.proofs.Common.{ℕ, suc, ◌+◌, ◌<◌, ◌≤◌, ◌≡◌, ◌⊎◌, ◌++◌, true, false, List, [], length, take, drop, refl, sym, ap, ◌∙◌, subst, inl, inr, ⊎_elim, arith, eqb-true}
use Rattle.std.proofs.lemmas.Bool.{cases_lt, false_from_ne_true}
use Rattle.std.proofs.lemmas.Option.{slice_get_within}
use Rattle.spx_link.specs.declared.unit.Unit.{Unit}
use Rattle.spx_link.specs.declared.state.State.TheVariants as S
use Rattle.spx_link.specs.LinkTurns.{is_joined}
use Rattle.spx_link.specs.LinkView.{LinkView, is_end, is_working}
use Rattle.spx_link.specs.Machine.{End}
use Rattle.spx_link.specs.Offer.{the_end}
use Rattle.spx_link.specs.Receive.{after_end}
use Rattle.spx_congestion.specs.Pacing.{PacerView}
use Rattle.spx_theory.specs.LosslessRounds.{Rise}
use Rattle.spx_theory.specs.Tracks.{may_end}
use Rattle.spx_theory.proofs.Amid.{Unread, outstanding_there}
use Rattle.spx_theory.proofs.Halves.{EndsBack, SameBack}
use Rattle.spx_theory.proofs.RoundLists.{empty_list, none_between, seam, take_all}
use Rattle.spx_theory.proofs.RoundPolls.{Owed}
use Rattle.spx_theory.proofs.Turning.{Closing, sends_is}
use Rattle.theory_processes.specs.PacedDelivers.{CanDeliverPaced, PacedRoundsDeliver}
use Rattle.theory_processes.specs.PacedRounds.{AreRipe, PacedRounds, PacedTurns, over, after}
use Rattle.theory_processes.specs.PacingLaws.{PacingLaws}
use Rattle.theory_processes.proofs.Crossings.{HasNext}
use Rattle.theory_processes.proofs.Rounds.{IsInformed, PacedRounded, Standing, round_on}

-- a unit is outstanding, or may be sent
abbrev pub CanSend : End → Type 0
CanSend c = (c.base < c.sent) ⊎ (c.sent < c.limit)

-- how far it is: n more rounds are enough
pub data Phase (a : LinkView) (c : End) : ℕ → Type 0 where
  at_first : {n : ℕ} → 3 + length c.units ≤ n + c.base → Phase a c n
  waits : {n : ℕ} → a.held ≡ [] → 2 + length c.units ≤ n + c.base → Phase a c n
  quiet : {n : ℕ} → (Owed a → ⊥) → 1 + length c.units ≤ n + c.base → Phase a c n
  settled : {n : ℕ} → CanSend c → length c.units ≤ n + c.base → Phase a c n

pub record StillSends (a : LinkView) (c : End) (n : ℕ) : Type 0 where
  pub works : is_working a.state ≡ true
  pub phase : Phase a c n

-- n rounds are enough
abbrev pub Enough : LinkView → End → ℕ → Type 0
Enough a c n = (length c.units ≤ c.base) ⊎ StillSends a c n

-- at least so many rounds are enough
few_enough : (a : LinkView) (c : End) (n : ℕ) → Phase a c n → length c.units ≤ n + c.base
few_enough a c n (at_first enough) = omega (arith, enough)
few_enough a c n (waits held enough) = omega (arith, enough)
few_enough a c n (quiet none enough) = omega (arith, enough)
few_enough a c n (settled can enough) = enough

module _ (since now : ℕ) (a : LinkView) (p : PacerView) (b a' : LinkView) (p' : PacerView) (b' : LinkView) (c d : End) (us : List Unit) (ready : Standing since a p b c d) (r : PacedRounded now a b a' p' b' c d us) (buffers : 0 < d.buffers) where
  -- the first link was told what it may send next, and has units: it can send one
  informed : IsInformed r.one r.two → CanSend r.one
  informed told =
      ⊎_elim
      (λ (some : r.one.base < r.one.sent). inl some)
      (λ (none : r.one.sent ≤ r.one.base).
      inr (omega (arith, none, told.limit, r.taken, r.buffers, buffers, r.ready.line.there.base, r.ready.line.there.read)))
      (cases_lt r.one.base r.one.sent)

  -- in this round one more is acknowledged
  next_phase : (n : ℕ) → is_working a'.state ≡ true → HasNext a → length c.units ≤ suc n + c.base → StillSends a' r.one n
  next_phase n works next few =
      let one = r.next next in
      record { works = works; phase = settled (informed one.1) (omega (arith, few, one.0, ap length r.units)) }

  -- none can be sent: nothing is outstanding, and nothing is allowed
  no_phase : (n : ℕ) → is_working a.state ≡ true → is_working a'.state ≡ true → a.out ≡ 0 → a.room ≡ 0 → Phase a c (suc n) → Enough a' r.one n
  no_phase n works goes_on out room (at_first enough) =
      elim r.course [
        | inl told ↦ inr (record { works = goes_on; phase = settled (informed told) (omega (arith, enough, r.base, ap length r.units)) })
        | inr still ↦ inr (record { works = goes_on; phase = waits r.held (omega (arith, enough, r.base, ap length r.units)) })
      ]
  no_phase n works goes_on out room (waits held enough) =
      elim r.course [
        | inl told ↦ inr (record { works = goes_on; phase = settled (informed told) (omega (arith, enough, r.base, ap length r.units)) })
        | inr still ↦ inr (record { works = goes_on; phase = quiet (still.none held) (omega (arith, enough, r.base, ap length r.units)) })
      ]
  no_phase n works goes_on out room (quiet none enough) =
      elim r.course [
        | inl told ↦ inr (record { works = goes_on; phase = settled (informed told) (omega (arith, enough, r.base, ap length r.units)) })
        | inr still ↦ inl (omega (arith, still.probes none works out room, r.base, ap length r.units))
      ]
  no_phase n works goes_on out room (settled can enough) =
      let t = ready.first.tracks.counts in
      absurd (elim can [ inl some ↦ omega (arith, some, out, t.out) | inr some ↦ omega (arith, some, room, t.room) ])

  phase_on : (n : ℕ) → is_working a.state ≡ true → is_working a'.state ≡ true → c.base < length c.units → Phase a c (suc n) → Enough a' r.one n
  phase_on n works goes_on more phase =
      let there = outstanding_there a c d ready.first ready.line in
      let few : length c.units ≤ suc n + c.base = few_enough a c (suc n) phase in
      ⊎_elim
      (λ (some : 0 < a.out). inr (next_phase n goes_on (record { works = works; some = inl some }) few))
      (λ (none : a.out ≤ 0).
      let out : a.out ≡ 0 = omega (arith, none) in
      ⊎_elim
      (λ (some : 0 < a.room). inr (next_phase n goes_on (record { works = works; some = inr (out, some, omega (arith, there.1, more)) }) few))
      (λ (full : a.room ≤ 0). no_phase n works goes_on out (omega (arith, full)) phase)
      (cases_lt 0 a.room))
      (cases_lt 0 a.out)

  done_on : length c.units ≤ c.base → length r.one.units ≤ r.one.base
  done_on all = omega (arith, all, r.base, ap length r.units)

  pub enough_on : (n : ℕ) → Enough a c (suc n) → Enough a' r.one n
  enough_on n (inl all) = inl (done_on all)
  enough_on n (inr sends) =
      ⊎_elim
      (λ (more : c.base < length c.units).
      elim r.state [
        | inl same ↦ phase_on n sends.works (ap is_working same ∙ sends.works) more sends.phase
        | inr done ↦ inl (omega (arith, done.2, (outstanding_there a' r.one r.two r.ready.first r.ready.line).1))
      ])
      (λ (all : length c.units ≤ c.base). inl (done_on all))
      (cases_lt c.base (length c.units))

at_last : (a : LinkView) (c : End) → Enough a c 0 → length c.units ≤ c.base
at_last a c (inl all) = all
at_last a c (inr sends) = omega (arith, few_enough a c 0 sends.phase)

-- ---- rounds one after another

pub record PacedTurned (a b a' : LinkView) (p' : PacerView) (b' : LinkView) (c d : End) (moments : List ℕ) (us : List Unit) : Type 0 where
  pub one : End
  pub two : End
  pub since : ℕ
  pub ready : Standing since a' p' b' one two
  pub units : one.units ≡ c.units
  pub got : us ≡ drop d.taken (take two.taken c.units)
  pub later : d.taken ≤ two.taken
  pub taken : (d.taken ≡ d.read) ⊎ (0 < length moments) → two.taken ≡ two.read
  pub enough : (n : ℕ) → Enough a c (n + length moments) → Enough a' one n
  pub queued : a'.end_queued ≡ a.end_queued
  pub state : (a'.state ≡ a.state) ⊎ ((a'.state ≡ S.Confirmed) × (a.end_queued ≡ true))
  pub closing : Closing a b → Closing a' b'
  pub unread : Unread b c d → Unread b' one two

closing_on : (a b a' b' : LinkView) → a'.end_queued ≡ a.end_queued → (a'.state ≡ a.state) ⊎ ((a'.state ≡ S.Confirmed) × (a.end_queued ≡ true) × (length a'.queue ≡ 0)) → SameBack b b' ⊎ EndsBack a a' b b' → Closing a b → Closing a' b'
closing_on a b a' b' queued state (inl same) (inl live) = inl (same.state ∙ live.0, same.ended ∙ live.1)
closing_on a b a' b' queued state (inl same) (inr ended) =
    inr (same.state ∙ ended.0, same.ended ∙ ended.1, λ q. elim state [ inl as_was ↦ as_was ∙ ended.2 (sym queued ∙ q) | inr done ↦ done.0 ])
closing_on a b a' b' queued state (inr ends) (inl live) = inr (ends.state ∙ ap after_end live.0, ends.ended, λ q. ends.closes (sym queued ∙ q))
closing_on a b a' b' queued state (inr ends) (inr ended) = inr (ends.state ∙ ap after_end ended.0, ends.ended, λ q. ends.closes (sym queued ∙ q))

state_on : (a b c : LinkView) → b.end_queued ≡ a.end_queued → (b.state ≡ a.state) ⊎ ((b.state ≡ S.Confirmed) × (a.end_queued ≡ true)) → (c.state ≡ b.state) ⊎ ((c.state ≡ S.Confirmed) × (b.end_queued ≡ true))
    → (c.state ≡ a.state) ⊎ ((c.state ≡ S.Confirmed) × (a.end_queued ≡ true))
state_on a b c queued (inl one) (inl two) = inl (two ∙ one)
state_on a b c queued (inr one) (inl two) = inr (two ∙ one.0, one.1)
state_on a b c queued one (inr two) = inr (two.0, sym queued ∙ two.1)

pub turned : (laws : PacingLaws) (a : LinkView) (p : PacerView) (b a' : LinkView) (p' : PacerView) (b' : LinkView) (moments : List ℕ) (us vs : List Unit) → (turns : PacedTurns a p b moments a' p' b' us vs) → AreRipe turns → (since : ℕ) (c d : End) → Rise since moments → 0 < d.buffers → Standing since a p b c d
    → PacedTurned a b a' p' b' c d moments us
turned laws a p b a' p' b' moments us vs over ripe since c d rise buffers r =
    record {
      one = c;
      two = d;
      since = since;
      ready = r;
      units = refl;
      got = sym (none_between d.taken c.units);
      later = omega arith;
      taken = λ z. elim z [ inl same ↦ same | inr some ↦ absurd (omega (arith, some)) ];
      enough = λ n e. subst (Enough a c) (omega arith) e;
      queued = refl;
      state = inl refl;
      closing = λ z. z;
      unread = λ z. z;
    }
turned laws a p b a' p' b' moments us vs (after {a1 = a1} {b1 = b1} {p1 = p1} {now = now} {moments = more} {ub = ub} {ua = ua} {units_b = ub'} {units_a = ua'} round rest) ripe since c d rise buffers r =
    let one : PacedRounded now a b a1 p1 b1 c d ub = round_on laws since now a p b c d rise.0 ripe.0 r a1 p1 b1 ub ua round in
    let next : PacedTurned a1 b1 a' p' b' one.one one.two more ub' = turned laws a1 p1 b1 a' p' b' more ub' ua' rest ripe.1 now one.one one.two rise.1 (omega (arith, buffers, one.buffers)) one.ready in
    let low : d.taken ≤ one.two.taken = omega (arith, one.taken, one.read, r.line.peer_within.taken) in
    record {
      one = next.one;
      two = next.two;
      since = next.since;
      ready = next.ready;
      units = next.units ∙ one.units;
      got = ap (λ xs. xs ++ ub') (one.got ∙ ap (λ n. drop d.taken (take n c.units)) (sym one.taken))
          ∙ (ap (λ xs. drop d.taken (take one.two.taken c.units) ++ xs) (next.got ∙ ap (λ xs. drop one.two.taken (take next.two.taken xs)) one.units)
          ∙ seam d.taken one.two.taken next.two.taken c.units low next.later);
      later = omega (arith, low, next.later);
      taken = λ z. next.taken (inl one.taken);
      enough = λ n e. next.enough n (enough_on since now a p b a1 p1 b1 c d ub r one buffers (n + length more) (subst (Enough a c) (omega arith) e));
      queued = next.queued ∙ one.queued;
      state = state_on a a1 a' one.queued (elim one.state [ inl same ↦ inl same | inr done ↦ inr (done.0, done.1) ]) next.state;
      closing = λ z. next.closing (closing_on a b a1 b1 one.queued one.state one.back z);
      unread = λ z. next.unread (one.unread z);
    }

pub standing : (a : LinkView) (p : PacerView) (b a' : LinkView) (p' : PacerView) (b' : LinkView) (c d : End) (moments : List ℕ) (us vs : List Unit) → CanDeliverPaced a p b c d → (rounds : PacedRounds a p b moments a' p' b' us vs) → Standing rounds.since a p b c d
standing a p b a' p' b' c d moments us vs can rounds =
    let sends = sends_is a can.sends in
    record {
      first = can.step.first;
      second = can.step.second;
      line = can.step.line;
      names = can.step.names;
      joined = sends.0;
      joined_b = ap is_joined can.live;
      spoke = rounds.first;
      spoke_b = rounds.second.spoke;
      by_b = rounds.second.sent;
      counts = can.first.sent;
      probes = can.first.probes;
      back = λ works. inl (can.second.sent, can.second.probes);
      ended = λ e. absurd (cc (sym can.goes_on ∙ e));
      open' = can.step.second.open' (ap may_end can.live);
      pace_b = can.unpaced_b;
      tick = rounds.planned;
      few = can.paces.timeouts;
      fits = omega (arith, can.paces.counts, (outstanding_there a c d can.step.first can.step.line).1, can.step.line.there.base, can.step.line.there.read, can.step.line.within.sent);
      works = inl sends.1;
    }

pub delivers : (laws : PacingLaws) → PacedRoundsDeliver
delivers laws a b a' b' p p' c d moments us vs can rounds long =
    let r : Standing rounds.since a p b c d = standing a p b a' p' b' c d moments us vs can rounds in
    let some : 0 < d.buffers = omega (arith, can.buffers, can.step.second.tracks.counts.buffers) in
    let t : PacedTurned a b a' p' b' c d moments us = turned laws a p b a' p' b' moments us vs rounds.turns rounds.ripe rounds.since c d rounds.rise some r in
    let there = outstanding_there a c d can.step.first can.step.line in
    let enough : Enough a c (0 + length moments) = inr (record { works = (sends_is a can.sends).1; phase = at_first (omega (arith, long, there.1)) }) in
    let line = t.ready.line in
    let all : length t.one.units ≤ t.one.base = at_last a' t.one (t.enough 0 enough) in
    let taken : t.two.taken ≡ t.two.read = t.taken (inr (omega (arith, long))) in
    let whole : length c.units ≤ t.two.taken = omega (arith, taken, all, ap length t.units, line.there.base) in
    let closing : Closing a' b' = t.closing (inl (can.live, can.goes_on)) in
    let unread : Unread b' t.one t.two = t.unread (λ open' k u below is. false_from_ne_true (is_end u) (λ ends. can.unread k u below is (eqb-true u.stream 254 ends))) in
    let f' = t.ready.first.tracks.formed in
    let g' = t.ready.second.tracks in
    let read : length t.one.units ≤ t.two.read = omega (arith, all, line.there.base) in
    record {
      queue = empty_list a'.queue (omega (arith, all, (outstanding_there a' t.one t.two t.ready.first line).1));
      units = t.got ∙ ap (drop d.taken) (take_all t.two.taken c.units whole);
      ended = λ q. elim closing [
        | inl live ↦
            let there = f'.there (t.queued ∙ q) in
            let no : is_end the_end ≡ false = unread live.1 there.0 the_end (omega (arith, read, slice_get_within t.one.units there.0 the_end there.1)) there.1 in
            absurd (cc no)
        | inr ended ↦ (ended.2 (t.queued ∙ q), ended.0)
      ];
      live = λ q. elim closing [
        | inl live ↦ (elim t.state [ inl same ↦ same | inr done ↦ absurd (cc (sym q ∙ done.1)) ], live.0)
        | inr ended ↦
            let shut = (g'.ended ended.1).0 in
            let there = shut.there refl in
            absurd (cc (sym q ∙ (sym t.queued ∙ (f'.end there.0 the_end there.1 refl).0)))
      ];
    }
