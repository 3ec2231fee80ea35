-- Round after round: how many are enough.
use Rattle.std.proofs.Common.{ℕ, zero, suc, ◌+◌, ◌-◌, ◌*◌, ◌/◌, ◌<◌, ◌≤◌, ◌≡◌, ◌⊎◌, ◌++◌, true, false, List, [], length, take, drop, refl, sym, ap, ◌∙◌, subst, inl, inr, arith, eqb-true}
use Rattle.std.proofs.lemmas.Bool.{false_from_ne_true}
use Rattle.std.proofs.lemmas.Option.{slice_get_within}
use Rattle.spx_link.specs.declared.unit.Unit.{Unit}
use Rattle.spx_link.specs.declared.state.State.TheVariants as S
use Rattle.spx_link.specs.LinkView.{LinkView, is_working}
use Rattle.spx_link.specs.Machine.{End}
use Rattle.spx_theory.specs.LinkLaws.{LinkLaws}
use Rattle.std.proofs.Math.Nat.{suc-mul, zero-mul, lt-div-mul-add}
use Rattle.spx_link.specs.LinkTurns.{is_joined}
use Rattle.spx_link.specs.Receive.{after_end}
use Rattle.spx_link.specs.Offer.{the_end}
use Rattle.spx_link.specs.LinkView.{is_end}
use Rattle.spx_theory.specs.Tracks.{may_end}
use Rattle.spx_theory.specs.RoundsDeliver.{IsSending, CanDeliver, RoundsDeliver}
use Rattle.spx_theory.specs.LosslessRounds.{InTurn, over, after, Rise, HasSentBy, shares, waiting, round_share}
use Rattle.spx_theory.proofs.RoundPolls.{Owed}
use Rattle.spx_theory.proofs.Amid.{Unread, outstanding_there}
use Rattle.spx_theory.proofs.Halves.{EndsBack, Rounded, SameBack}
use Rattle.spx_theory.proofs.RoundLists.{empty_list, none_between, seam, take_all}
use Rattle.spx_theory.proofs.Ready.{Ready}
use Rattle.spx_theory.proofs.Rounding.{round_on}

-- s times m
abbrev pub many : ℕ → ℕ → ℕ
many zero m = 0
many (suc s) m = m + many s m

-- everything is acknowledged, and the peer said what may be sent next
pub record Settled (c d : End) : Type 0 where
  pub base : c.base ≡ c.sent
  pub limit : c.limit ≡ c.sent + d.buffers

-- nothing is outstanding or held
pub record Waiting (a : LinkView) (c : End) : Type 0 where
  pub base : c.base ≡ c.sent
  pub held : a.held ≡ []

-- how far it is: n more rounds are enough for s shares of units
pub data Phase (a : LinkView) (c d : End) (s : ℕ) : ℕ → Type 0 where
  at_first : {n : ℕ} → 3 + s ≤ n → Phase a c d s n
  waits : {n : ℕ} → a.held ≡ [] → 2 + s ≤ n → Phase a c d s n
  silent : {n : ℕ} → Waiting a c → (Owed a → ⊥) → 1 + s ≤ n → Phase a c d s n
  settled : {n : ℕ} → Settled c d → s ≤ n → Phase a c d s n

pub record StillSends (a : LinkView) (c d : End) (n : ℕ) : Type 0 where
  pub works : is_working a.state ≡ true
  pub shares : ℕ
  pub few : length c.units ≤ c.sent + many shares d.buffers
  pub phase : Phase a c d shares n

-- n rounds are enough
abbrev pub Enough : LinkView → End → End → ℕ → Type 0
Enough a c d n = (c.base ≡ length c.units) ⊎ StillSends a c d n

-- if the queue of a link is empty, everything that it queued is acknowledged
none_queued : (since since_b : ℕ) (a b : LinkView) (c d : End) → Ready since since_b a b c d → length a.queue ≡ 0 → c.base ≡ length c.units
none_queued since since_b a b c d r none = omega (arith, none, (outstanding_there a c d r.first r.line).1, r.line.there.base, r.line.there.read, r.line.within.sent)

module _ (now now_b : ℕ) (a b a' b' : LinkView) (c d : End) (us : List Unit) (r : Rounded now now_b a b a' b' c d us) (buffers : 0 < d.buffers) where
  done_on : c.base ≡ length c.units → r.one.base ≡ length r.one.units
  done_on all = omega (arith, all, r.base, ap length r.units, r.ready.line.there.base, r.ready.line.there.read, r.ready.line.within.sent)

  next_phase : (s n : ℕ) → is_working a.state ≡ true → is_working a'.state ≡ true → length c.units ≤ c.sent + many s d.buffers → Phase a c d s (suc n) → Enough a' r.one r.two n
  next_phase s n works goes_on few (at_first enough) =
      let w = r.works works in
      let few' : length r.one.units ≤ r.one.sent + many s r.two.buffers = omega (arith, few, r.sent, ap length r.units, ap (many s) r.buffers) in
      elim w.told [
        | inl told ↦ inr (record { works = goes_on; shares = s; few = few'; phase = settled (record { base = w.base; limit = omega (arith, told, r.taken, w.read) }) (omega (arith, enough)) })
        | inr quiet ↦ inr (record { works = goes_on; shares = s; few = few'; phase = waits r.held (omega (arith, enough)) })
      ]
  next_phase s n works goes_on few (waits at enough) =
      let w = r.works works in
      let few' : length r.one.units ≤ r.one.sent + many s r.two.buffers = omega (arith, few, r.sent, ap length r.units, ap (many s) r.buffers) in
      elim w.told [
        | inl told ↦ inr (record { works = goes_on; shares = s; few = few'; phase = settled (record { base = w.base; limit = omega (arith, told, r.taken, w.read) }) (omega (arith, enough)) })
        | inr quiet ↦ inr (record { works = goes_on; shares = s; few = few'; phase = silent (record { base = w.base; held = r.held }) (quiet.1 at) (omega (arith, enough)) })
      ]
  next_phase s n works goes_on few (silent at none enough) =
      let w = r.works works in
      let few' : length r.one.units ≤ r.one.sent + many s r.two.buffers = omega (arith, few, r.sent, ap length r.units, ap (many s) r.buffers) in
      elim w.told [
        | inl told ↦ inr (record { works = goes_on; shares = s; few = few'; phase = settled (record { base = w.base; limit = omega (arith, told, r.taken, w.read) }) (omega (arith, enough)) })
        | inr quiet ↦ inl (omega (arith, quiet.2 none at.base, w.base, ap length r.units))
      ]
  next_phase zero n works goes_on few (settled at enough) =
      let w = r.works works in
      inl (omega (arith, few, r.sent, w.base, ap length r.units, r.ready.line.within.sent))
  next_phase (suc s) n works goes_on few (settled at enough) =
      let w = r.works works in
      elim w.told [
        | inl told ↦ inr (record {
          works = goes_on;
          shares = s;
          few = omega (arith, few, w.sent, at.limit, ap length r.units, ap (many s) r.buffers);
          phase = settled (record { base = w.base; limit = omega (arith, told, r.taken, w.read) }) (omega (arith, enough));
        })
        | inr quiet ↦ inl (omega (arith, quiet.0, w.sent, at.limit, at.base, buffers, w.base, ap length r.units))
      ]

  pub enough_on : (n : ℕ) → Enough a c d (suc n) → Enough a' r.one r.two n
  enough_on n (inl all) = inl (done_on all)
  enough_on n (inr sends) =
      elim r.state [
        | inl same ↦ next_phase sends.shares n sends.works (ap is_working same ∙ sends.works) sends.few sends.phase
        | inr done ↦ inl (none_queued now now_b a' b' r.one r.two r.ready done.2)
      ]

pub at_last : (a : LinkView) (c d : End) → c.sent ≤ length c.units → Enough a c d 0 → c.base ≡ length c.units
at_last a c d within (inl all) = all
at_last a c d within (inr sends) = last sends.shares sends.few sends.phase
  where
    last : (s : ℕ) → length c.units ≤ c.sent + many s d.buffers → Phase a c d s 0 → c.base ≡ length c.units
    last s few (at_first enough) = absurd (omega (arith, enough))
    last s few (waits at enough) = absurd (omega (arith, enough))
    last s few (silent at none enough) = absurd (omega (arith, enough))
    last zero few (settled at enough) = omega (arith, few, at.base, within)
    last (suc s) few (settled at enough) = absurd (omega (arith, enough))

-- ---- the units that are taken

-- ---- rounds one after another

-- the second link had no end; or it had, and then the first, whose end it was, is confirmed
abbrev pub Closing : LinkView → LinkView → Type 0
Closing a b =
    ((b.state ≡ S.Live) × (b.peer_ended ≡ false)) ⊎ ((b.state ≡ S.PeerEnded) × (b.peer_ended ≡ true) × (a.end_queued ≡ true → a.state ≡ S.Confirmed))

pub record Turned (a b a' b' : LinkView) (c d : End) (moments : List ℕ) (us : List Unit) : Type 0 where
  pub one : End
  pub two : End
  pub since : ℕ
  pub ready : Ready since since a' b' one two
  pub units : one.units ≡ c.units
  pub got : us ≡ drop d.taken (take two.taken c.units)
  pub later : d.taken ≤ two.taken
  pub taken : (d.taken ≡ d.read) ⊎ (0 < length moments) → two.taken ≡ two.read
  pub enough : (n : ℕ) → Enough a c d (n + length moments) → Enough a' one two n
  pub queued : a'.end_queued ≡ a.end_queued
  pub state : (a'.state ≡ a.state) ⊎ ((a'.state ≡ S.Confirmed) × (a.end_queued ≡ true))
  pub closing : Closing a b → Closing a' b'
  pub unread : Unread b c d → Unread b' one two

closing_on : (a b a' b' : LinkView) → a'.end_queued ≡ a.end_queued → (a'.state ≡ a.state) ⊎ ((a'.state ≡ S.Confirmed) × (a.end_queued ≡ true) × (length a'.queue ≡ 0)) → SameBack b b' ⊎ EndsBack a a' b b' → Closing a b → Closing a' b'
closing_on a b a' b' queued state (inl same) (inl live) = inl (same.state ∙ live.0, same.ended ∙ live.1)
closing_on a b a' b' queued state (inl same) (inr ended) =
    inr (same.state ∙ ended.0, same.ended ∙ ended.1, λ q. elim state [ inl as_was ↦ as_was ∙ ended.2 (sym queued ∙ q) | inr done ↦ done.0 ])
closing_on a b a' b' queued state (inr ends) (inl live) = inr (ends.state ∙ ap after_end live.0, ends.ended, λ q. ends.closes (sym queued ∙ q))
closing_on a b a' b' queued state (inr ends) (inr ended) = inr (ends.state ∙ ap after_end ended.0, ends.ended, λ q. ends.closes (sym queued ∙ q))

state_on : (a b c : LinkView) → b.end_queued ≡ a.end_queued → (b.state ≡ a.state) ⊎ ((b.state ≡ S.Confirmed) × (a.end_queued ≡ true)) → (c.state ≡ b.state) ⊎ ((c.state ≡ S.Confirmed) × (b.end_queued ≡ true))
    → (c.state ≡ a.state) ⊎ ((c.state ≡ S.Confirmed) × (a.end_queued ≡ true))
state_on a b c queued (inl one) (inl two) = inl (two ∙ one)
state_on a b c queued (inr one) (inl two) = inr (two ∙ one.0, one.1)
state_on a b c queued one (inr two) = inr (two.0, sym queued ∙ two.1)

pub turned : (laws : LinkLaws) (a b a' b' : LinkView) (moments : List ℕ) (us vs : List Unit) → InTurn a b moments a' b' us vs → (since : ℕ) (c d : End) → Rise since moments → 0 < d.buffers → Ready since since a b c d
    → Turned a b a' b' c d moments us
turned laws a b a' b' moments us vs over since c d rise buffers r =
    record {
      one = c;
      two = d;
      since = since;
      ready = r;
      units = refl;
      got = sym (none_between d.taken c.units);
      later = omega arith;
      taken = λ z. elim z [ inl same ↦ same | inr some ↦ absurd (omega (arith, some)) ];
      enough = λ n e. subst (Enough a c d) (omega arith) e;
      queued = refl;
      state = inl refl;
      closing = λ z. z;
      unread = λ z. z;
    }
turned laws a b a' b' moments us vs (after {a1 = a1} {b1 = b1} {now = now} {moments = more} {ub = ub} {ua = ua} {units_b = ub'} {units_a = ua'} round rest) since c d rise buffers r =
    let one : Rounded now now a b a1 b1 c d ub = round_on laws since now a b c d rise.0 r a1 b1 ub ua round in
    let next : Turned a1 b1 a' b' one.one one.two more ub' = turned laws a1 b1 a' b' more ub' ua' rest now one.one one.two rise.1 (omega (arith, buffers, one.buffers)) one.ready in
    let low : d.taken ≤ one.two.taken = omega (arith, one.taken, one.read, r.line.peer_within.taken) in
    record {
      one = next.one;
      two = next.two;
      since = next.since;
      ready = next.ready;
      units = next.units ∙ one.units;
      got = ap (λ xs. xs ++ ub') (one.got ∙ ap (λ n. drop d.taken (take n c.units)) (sym one.taken))
          ∙ (ap (λ xs. drop d.taken (take one.two.taken c.units) ++ xs) (next.got ∙ ap (λ xs. drop one.two.taken (take next.two.taken xs)) one.units)
          ∙ seam d.taken one.two.taken next.two.taken c.units low next.later);
      later = omega (arith, low, next.later);
      taken = λ z. next.taken (inl one.taken);
      enough = λ n e. next.enough n (enough_on now now a b a1 b1 c d ub one buffers (n + length more) (subst (Enough a c d) (omega arith) e));
      queued = next.queued ∙ one.queued;
      state = state_on a a1 a' one.queued (elim one.state [ inl same ↦ inl same | inr done ↦ inr (done.0, done.1) ]) next.state;
      closing = λ z. next.closing (closing_on a b a1 b1 one.queued one.state one.back z);
      unread = λ z. next.unread (one.unread z);
    }

-- ---- the number of those rounds

times : (s m : ℕ) → many s m ≡ s * m
times zero m = sym (zero-mul m)
times (suc s) m = omega (arith, times s m, suc-mul s m)

pub shares_hold : (n m : ℕ) → 0 < m → n ≤ many (shares n m) m
shares_hold n m some =
    let high : n + (m - 1) < (n + (m - 1)) / m * m + m = lt-div-mul-add some in
    omega (arith, high, some, times ((n + (m - 1)) / m) m)

pub sends_is : (a : LinkView) → IsSending a.state → (is_joined a.state ≡ true) × (is_working a.state ≡ true)
sends_is a (inl e) = (ap is_joined e, ap is_working e)
sends_is a (inr e) = (ap is_joined e, ap is_working e)

pub ready_at : (a b : LinkView) (c d : End) (since : ℕ) → CanDeliver a b c d → HasSentBy a since → HasSentBy b since → Ready since since a b c d
ready_at a b c d since can by by_b =
    let sends = sends_is a can.sends in
    record {
      first = can.step.first;
      second = can.step.second;
      line = can.step.line;
      names = can.step.names;
      joined = sends.0;
      joined_b = ap is_joined can.live;
      spoke = by.spoke;
      spoke_b = by_b.spoke;
      by = by.sent;
      by_b = by_b.sent;
      able = λ works. (can.first.sent, can.first.probes);
      back = λ works. inl (can.second.sent, can.second.probes);
      ended = λ e. absurd (cc (sym can.goes_on ∙ e));
      open' = can.step.second.open' (ap may_end can.live);
      pace = can.unpaced;
      pace_b = can.unpaced_b;
    }

pub rounds_deliver : (laws : LinkLaws) → RoundsDeliver
rounds_deliver laws a b a' b' c d moments us vs can rounds long =
    let r : Ready rounds.since rounds.since a b c d = ready_at a b c d rounds.since can rounds.first rounds.second in
    let size : b.buffers ≡ d.buffers = can.step.second.tracks.counts.buffers in
    let some : 0 < d.buffers = omega (arith, can.buffers, size) in
    let t : Turned a b a' b' c d moments us = turned laws a b a' b' moments us vs rounds.turns rounds.since c d rounds.rise some r in
    let there = outstanding_there a c d can.step.first can.step.line in
    let share : round_share b ≡ d.buffers = omega (arith, size, can.step.second.tracks.counts.small) in
    let wait : waiting a ≡ length c.units - c.sent = omega (arith, there.1, can.step.first.tracks.counts.out, can.step.line.within.sent) in
    let s : ℕ = shares (waiting a) (round_share b) in
    let hold : waiting a ≤ many s (round_share b) = shares_hold (waiting a) (round_share b) (omega (arith, share, some)) in
    let enough : Enough a c d (0 + length moments) = inr (record {
      works = (sends_is a can.sends).1;
      shares = s;
      few = omega (arith, hold, wait, ap (many s) share);
      phase = at_first (omega (arith, long));
    }) in
    let line = t.ready.line in
    let all : t.one.base ≡ length t.one.units = at_last a' t.one t.two line.within.sent (t.enough 0 enough) in
    let taken : t.two.taken ≡ t.two.read = t.taken (inr (omega (arith, long))) in
    let whole : length c.units ≤ t.two.taken = omega (arith, taken, all, ap length t.units, line.there.base) in
    let closing : Closing a' b' = t.closing (inl (can.live, can.goes_on)) in
    let unread : Unread b' t.one t.two = t.unread (λ open' k u below is. false_from_ne_true (is_end u) (λ ends. can.unread k u below is (eqb-true u.stream 254 ends))) in
    let f' = t.ready.first.tracks.formed in
    let g' = t.ready.second.tracks in
    let read : length t.one.units ≤ t.two.read = omega (arith, all, line.there.base) in
    record {
      queue = empty_list a'.queue (omega (arith, all, (outstanding_there a' t.one t.two t.ready.first line).1));
      units = t.got ∙ ap (drop d.taken) (take_all t.two.taken c.units whole);
      ended = λ q. elim closing [
        | inl live ↦
            let there = f'.there (t.queued ∙ q) in
            let no : is_end the_end ≡ false = unread live.1 there.0 the_end (omega (arith, read, slice_get_within t.one.units there.0 the_end there.1)) there.1 in
            absurd (cc no)
        | inr ended ↦ (ended.2 (t.queued ∙ q), ended.0)
      ];
      live = λ q. elim closing [
        | inl live ↦ (elim t.state [ inl same ↦ same | inr done ↦ absurd (cc (sym q ∙ done.1)) ], live.0)
        | inr ended ↦
            let shut = (g'.ended ended.1).0 in
            let there = shut.there refl in
            absurd (cc (sym q ∙ (sym t.queued ∙ (f'.end there.0 the_end there.1 refl).0)))
      ];
    }
