-- The other direction at the same time: the second link's half of each round and the first link's half of the
-- next are a round of the two in the other order.
use Rattle.std.proofs.Common.{ℕ, ◌+◌, ◌-◌, ◌<◌, ◌≤◌, ◌≡◌, ◌++◌, true, false, List, [], length, take, drop, sym, ap, ◌∙◌, subst, inl, inr, ⊎_elim, arith, slice_get}
use Rattle.std.proofs.lemmas.Bool.{cases_lt}
use Rattle.std.proofs.lemmas.List.{append-nil}
use Rattle.spx_link.specs.declared.unit.Unit.{Unit}
use Rattle.spx_link.specs.Limits.{resend_after}
use Rattle.spx_link.specs.LinkView.{LinkView, is_working}
use Rattle.spx_link.specs.Machine.{End}
use Rattle.spx_link.specs.LinkTurns.{is_joined}
use Rattle.spx_theory.specs.Tracks.{may_end}
use Rattle.spx_theory.specs.LinkLaws.{LinkLaws}
use Rattle.spx_theory.specs.RoundsDeliver.{CanDeliver, IsDelivered, RoundsDeliverBothWays}
use Rattle.spx_theory.specs.LosslessRounds.{Conveys, TakesAll, InTurn, over, after, Rise, shares, waiting, round_share}
use Rattle.spx_theory.proofs.RoundPackets.{swapped, peer_follows}
use Rattle.spx_theory.proofs.RoundTakes.{took_all, taken_to}
use Rattle.spx_theory.proofs.Amid.{outstanding_there, unpaced_as}
use Rattle.spx_theory.proofs.Crossing.{all_met, all_read}
use Rattle.spx_theory.proofs.Halves.{Half, Rounded, able_back, half_on, twice_on}
use Rattle.spx_theory.proofs.RoundLists.{empty_list, seam, take_all}
use Rattle.spx_theory.proofs.Ready.{Ready, able_empty, never_ended, still_owes}
use Rattle.spx_theory.proofs.Rounding.{rounded_on}
use Rattle.spx_theory.proofs.Turning.{Enough, enough_on, at_last, many, ready_at, rounds_deliver, sends_is, shares_hold, waits}

-- after the first link's half of a round, the two are ready in the other order
half_ready : (since since_b now : ℕ) (a b : LinkView) (c d : End) (a1 b1 b2 : LinkView) (us : List Unit) → Ready since since_b a b c d → a.end_queued ≡ false → (h : Half now a b c d a1 b1 b2 us)
    → Ready since_b now b2 a1 h.y.after h.x.one
half_ready since since_b now a b c d a1 b1 b2 us r open' h =
    let mid = h.x.mid in
    let t = h.t in
    let queued : b1.end_queued ≡ false = mid.hears.queued ∙ r.open' in
    record {
      first = h.y.follows;
      second = peer_follows a1 h.x.one h.x.two h.y.after h.y.units mid.first;
      line = h.y.line;
      names = record { peer = t.peer ∙ (mid.hears.peer ∙ (r.names.peer_back ∙ sym mid.own)); peer_back = mid.peer ∙ (r.names.peer ∙ (sym mid.hears.own ∙ sym t.own)) };
      joined = ap is_joined t.state ∙ mid.joined;
      joined_b = ap is_joined mid.state ∙ r.joined;
      spoke = omega (arith, t.spoke, mid.hears.spoke, r.spoke_b);
      spoke_b = mid.spoke;
      by = λ k q below is. let was = mid.hears.sent k q (omega (arith, below, t.out)) (ap (λ qs. slice_get qs k) (sym t.queue) ∙ is) in r.by_b was.0 q was.1 was.2;
      by_b = mid.by;
      able = λ works. able_back since since_b now a b c d a1 b1 b2 us r h works;
      back = λ works.
          let first : is_working a.state ≡ true = ap is_working (sym mid.state) ∙ works in
          let read : h.y.after.read ≡ h.x.one.sent = h.y.read ∙ all_read now a b c d a1 b1 h.x first in
          ⊎_elim
          (λ (some : 0 < a1.out). inr (still_owes b1 b2 us t (all_met now a b c d a1 b1 h.x first 0 some).1, read))
          (λ (none : a1.out ≤ 0). elim (mid.probes first) [
            | inl few ↦ inl (able_empty a1 (omega (arith, none)) few)
            | inr owes ↦ inr (still_owes b1 b2 us t owes.1, read)
          ])
          (cases_lt 0 a1.out);
      ended = λ e. absurd (never_ended a1 b1 h.x.one h.x.two mid.first mid.second queued e);
      open' = mid.queued ∙ open';
      pace = unpaced_as b1 b2 t.pace mid.pace_b;
      pace_b = mid.pace;
    }

-- the units of a link that sends second in each round: after n whole rounds in the other order, and a half
-- one at the end
pub record Backed (b : LinkView) (e c : End) (b' : LinkView) (n : ℕ) (ws : List Unit) : Type 0 where
  pub taken : ℕ
  pub later : c.taken ≤ taken
  pub got : ws ≡ drop c.taken (take taken e.units)
  pub through : Enough b e c n → (b'.queue ≡ []) × (length e.units ≤ taken)

backed : (laws : LinkLaws) (sb sa now : ℕ) (b a : LinkView) (e c : End) (b1 a1 a2 : LinkView) (vs : List Unit) → sb + resend_after ≤ now → sa ≤ now → 0 < c.buffers → Ready sb sa b a e c
    → Conveys b a now b1 a1 → TakesAll a1 a2 vs → (moments : List ℕ) (a' b' : LinkView) (us ws : List Unit) → InTurn a2 b1 moments a' b' us ws → Rise now moments
    → Backed b e c b' (length moments) (vs ++ ws)
backed laws sb sa now b a e c b1 a1 a2 vs past low buffers r goes' takes moments a' b' us ws over rise =
    let h : Half now b a e c b1 a1 a2 vs = half_on laws sb sa now b a e c past r b1 a1 a2 vs goes' takes in
    backed_last h
  where
    backed_last : Half now b a e c b1 a1 a2 vs → Backed b e c b1 0 (vs ++ [])
    backed_last h =
        let mid = h.x.mid in
        record {
          taken = h.x.two.read;
          later = omega (arith, mid.fed.taken, mid.line.peer_within.taken);
          got = append-nil vs ∙ (h.t.units ∙ (mid.second.tracks.held ∙ (ap (λ n. drop n (take h.x.two.read h.x.one.units)) mid.fed.taken ∙ ap (λ xs. drop c.taken (take h.x.two.read xs)) mid.grew.units)));
          through = λ enough.
              let all : e.base ≡ length e.units = at_last b e c r.line.within.sent enough in
              (empty_list b1.queue (omega (arith, all, mid.grew.base, ap length mid.grew.units, (outstanding_there b1 h.x.one h.x.two mid.first mid.line).1)), omega (arith, all, mid.grew.base, mid.line.there.base));
        }
backed laws sb sa now b a e c b1 a1 a2 vs past low buffers r goes' takes moments a' b' us ws (after {a1 = a4} {b1 = b4} {now = next} {moments = more} {ub = ub} {ua = ua} {units_b = us'} {units_a = ws'} round rest) rise =
    let h : Half now b a e c b1 a1 a2 vs = half_on laws sb sa now b a e c past r b1 a1 a2 vs goes' takes in
    let w = twice_on laws sb sa now next b a e c (omega (arith, rise.0, low)) r b1 a1 a2 vs h round.heard round.told round.there in
    let z = taken_to laws round.heard round.answered ub w.x.two w.x.one round.taken w.x.mid.second (swapped w.x.one w.x.two w.x.mid.line) in
    let one : Rounded now next b a round.answered round.told e c vs = rounded_on laws sb sa now next b a e c past r b1 a1 a2 round.heard round.told round.answered vs ub w (took_all round.heard round.answered ub round.taken) z in
    let onward : Backed round.answered one.one one.two b' (length more) (ua ++ ws') =
    backed laws now next next round.answered round.told one.one one.two b4 round.second a4 ua rise.0 (omega arith) (omega (arith, buffers, one.buffers)) one.ready round.back round.taken_back more a' b' us' ws' rest rise.1 in
    record {
      taken = onward.taken;
      later = omega (arith, one.taken, one.read, r.line.peer_within.taken, onward.later);
      got = ap (λ xs. xs ++ (ua ++ ws')) (one.got ∙ ap (λ n. drop c.taken (take n e.units)) (sym one.taken))
          ∙ (ap (λ xs. drop c.taken (take one.two.taken e.units) ++ xs) (onward.got ∙ ap (λ xs. drop one.two.taken (take onward.taken xs)) one.units)
          ∙ seam c.taken one.two.taken onward.taken e.units (omega (arith, one.taken, one.read, r.line.peer_within.taken)) onward.later);
      through = λ enough.
          let on = onward.through (enough_on now next b a round.answered round.told e c vs one buffers (length more) (subst (Enough b e c) (omega arith) enough)) in
          (on.0, omega (arith, on.1, ap length one.units));
    }

-- the units of the second link arrive too
pub record CameBack (b b' : LinkView) (c d : End) (units_a : List Unit) : Type 0 where
  pub queue : b'.queue ≡ []
  pub units : units_a ≡ drop c.taken d.units

came_back : (laws : LinkLaws) (since : ℕ) (a b a' b' : LinkView) (c d : End) (moments : List ℕ) (us ws : List Unit) → CanDeliver b a d c → Ready since since a b c d → a.end_queued ≡ false
    → InTurn a b moments a' b' us ws → Rise since moments → 3 + shares (waiting b) (round_share a) ≤ length moments → CameBack b b' c d ws
came_back laws since a b a' b' c d moments us ws can r open' over rise long = absurd (omega (arith, long))
came_back laws since a b a' b' c d moments us ws can r open' (after {a1 = a4} {b1 = b4} {now = now} {moments = more} {ub = ub} {ua = ua} {units_b = us'} {units_a = ws'} round rest) rise long =
    let h : Half now a b c d round.told round.heard round.answered ub = half_on laws since since now a b c d rise.0 r round.told round.heard round.answered ub round.there round.taken in
    let mid = h.x.mid in
    let size : a.buffers ≡ c.buffers = r.first.tracks.counts.buffers in
    let some : 0 < h.x.one.buffers = omega (arith, can.buffers, size, mid.grew.buffers) in
    let ready : Ready since now round.answered round.told h.y.after h.x.one = half_ready since since now a b c d round.told round.heard round.answered ub r open' h in
    let back : Backed round.answered h.y.after h.x.one b' (length more) (ua ++ ws') =
    backed laws since now now round.answered round.told h.y.after h.x.one b4 round.second a4 ua rise.0 (omega arith) some ready round.back round.taken_back more a' b' us' ws' rest rise.1 in
    let s : ℕ = shares (waiting b) (round_share a) in
    let share : round_share a ≡ c.buffers = omega (arith, size, r.first.tracks.counts.small) in
    let hold : waiting b ≤ many s (round_share a) = shares_hold (waiting b) (round_share a) (omega (arith, share, can.buffers, size)) in
    let wait : waiting b ≡ length d.units - d.sent = omega (arith, (outstanding_there b d c r.second (swapped c d r.line)).1, r.second.tracks.counts.out, r.line.peer_within.sent) in
    let units : h.y.after.units ≡ d.units = h.y.units ∙ mid.fed.units in
    let works : is_working round.answered.state ≡ true = ap is_working (h.t.state ∙ same_state h) ∙ (sends_is b can.sends).1 in
    let through = back.through (inr (record {
      works = works;
      shares = s;
      few = omega (arith, hold, wait, ap (many s) (share ∙ sym mid.grew.buffers), ap length units, h.y.sent, mid.fed.sent);
      phase = waits h.t.held (omega (arith, long));
    })) in
    record {
      queue = through.0;
      units = back.got ∙ (ap (drop h.x.one.taken) (take_all back.taken h.y.after.units through.1) ∙ (ap (λ n. drop n h.y.after.units) mid.grew.taken ∙ ap (drop c.taken) units));
    }
  where
    same_state : (h : Half now a b c d round.told round.heard round.answered ub) → round.heard.state ≡ b.state
    same_state h =
        elim h.x.mid.hears.course [
          | inl same ↦ same.0
          | inr (inl done) ↦ absurd (cc (sym r.open' ∙ done.1))
          | inr (inr ended) ↦ absurd (never_ended round.heard round.told h.x.two h.x.one h.x.mid.second h.x.mid.first (h.x.mid.queued ∙ open') ended.0)
        ]

pub rounds_deliver_both_ways : (laws : LinkLaws) → RoundsDeliverBothWays
rounds_deliver_both_ways laws a b a' b' c d moments us ws can back rounds long long_back =
    let there : IsDelivered a b a' b' (drop d.taken c.units) us = rounds_deliver laws a b a' b' c d moments us ws can rounds long in
    let open' : a.end_queued ≡ false = can.step.first.open' (ap may_end back.live) in
    let open_b : b.end_queued ≡ false = can.step.second.open' (ap may_end can.live) in
    let r : Ready rounds.since rounds.since a b c d = ready_at a b c d rounds.since can rounds.first rounds.second in
    let came : CameBack b b' c d ws = came_back laws rounds.since a b a' b' c d moments us ws back r open' rounds.turns rounds.rise long_back in
    let states = there.live open' in (
      there,
      record {
        queue = came.queue;
        units = came.units;
        ended = λ queued. absurd (cc (sym open_b ∙ queued));
        live = λ q. (states.1 ∙ sym can.live, states.0 ∙ back.live);
      },
    )
