-- The two halves of a round: the packets of the first link, and those of the second.
use Rattle.std.proofs.Common.{ℕ, ◌+◌, ◌≤◌, ◌≡◌, ◌⊎◌, min, true, false, List, [], length, take, drop, sym, ap, ◌∙◌, inl, inr, arith, slice_get}
use Rattle.spx_link.specs.declared.unit.Unit.{Unit}
use Rattle.spx_link.specs.declared.state.State.TheVariants as S
use Rattle.spx_link.specs.Limits.{resend_after}
use Rattle.spx_link.specs.LinkView.{LinkView, is_working}
use Rattle.spx_link.specs.Machine.{End}
use Rattle.spx_link.specs.Receive.{after_end}
use Rattle.spx_link.specs.LinkTurns.{is_joined}
use Rattle.spx_theory.specs.LinkLaws.{LinkLaws}
use Rattle.spx_theory.specs.LosslessRounds.{Conveys, TakesAll}
use Rattle.spx_theory.proofs.RoundPackets.{swapped, peer_follows}
use Rattle.spx_theory.proofs.RoundPolls.{Owed}
use Rattle.spx_theory.proofs.RoundTakes.{TookAll, TakenTo, took_all, taken_to}
use Rattle.spx_theory.proofs.Amid.{Mid, Unread, unpaced_as}
use Rattle.spx_theory.proofs.Crossing.{Crossed, cross, told_owed}
use Rattle.spx_theory.proofs.Ready.{Able, Ready, able_empty, able_heard, able_same, mid_start, never_ended, owed_by, still_sends}

-- the result of a round if the first link still sends its units: everything that was sent is read, and
-- everything that may be sent is. Either the peer said what may be sent next; or no unit was sent or is
-- outstanding, no flag is left that would prevent a probe, and if none was set, no unit waits
pub record Worked (a a' : LinkView) (c d one two : End) : Type 0 where
  pub read : two.read ≡ one.sent
  pub base : one.base ≡ one.sent
  pub sent : one.sent ≡ min c.limit (length c.units)
  pub told : (one.limit ≡ two.taken + two.buffers) ⊎ ((one.sent ≡ c.base) × (a.held ≡ [] → Owed a' → ⊥) × ((Owed a → ⊥) → c.base ≡ c.sent → one.sent ≡ length c.units))

pub record SameBack (b b' : LinkView) : Type 0 where
  pub state : b'.state ≡ b.state
  pub ended : b'.peer_ended ≡ b.peer_ended

pub record EndsBack (a a' b b' : LinkView) : Type 0 where
  pub state : b'.state ≡ after_end b.state
  pub ended : b'.peer_ended ≡ true
  pub closes : a.end_queued ≡ true → a'.state ≡ S.Confirmed

pub record Rounded (now now_b : ℕ) (a b a' b' : LinkView) (c d : End) (units_b : List Unit) : Type 0 where
  pub one : End
  pub two : End
  pub ready : Ready now now_b a' b' one two
  pub units : one.units ≡ c.units
  pub buffers : two.buffers ≡ d.buffers
  pub base : c.base ≤ one.base
  pub sent : c.sent ≤ one.sent
  pub read : d.read ≤ two.read
  pub taken : two.taken ≡ two.read
  pub got : units_b ≡ drop d.taken (take two.read c.units)
  pub held : a'.held ≡ []
  pub queued : a'.end_queued ≡ a.end_queued
  pub state : (a'.state ≡ a.state) ⊎ ((a'.state ≡ S.Confirmed) × (a.end_queued ≡ true) × (length a'.queue ≡ 0))
  pub works : is_working a.state ≡ true → Worked a a' c d one two
  pub unread : Unread b c d → Unread b' one two
  -- the second link is as it was, or had the end; then the first is confirmed
  pub back : SameBack b b' ⊎ EndsBack a a' b b'

-- the middle of a round: the second link has read everything, and its user has taken everything
pub record Half (now : ℕ) (a b : LinkView) (c d : End) (a1 b1 b2 : LinkView) (units_b : List Unit) : Type 0 where
  pub x : Crossed now a b c d a1 b1
  pub t : TookAll b1 b2 units_b
  pub y : TakenTo b2 x.two x.one

-- the peer can still send: it has not given up, or everything is read by now
pub able_back : (since since_b now : ℕ) (a b : LinkView) (c d : End) (a1 b1 b2 : LinkView) (us : List Unit) → Ready since since_b a b c d → Half now a b c d a1 b1 b2 us → is_working b2.state ≡ true → Able b2
able_back since since_b now a b c d a1 b1 b2 us r h works =
    let mid = h.x.mid in
    let works1 : is_working b1.state ≡ true = ap is_working (sym h.t.state) ∙ works in
    let same : b1.state ≡ b.state = still_sends b b1 mid.hears.course works1 in
    able_same b1 b2 us h.t
    (elim (r.back (ap is_working (sym same) ∙ works1)) [
      | inl able ↦ able_heard b b1 mid.hears able
      | inr owes ↦
          let told = told_owed now a b c d a1 b1 h.x (owed_by a owes.0) in
          able_empty b1
          (omega (arith, told.base, mid.grew.read, owes.1, mid.fed.sent, mid.second.tracks.counts.out, mid.line.back.base, mid.line.back.read))
          (omega (arith, told.probes))
    ])

pub record Twice (now now_b : ℕ) (a b : LinkView) (c d : End) (a1 b1 b2 : LinkView) (units_b : List Unit) (a2 b' : LinkView) : Type 0 where
  pub half : Half now a b c d a1 b1 b2 units_b
  pub x : Crossed now_b b2 a1 half.y.after half.x.one b' a2

pub half_on : (laws : LinkLaws) (since since_b now : ℕ) (a b : LinkView) (c d : End) → since + resend_after ≤ now → Ready since since_b a b c d → (a1 b1 b2 : LinkView) (us : List Unit)
    → Conveys a b now a1 b1 → TakesAll b1 b2 us → Half now a b c d a1 b1 b2 us
half_on laws since since_b now a b c d past r a1 b1 b2 us goes' takes =
    let start : Mid now a b c d a b c d = mid_start now since a b c d past r.first r.second r.line r.joined_b r.spoke r.by r.able (λ e. inr (r.ended e)) r.pace r.pace_b in
    let x : Crossed now a b c d a1 b1 = cross laws now a b c d r.names r.joined a b a1 b1 goes' c d start in
    record {
      x = x;
      t = took_all b1 b2 us takes;
      y = taken_to laws b1 b2 us x.two x.one takes x.mid.second (swapped x.one x.two x.mid.line);
    }

pub twice_on : (laws : LinkLaws) (since since_b now now_b : ℕ) (a b : LinkView) (c d : End) → since_b + resend_after ≤ now_b → Ready since since_b a b c d → (a1 b1 b2 : LinkView) (us : List Unit) → Half now a b c d a1 b1 b2 us
    → (a2 b' : LinkView) → Conveys b2 a1 now_b b' a2 → Twice now now_b a b c d a1 b1 b2 us a2 b'
twice_on laws since since_b now now_b a b c d past r a1 b1 b2 us h a2 b' goes' =
    let mid = h.x.mid in
    let t = h.t in
    let queued : b1.end_queued ≡ false = mid.hears.queued ∙ r.open' in
    let start : Mid now_b b2 a1 h.y.after h.x.one b2 a1 h.y.after h.x.one =
    mid_start now_b since_b b2 a1 h.y.after h.x.one past h.y.follows (peer_follows a1 h.x.one h.x.two h.y.after h.y.units mid.first) h.y.line (ap is_joined mid.state ∙ r.joined)
    (omega (arith, t.spoke, mid.hears.spoke, r.spoke_b))
    (λ k q below is. let was = mid.hears.sent k q (omega (arith, below, t.out)) (ap (λ qs. slice_get qs k) (sym t.queue) ∙ is) in r.by_b was.0 q was.1 was.2)
    (λ works. able_back since since_b now a b c d a1 b1 b2 us r h works)
    (λ e. absurd (never_ended a1 b1 h.x.one h.x.two mid.first mid.second queued e)) (unpaced_as b1 b2 t.pace mid.pace_b) mid.pace in
    record {
      half = h;
      x = cross laws now_b b2 a1 h.y.after h.x.one
          (record { peer = t.peer ∙ (mid.hears.peer ∙ (r.names.peer_back ∙ sym mid.own)); peer_back = mid.peer ∙ (r.names.peer ∙ (sym mid.hears.own ∙ sym t.own)) })
          (ap is_joined t.state ∙ mid.joined) b2 a1 b' a2 goes' h.y.after h.x.one start;
    }
