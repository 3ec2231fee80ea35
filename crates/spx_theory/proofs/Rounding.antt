-- One round of two links in step: everything that was sent is read, and the first link is told what it may
-- send next.
use Rattle.std.proofs.Common.{ℕ, ◌+◌, ◌<◌, ◌≤◌, ◌≡◌, ◌⊎◌, ◌==◌, true, false, List, [], length, take, drop, sym, ap, ◌∙◌, subst, inl, inr, ⊎_elim, arith, slice_get}
use Rattle.std.proofs.lemmas.Bool.{cases_lt, lt-ltb, le-leb, eq-eqb}
use Rattle.spx_link.specs.declared.unit.Unit.{Unit}
use Rattle.spx_link.specs.declared.state.State.TheVariants as S
use Rattle.spx_link.specs.Limits.{resend_after}
use Rattle.spx_link.specs.LinkView.{LinkView, due, is_working}
use Rattle.spx_link.specs.Machine.{End}
use Rattle.spx_link.specs.Poll.{is_waiting, may_probe}
use Rattle.spx_link.specs.LinkTurns.{is_joined}
use Rattle.spx_theory.specs.LinkLaws.{LinkLaws}
use Rattle.spx_theory.specs.LosslessRounds.{LosslessRound}
use Rattle.spx_theory.proofs.PollCases.{IsResting}
use Rattle.spx_theory.proofs.RoundPackets.{swapped, peer_follows}
use Rattle.spx_theory.proofs.Hearing.{Owes}
use Rattle.spx_theory.proofs.RoundPolls.{Owed}
use Rattle.spx_theory.proofs.RoundTakes.{TookAll, TakenTo, took_all, taken_to}
use Rattle.spx_theory.proofs.Amid.{Unread, outstanding_there, unpaced_as}
use Rattle.spx_theory.proofs.Crossing.{all_met, all_read, all_sent, told_owed}
use Rattle.spx_theory.proofs.Halves.{EndsBack, Rounded, SameBack, Twice, half_on, twice_on}
use Rattle.spx_theory.proofs.RoundLists.{and_both, empty_list}
use Rattle.spx_theory.proofs.Ready.{Ready, able_empty, never_ended, owed_by, still_owes, still_sends}

rest_owes_none : (l : LinkView) (now : ℕ) → IsResting l now → Owed l → ⊥
rest_owes_none l now r (inl e) = cc (sym e ∙ r.reply)
rest_owes_none l now r (inr (inl e)) = cc (sym e ∙ r.confirm)
rest_owes_none l now r (inr (inr e)) = cc (sym e ∙ r.ack)

-- a link that waits with nothing outstanding and no allocation, and was silent, may probe
must_probe : (l : LinkView) (now : ℕ) → is_working l.state ≡ true → l.out < length l.queue → l.room ≡ 0 → l.out ≡ 0 → l.spoke + resend_after ≤ now → may_probe l now ≡ true
must_probe l now works waits room out silent =
    and_both (is_working l.state) _ works
    (and_both (is_waiting l) _ (lt-ltb l.out (length l.queue) waits) (and_both (l.room == 0) _ (eq-eqb l.room 0 room) (and_both (l.out == 0) (due l.spoke now) (eq-eqb l.out 0 out) (le-leb (l.spoke + resend_after) now silent))))

module _ (laws : LinkLaws) (since since_b now now_b : ℕ) (a b : LinkView) (c d : End) (past : since + resend_after ≤ now) (r : Ready since since_b a b c d)
    (a1 b1 b2 a2 b' a' : LinkView) (us vs : List Unit) (w : Twice now now_b a b c d a1 b1 b2 us a2 b') (tb : TookAll a2 a' vs) (z : TakenTo a' w.x.two w.x.one) where
  -- the peer sent nothing in this round
  abbrev Silent : Type 0
  Silent = (b' ≡ b2) × (a2 ≡ a1)

  silent_owes_none : Silent → Owes b1 → ⊥
  silent_owes_none s owes = rest_owes_none b' now_b w.x.rests (subst Owed (sym s.0) (owed_by b2 (still_owes b1 b2 us w.half.t owes)))

  all_acknowledged : is_working a.state ≡ true → z.after.base ≡ z.after.sent
  all_acknowledged works =
      let h = w.half in
      let read : h.x.two.read ≡ h.x.one.sent = all_read now a b c d a1 b1 h.x works in
      elim w.x.mid.gave [
        | inl silent ↦
            ⊎_elim
            (λ (some : 0 < a1.out). absurd (silent_owes_none silent (all_met now a b c d a1 b1 h.x works 0 some).1))
            (λ (none : a1.out ≤ 0). omega (arith, none, h.x.mid.first.tracks.counts.out, z.base, z.sent, w.x.mid.fed.base, w.x.mid.fed.sent, z.line.there.base, z.line.there.read))
            (cases_lt 0 a1.out)
        | inr told ↦ omega (arith, told.base, w.x.mid.grew.read, h.y.read, read, z.base, z.sent, w.x.mid.fed.sent, z.line.there.base, z.line.there.read)
      ]

  unless_told : is_working a.state ≡ true → (z.after.limit ≡ w.x.one.taken + w.x.one.buffers) ⊎ ((z.after.sent ≡ c.base) × (a.held ≡ [] → Owed a' → ⊥) × ((Owed a → ⊥) → c.base ≡ c.sent → z.after.sent ≡ length c.units))
  unless_told works =
      let h = w.half in
      let mid = h.x.mid in
      elim w.x.mid.gave [
        | inl silent ↦ inr (
          ⊎_elim
              (λ (some : 0 < a1.out). absurd (silent_owes_none silent (all_met now a b c d a1 b1 h.x works 0 some).1))
              (λ (none : a1.out ≤ 0). omega (arith, none, mid.first.tracks.counts.out, mid.grew.base, w.x.mid.fed.sent, z.sent))
              (cases_lt 0 a1.out),
          λ held owed.
              let long : length a1.held ≡ 0 = omega (arith, ap length held, r.first.tracks.counts.held, mid.first.tracks.counts.held, mid.grew.read, mid.grew.taken) in
              let same : a2.held ≡ [] = ap (λ (l : LinkView). l.held) silent.1 ∙ empty_list a1.held long in
              let before : Owed a2 = elim owed [
                | inl e ↦ inl (sym tb.reply ∙ e)
                | inr (inl e) ↦ inr (inl (sym tb.confirm ∙ e))
                | inr (inr e) ↦ inr (inr (sym (tb.none same) ∙ e))
              ] in
              rest_owes_none a1 now h.x.rests (subst Owed silent.1 before),
          λ none empty.
              ⊎_elim
              (λ (more : h.x.one.sent < length h.x.one.units).
              elim mid.asks [
                | inl same ↦
                    let sent = all_sent now a b c d a1 b1 h.x works in
                    let t = mid.first.tracks.counts in
                    let there = outstanding_there a1 h.x.one h.x.two mid.first mid.line in
                    let out : a1.out ≡ 0 = omega (arith, ap (λ (l : LinkView). l.out) same, r.first.tracks.counts.out, empty) in
                    let may : may_probe a1 now ≡ true =
                    must_probe a1 now (ap is_working mid.state ∙ works) (omega (arith, there.1, t.out, more)) (omega (arith, sent, more, t.room)) out
                    (omega (arith, ap (λ (l : LinkView). l.spoke) same, r.spoke, past)) in
                    absurd (cc (sym may ∙ h.x.rests.probe))
                | inr (inl owes) ↦ absurd (silent_owes_none silent owes)
                | inr (inr owed) ↦ absurd (none owed)
              ])
              (λ (all : length h.x.one.units ≤ h.x.one.sent).
              omega (arith, all, mid.line.within.sent, ap length mid.grew.units, z.sent, w.x.mid.fed.sent))
              (cases_lt h.x.one.sent (length h.x.one.units)),
        )
        | inr told ↦ inl (omega (arith, told.limit, z.limit, z.line.there.limit))
      ]

  -- the first link's state
  state_after_round : (a'.state ≡ a.state) ⊎ ((a'.state ≡ S.Confirmed) × (a.end_queued ≡ true) × (length a'.queue ≡ 0))
  state_after_round =
      let h = w.half in
      elim w.x.mid.hears.course [
        | inl same ↦ inl (tb.state ∙ (same.0 ∙ h.x.mid.state))
        | inr (inl done) ↦ inr (tb.state ∙ done.0, sym h.x.mid.queued ∙ done.1, ap length tb.queue ∙ done.2)
        | inr (inr ended) ↦ absurd (never_ended a2 b' w.x.two w.x.one w.x.mid.second w.x.mid.first open_b ended.0)
      ]
    where
      open_b : b'.end_queued ≡ false
      open_b = w.x.mid.queued ∙ (w.half.t.queued ∙ (w.half.x.mid.hears.queued ∙ r.open'))

  ready_again : Ready now now_b a' b' z.after w.x.one
  ready_again =
      let h = w.half in
      let t = h.t in
      let mid = h.x.mid in
      let m = w.x.mid in
      record {
        first = z.follows;
        second = peer_follows b' w.x.one w.x.two z.after z.units m.first;
        line = z.line;
        names = record {
          peer = tb.peer ∙ (m.hears.peer ∙ (mid.peer ∙ (r.names.peer ∙ sym (m.own ∙ (t.own ∙ mid.hears.own)))));
          peer_back = m.peer ∙ (t.peer ∙ (mid.hears.peer ∙ (r.names.peer_back ∙ sym (tb.own ∙ (m.hears.own ∙ mid.own)))));
        };
        joined = ap is_joined tb.state ∙ m.joined;
        joined_b = ap is_joined m.state ∙ (ap is_joined t.state ∙ mid.joined);
        spoke = omega (arith, tb.spoke, m.hears.spoke, mid.spoke);
        spoke_b = m.spoke;
        by = λ k q below is.
            let was = m.hears.sent k q (omega (arith, below, tb.out)) (ap (λ qs. slice_get qs k) (sym tb.queue) ∙ is) in
            mid.by was.0 q was.1 was.2;
        by_b = m.by;
        able = λ works.
            let was : is_working a2.state ≡ true = ap is_working (sym tb.state) ∙ works in
            let same : a2.state ≡ a1.state = still_sends a1 a2 m.hears.course was in
            let first : is_working a.state ≡ true = ap is_working (sym mid.state ∙ sym same) ∙ was in
            able_empty a' (omega (arith, all_acknowledged first, z.follows.tracks.counts.out))
            (elim m.gave [
              | inl silent ↦ elim (mid.probes first) [
                | inl few ↦ omega (arith, few, tb.probes, ap (λ (l : LinkView). l.probes) silent.1)
                | inr owes ↦ absurd (silent_owes_none silent owes.1)
              ]
              | inr told ↦ omega (arith, told.probes, tb.probes)
            ]);
        back = λ works.
            let was : is_working b2.state ≡ true = ap is_working (sym m.state) ∙ works in
            let all : w.x.two.read ≡ w.x.one.sent = all_read now_b b2 a1 h.y.after h.x.one b' a2 w.x was in
            let read : z.after.read ≡ w.x.one.sent = z.read ∙ all in
            ⊎_elim
            (λ (some : 0 < b'.out). inr (still_owes a2 a' vs tb (all_met now_b b2 a1 h.y.after h.x.one b' a2 w.x was 0 some).1, read))
            (λ (none : b'.out ≤ 0). elim (m.probes was) [
              | inl few ↦ inl (able_empty b' (omega (arith, none)) few)
              | inr owes ↦ inr (still_owes a2 a' vs tb owes.1, read)
            ])
            (cases_lt 0 b'.out);
        ended = λ e.
            let was : b1.peer_ended ≡ true = sym t.ended ∙ (sym m.ended_a ∙ e) in
            elim (mid.ended was) [
              | inl owes ↦
                  let told = told_owed now_b b2 a1 h.y.after h.x.one b' a2 w.x (owed_by b2 (still_owes b1 b2 us t owes)) in
                  omega (arith, told.base, z.base, ap length z.units, (m.first.tracks.ended e).1)
              | inr none ↦ omega (arith, none, z.base, m.fed.base, ap length z.units, ap length m.fed.units)
            ];
        open' = m.queued ∙ (t.queued ∙ (mid.hears.queued ∙ r.open'));
        pace = unpaced_as a2 a' tb.pace m.pace_b;
        pace_b = m.pace;
      }

  -- a confirmation that is owed reaches the first link, whose queue is empty by then
  closes_on : b1.peer_ended ≡ true → b1.owes_confirm ≡ true → a.end_queued ≡ true → a'.state ≡ S.Confirmed
  closes_on ended owes queued =
      let h = w.half in
      let all : length h.x.one.units ≤ h.x.two.read = (h.x.mid.second.tracks.ended ended).1 in
      elim (w.x.mid.closes (h.t.confirm ∙ owes) (h.x.mid.queued ∙ queued) (omega (arith, all, h.y.read))) [
        | inl still ↦ absurd (cc (sym still ∙ w.x.rests.confirm))
        | inr done ↦ tb.state ∙ done
      ]

  back_on : SameBack b b' ⊎ EndsBack a a' b b'
  back_on =
      let h = w.half in
      let m = w.x.mid in
      let state : b'.state ≡ b1.state = m.state ∙ h.t.state in
      let ended : b'.peer_ended ≡ b1.peer_ended = m.ended_a ∙ h.t.ended in
      elim h.x.mid.hears.course [
        | inl same ↦ inl (record { state = state ∙ same.0; ended = ended ∙ same.1 })
        | inr (inl done) ↦ absurd (cc (sym r.open' ∙ done.1))
        | inr (inr ends) ↦ inr (record {
          state = state ∙ elim ends.2 [ inl s ↦ s | inr s ↦ absurd (cc (sym r.open' ∙ s.1)) ];
          ended = ended ∙ ends.0;
          closes = λ queued. closes_on ends.0 ends.1 queued;
        })
      ]

  unread_round : Unread b c d → Unread b' z.after w.x.one
  unread_round was open' k u below is =
      let h = w.half in
      let m = w.x.mid in
      h.x.mid.unread was (sym (m.ended_a ∙ h.t.ended) ∙ open') k u (omega (arith, below, m.grew.read, h.y.read)) (ap (λ us. slice_get us k) (sym (z.units ∙ m.fed.units)) ∙ is)

  pub rounded_on : Rounded now now_b a b a' b' c d us
  rounded_on =
      let h = w.half in
      let t = h.t in
      let mid = h.x.mid in
      let m = w.x.mid in
      let units : z.after.units ≡ c.units = z.units ∙ (m.fed.units ∙ mid.grew.units) in
      record {
        one = z.after;
        two = w.x.one;
        ready = ready_again;
        units = units;
        buffers = m.grew.buffers ∙ (h.y.buffers ∙ mid.fed.buffers);
        base = omega (arith, mid.grew.base, m.fed.base, z.base);
        sent = omega (arith, mid.grew.sent, m.fed.sent, z.sent);
        read = omega (arith, mid.fed.read, h.y.read, m.grew.read);
        taken = m.grew.taken ∙ (h.y.taken ∙ sym m.grew.read);
        got = t.units ∙ (mid.second.tracks.held ∙ (ap (λ n. drop n (take h.x.two.read h.x.one.units)) mid.fed.taken ∙ (ap (λ n. drop d.taken (take n h.x.one.units)) (sym (m.grew.read ∙ h.y.read)) ∙ ap (λ xs. drop d.taken (take w.x.one.read xs)) mid.grew.units)));
        held = tb.held;
        queued = tb.queued ∙ (m.hears.queued ∙ mid.queued);
        state = state_after_round;
        works = λ works. record {
          read = omega (arith, all_read now a b c d a1 b1 h.x works, m.grew.read, h.y.read, z.sent, m.fed.sent);
          base = all_acknowledged works;
          sent = omega (arith, all_sent now a b c d a1 b1 h.x works, mid.grew.limit, ap length mid.grew.units, z.sent, m.fed.sent);
          told = unless_told works;
        };
        unread = unread_round;
        back = back_on;
      }

pub round_on : (laws : LinkLaws) (since now : ℕ) (a b : LinkView) (c d : End) → since + resend_after ≤ now → Ready since since a b c d → (a' b' : LinkView) (us vs : List Unit)
    → LosslessRound a b now a' b' us vs → Rounded now now a b a' b' c d us
round_on laws since now a b c d past r a' b' us vs round =
    let h = half_on laws since since now a b c d past r round.told round.heard round.answered us round.there round.taken in
    let w = twice_on laws since since now now a b c d past r round.told round.heard round.answered us h round.second b' round.back in
    let z = taken_to laws round.second a' vs w.x.two w.x.one round.taken_back w.x.mid.second (swapped w.x.one w.x.two w.x.mid.line) in
    rounded_on laws since since now now a b c d past r round.told round.heard round.answered round.second b' a' us vs w (took_all round.second a' vs round.taken_back) z
