-- One round of two links in step of which the first is paced. If the first has a unit that is outstanding, or may be
-- sent, one more is acknowledged.
use Rattle.std.proofs.Common.{ℕ, ◌+◌, ◌^◌, ◌<◌, ◌≤◌, ◌≡◌, ◌⊎◌, ◌==◌, true, false, List, [], length, take, drop, refl, sym, ap, ◌∙◌, subst, inl, inr, ⊎_elim, arith, slice_get}
use Rattle.std.proofs.lemmas.Bool.{cases_lt, eq-eqb, le-leb, lt-ltb}
use Rattle.spx_link.specs.declared.unit.Unit.{Unit}
use Rattle.spx_link.specs.declared.state.State.TheVariants as S
use Rattle.spx_link.specs.ByClock.{IsUnpaced}
use Rattle.spx_link.specs.Limits.{most_manual_probes, resend_after}
use Rattle.spx_link.specs.LinkView.{LinkView, due, is_working}
use Rattle.spx_link.specs.LinkTurns.{is_joined}
use Rattle.spx_link.specs.Machine.{End, AreSound}
use Rattle.spx_link.specs.Poll.{is_waiting, may_probe}
use Rattle.spx_congestion.specs.Pacing.{PacerView}
use Rattle.spx_congestion.specs.Saving.{begins}
use Rattle.spx_theory.specs.Named.{AreNamed}
use Rattle.spx_theory.specs.Tracks.{Follows}
use Rattle.spx_theory.proofs.Amid.{Mid, Unread, outstanding_there, unpaced_as}
use Rattle.spx_theory.proofs.Crossing as crossing
use Rattle.spx_theory.proofs.Crossing.{Crossed, all_met, all_read, told_owed}
use Rattle.spx_theory.proofs.Entries.{Told}
use Rattle.spx_theory.proofs.Halves.{EndsBack, SameBack}
use Rattle.spx_theory.proofs.Having.{Has, has_all}
use Rattle.spx_theory.proofs.Hearers.{heard_same}
use Rattle.spx_theory.proofs.Hearing.{Owes}
use Rattle.spx_theory.proofs.PollCases.{IsResting}
use Rattle.spx_theory.proofs.Ready.{Able, SentBy, able_empty, able_heard, able_same, mid_start, never_ended, owed_by, still_owes, still_sends}
use Rattle.spx_theory.proofs.RoundLists.{and_both, empty_list}
use Rattle.spx_theory.proofs.RoundPackets.{peer_follows, swapped}
use Rattle.spx_theory.proofs.RoundPolls.{Owed}
use Rattle.spx_theory.proofs.RoundTakes.{TookAll, TakenTo, took_all, taken_to}
use Rattle.theory_processes.specs.PacedRounds.{IsRipe, PacedReads, PacedRound}
use Rattle.theory_processes.specs.PacingLaws.{PacingLaws}
use Rattle.theory_processes.proofs.Amidst.{Amid, SentFew, follows_as}
use Rattle.theory_processes.proofs.Crossings.{HasNext, PacedCrossed, cross}
use Rattle.theory_processes.proofs.Told.{WasTold, told_all}
use Rattle.theory_processes.proofs.Unpacing.{conveyed_as, unpaced}

-- two links between rounds, with the pacer of the first, if the second has queued no end
pub record Standing (since : ℕ) (a : LinkView) (p : PacerView) (b : LinkView) (c d : End) : Type 0 where
  pub first : Follows a c d
  pub second : Follows b d c
  pub line : AreSound c d
  pub names : AreNamed a b
  pub joined : is_joined a.state ≡ true
  pub joined_b : is_joined b.state ≡ true
  pub spoke : a.spoke ≤ since
  pub spoke_b : b.spoke ≤ since
  pub by_b : SentBy b since
  pub counts : SentFew a
  pub probes : a.probes < most_manual_probes
  pub back : is_working b.state ≡ true → Able b ⊎ (Owes a × (c.read ≡ d.sent))
  pub ended : b.peer_ended ≡ true → length c.units ≤ c.base
  pub open' : b.end_queued ≡ false
  pub pace_b : IsUnpaced b
  pub tick : p.tick ≤ since
  pub few : p.trip.doubled + 1 < 10
  pub fits : p.base + length c.units + 1 < 2 ^ 64 + c.base
  -- if the first no longer sends units, everything is acknowledged
  pub works : (is_working a.state ≡ true) ⊎ (length c.units ≤ c.base)

-- the peer said what it has and what may be sent next
pub record IsInformed (one two : End) : Type 0 where
  pub base : two.read ≤ one.base
  pub limit : one.limit ≡ two.taken + two.buffers

-- or it said nothing. Then no flag is left that would prevent a probe. If none was set, and no unit was outstanding or
-- might be sent, no unit waits
pub record IsSilent (a a' : LinkView) (c : End) : Type 0 where
  pub none : a.held ≡ [] → Owed a' → ⊥
  pub probes : (Owed a → ⊥) → is_working a.state ≡ true → a.out ≡ 0 → a.room ≡ 0 → length c.units ≤ c.base

pub record PacedRounded (now : ℕ) (a b a' : LinkView) (p' : PacerView) (b' : LinkView) (c d : End) (units_b : List Unit) : Type 0 where
  pub one : End
  pub two : End
  pub ready : Standing now a' p' b' one two
  pub units : one.units ≡ c.units
  pub buffers : two.buffers ≡ d.buffers
  pub base : c.base ≤ one.base
  pub read : d.read ≤ two.read
  pub taken : two.taken ≡ two.read
  pub got : units_b ≡ drop d.taken (take two.read c.units)
  pub held : a'.held ≡ []
  pub queued : a'.end_queued ≡ a.end_queued
  pub state : (a'.state ≡ a.state) ⊎ ((a'.state ≡ S.Confirmed) × (a.end_queued ≡ true) × (length a'.queue ≡ 0))
  pub course : IsInformed one two ⊎ IsSilent a a' c
  pub next : HasNext a → (c.base < one.base) × IsInformed one two
  pub unread : Unread b c d → Unread b' one two
  -- the second link is as it was, or had the end; then the first is confirmed
  pub back : SameBack b b' ⊎ EndsBack a a' b b'

rest_owes_none : (l : LinkView) (now : ℕ) → IsResting l now → Owed l → ⊥
rest_owes_none l now r (inl e) = cc (sym e ∙ r.reply)
rest_owes_none l now r (inr (inl e)) = cc (sym e ∙ r.confirm)
rest_owes_none l now r (inr (inr e)) = cc (sym e ∙ r.ack)

-- a link that waits with nothing outstanding and no allocation, and was silent, may probe
must_probe : (l : LinkView) (now : ℕ) → is_working l.state ≡ true → l.out < length l.queue → l.room ≡ 0 → l.out ≡ 0 → l.spoke + resend_after ≤ now → may_probe l now ≡ true
must_probe l now works waits room out silent =
    and_both (is_working l.state) _ works
    (and_both (is_waiting l) _ (lt-ltb l.out (length l.queue) waits) (and_both (l.room == 0) _ (eq-eqb l.room 0 room) (and_both (l.out == 0) (due l.spoke now) (eq-eqb l.out 0 out) (le-leb (l.spoke + resend_after) now silent))))

-- the middle of a round: the second link has read everything, and its user has taken everything
pub record PacedHalf (now : ℕ) (a : LinkView) (p : PacerView) (b : LinkView) (c d : End) (a1 : LinkView) (p1 : PacerView) (b1 b2 : LinkView) (units_b : List Unit) : Type 0 where
  pub x : PacedCrossed now a b p c d a1 b1 p1
  pub t : TookAll b1 b2 units_b
  pub y : TakenTo b2 x.two x.one

-- a packet that the first link gave was read
told_first : (now : ℕ) (a b : LinkView) (p : PacerView) (c d : End) (a1 b1 : LinkView) (p1 : PacerView) (x : PacedCrossed now a b p c d a1 b1 p1) → Owed a → Told x.one b1 x.two
told_first now a b p c d a1 b1 p1 x owed =
    elim x.mid.gave [
      | inl same ↦ absurd (none_owed (subst Owed (sym same.0) owed))
      | inr told ↦ told
    ]
  where
    none_owed : Owed (unpaced a1) → ⊥
    none_owed (inl e) = cc (sym e ∙ x.rests.reply)
    none_owed (inr (inl e)) = cc (sym e ∙ x.rests.confirm)
    none_owed (inr (inr e)) = cc (sym e ∙ x.rests.ack)

-- the peer can still send: it has not given up, or everything is read by now
able_back : (since now : ℕ) (a b : LinkView) (p : PacerView) (c d : End) (a1 b1 b2 : LinkView) (p1 : PacerView) (us : List Unit) → Standing since a p b c d → PacedHalf now a p b c d a1 p1 b1 b2 us → is_working b2.state ≡ true → Able b2
able_back since now a b p c d a1 b1 b2 p1 us r h works =
    let mid = h.x.mid in
    let works1 : is_working b1.state ≡ true = ap is_working (sym h.t.state) ∙ works in
    let same : b1.state ≡ b.state = still_sends b b1 mid.hears.course works1 in
    able_same b1 b2 us h.t
    (elim (r.back (ap is_working (sym same) ∙ works1)) [
      | inl able ↦ able_heard b b1 mid.hears able
      | inr owes ↦
          let told = told_first now a b p c d a1 b1 p1 h.x (owed_by a owes.0) in
          able_empty b1
          (omega (arith, told.base, mid.grew.read, owes.1, mid.fed.sent, mid.second.tracks.counts.out, mid.line.back.base, mid.line.back.read))
          (omega (arith, told.probes))
    ])

pub record PacedTwice (now : ℕ) (a : LinkView) (p : PacerView) (b : LinkView) (c d : End) (a1 : LinkView) (p1 : PacerView) (b1 b2 : LinkView) (units_b : List Unit) (a2 b' : LinkView) : Type 0 where
  pub half : PacedHalf now a p b c d a1 p1 b1 b2 units_b
  pub x : Crossed now b2 (unpaced a1) half.y.after half.x.one b' (unpaced a2)

half_on : (laws : PacingLaws) (since now : ℕ) (a : LinkView) (p : PacerView) (b : LinkView) (c d : End) → since + resend_after ≤ now → IsRipe a p now → Standing since a p b c d → (a' : LinkView) (p' : PacerView) (b' : LinkView) (us vs : List Unit)
    → (round : PacedRound a p b now a' p' b' us vs) → PacedHalf now a p b c d round.told round.planned round.heard round.answered us
half_on laws since now a p b c d past ripe r a' p' b' us vs round =
    let start : Amid now a b c d a b c d = record {
      first = r.first;
      second = r.second;
      line = r.line;
      grew = record { base = refl; sent = omega arith; limit = refl; read = refl; taken = refl; buffers = refl; units = refl };
      fed = record { sent = refl; taken = refl; buffers = refl; units = refl; base = omega arith; limit = omega arith; read = omega arith };
      state = refl;
      own = refl;
      peer = refl;
      queued = refl;
      ended_a = refl;
      spoke = omega (arith, r.spoke, past);
      hears = heard_same b;
      joined = r.joined_b;
      counts = r.counts;
      probes = inl r.probes;
      ended = λ e. inr (r.ended e);
      gave = inl (refl, refl);
      owed = λ o. o;
      asks = inl refl;
      unread = λ z. z;
      pace_b = r.pace_b;
    } in
    let x : PacedCrossed now a b p c d round.told round.heard round.planned =
    cross laws since now (omega (arith, past)) ripe.shown a b p c d r.names r.joined ripe.waited r.few (omega (arith, r.fits, r.line.there.base, r.line.there.read, r.line.within.sent))
    a b round.told round.heard p round.planned round.there c d start (inl (refl, refl)) refl (omega (arith, r.tick, past))
    (λ next. inl (record { saved = begins p since r.tick; turn = elim next.some [ inl some ↦ inl (some, inl (ripe.waited some)) | inr new ↦ inr new ] })) in
    record {
      x = x;
      t = took_all round.heard round.answered us round.taken;
      y = taken_to laws.links round.heard round.answered us x.two x.one round.taken x.mid.second (swapped x.one x.two x.mid.line);
    }

twice_on : (laws : PacingLaws) (since now : ℕ) (a : LinkView) (p : PacerView) (b : LinkView) (c d : End) → since + resend_after ≤ now → Standing since a p b c d → (a1 : LinkView) (p1 : PacerView) (b1 b2 : LinkView) (us : List Unit)
    → PacedHalf now a p b c d a1 p1 b1 b2 us → (a2 b' : LinkView) (p2 : PacerView) → PacedReads b2 a1 p1 now b' a2 p2 → PacedTwice now a p b c d a1 p1 b1 b2 us a2 b'
twice_on laws since now a p b c d past r a1 p1 b1 b2 us h a2 b' p2 goes' =
    let mid = h.x.mid in
    let t = h.t in
    let l1 : LinkView = unpaced a1 in
    let queued : b1.end_queued ≡ false = mid.hears.queued ∙ r.open' in
    let first : Follows l1 h.x.one h.y.after = follows_as a1 l1 h.x.one h.y.after refl (peer_follows a1 h.x.one h.x.two h.y.after h.y.units mid.first) in
    let start : Mid now b2 l1 h.y.after h.x.one b2 l1 h.y.after h.x.one =
    mid_start now since b2 l1 h.y.after h.x.one past h.y.follows first h.y.line (ap is_joined mid.state ∙ r.joined)
    (omega (arith, t.spoke, mid.hears.spoke, r.spoke_b))
    (λ k q below is. let was = mid.hears.sent k q (omega (arith, below, t.out)) (ap (λ qs. slice_get qs k) (sym t.queue) ∙ is) in r.by_b was.0 q was.1 was.2)
    (λ works. able_back since now a b p c d a1 b1 b2 p1 us r h works)
    (λ e. absurd (never_ended a1 b1 h.x.one h.x.two mid.first mid.second queued e)) (unpaced_as b1 b2 t.pace mid.pace_b) (record { window = refl; manual = refl }) in
    record {
      half = h;
      x = crossing.cross laws.links now b2 l1 h.y.after h.x.one
          (record { peer = t.peer ∙ (mid.hears.peer ∙ (r.names.peer_back ∙ sym mid.own)); peer_back = mid.peer ∙ (r.names.peer ∙ (sym mid.hears.own ∙ sym t.own)) })
          (ap is_joined t.state ∙ mid.joined) b2 l1 b' (unpaced a2) (conveyed_as b2 a1 b' a2 p1 p2 now goes') h.y.after h.x.one start;
    }

module _ (laws : PacingLaws) (since now : ℕ) (a : LinkView) (p : PacerView) (b : LinkView) (c d : End) (past : since + resend_after ≤ now) (r : Standing since a p b c d)
    (a1 : LinkView) (p1 : PacerView) (b1 b2 a2 b' a' : LinkView) (p' : PacerView) (us vs : List Unit) (w : PacedTwice now a p b c d a1 p1 b1 b2 us a2 b') (tb : TookAll a2 a' vs) (z : TakenTo a' w.x.two w.x.one)
    (told' : WasTold a1 a2 p1 p') where
  -- the peer sent nothing in this round
  abbrev Silent : Type 0
  Silent = (b' ≡ b2) × (unpaced a2 ≡ unpaced a1)

  silent_owes_none : Silent → Owes b1 → ⊥
  silent_owes_none s owes = rest_owes_none b' now w.x.rests (subst Owed (sym s.0) (owed_by b2 (still_owes b1 b2 us w.half.t owes)))

  informed : Told w.x.one (unpaced a2) w.x.two → IsInformed z.after w.x.one
  informed told = record { base = omega (arith, told.base, z.base); limit = omega (arith, told.limit, z.limit, z.line.there.limit) }

  -- the peer has the first unit that was not acknowledged, and says so
  next_on : HasNext a → (c.base < z.after.base) × IsInformed z.after w.x.one
  next_on next =
      let h = w.half in
      let there = h.x.reaches next in
      let read : c.base + 1 ≤ h.x.two.read = has_all h.x.two (c.base + 1) h.x.mid.second.tracks.open' (λ n less.
      ⊎_elim
      (λ (old : n < c.base). inl (omega (arith, old, h.x.mid.grew.base, h.x.mid.line.there.base)))
      (λ (new : c.base ≤ n). let same : c.base ≡ n = omega (arith, new, less) in subst (Has h.x.two) same there.0)
      (cases_lt n c.base)) in
      elim w.x.mid.gave [
        | inl silent ↦ absurd (silent_owes_none silent there.1)
        | inr told ↦ (omega (arith, told.base, w.x.mid.grew.read, h.y.read, read, z.base), informed told)
      ]

  course_on : IsInformed z.after w.x.one ⊎ IsSilent a a' c
  course_on =
      let h = w.half in
      let mid = h.x.mid in
      elim w.x.mid.gave [
        | inl silent ↦ inr (record {
          none = λ held owed.
              let long : length a1.held ≡ 0 = omega (arith, ap length held, r.first.tracks.counts.held, mid.first.tracks.counts.held, mid.grew.read, mid.grew.taken) in
              let same : a2.held ≡ [] = ap (λ (l : LinkView). l.held) silent.1 ∙ empty_list a1.held long in
              let before : Owed (unpaced a2) = elim owed [
                | inl e ↦ inl (sym tb.reply ∙ e)
                | inr (inl e) ↦ inr (inl (sym tb.confirm ∙ e))
                | inr (inr e) ↦ inr (inr (sym (tb.none same) ∙ e))
              ] in
              let first : Owed (unpaced a1) = subst Owed silent.1 before in
              rest_owes_none a1 now h.x.rests (elim first [ inl e ↦ inl e | inr (inl e) ↦ inr (inl e) | inr (inr e) ↦ inr (inr e) ]);
          probes = λ none works out room.
              let there = outstanding_there a c d r.first r.line in
              ⊎_elim
              (λ (more : a.out < length a.queue).
              elim mid.asks [
                | inl same ↦
                    let may : may_probe a1 now ≡ true =
                    must_probe a1 now (ap is_working mid.state ∙ works) (omega (arith, ap (λ (l : LinkView). l.out) same, ap (λ (l : LinkView). length l.queue) same, more)) (ap (λ (l : LinkView). l.room) same ∙ room)
                    (ap (λ (l : LinkView). l.out) same ∙ out) (omega (arith, ap (λ (l : LinkView). l.spoke) same, r.spoke, past)) in
                    absurd (cc (sym may ∙ h.x.rests.probe))
                | inr (inl owes) ↦ absurd (silent_owes_none silent owes)
                | inr (inr owed) ↦ absurd (none owed)
              ])
              (λ (all : length a.queue ≤ a.out). omega (arith, all, out, there.1))
              (cases_lt a.out (length a.queue));
        })
        | inr told ↦ inl (informed told)
      ]

  -- the first link's state
  state_after_round : (a'.state ≡ a.state) ⊎ ((a'.state ≡ S.Confirmed) × (a.end_queued ≡ true) × (length a'.queue ≡ 0))
  state_after_round =
      let h = w.half in
      elim w.x.mid.hears.course [
        | inl same ↦ inl (tb.state ∙ (same.0 ∙ h.x.mid.state))
        | inr (inl done) ↦ inr (tb.state ∙ done.0, sym h.x.mid.queued ∙ done.1, ap length tb.queue ∙ done.2)
        | inr (inr ended) ↦ absurd (never_ended (unpaced a2) b' w.x.two w.x.one w.x.mid.second w.x.mid.first open_b ended.0)
      ]
    where
      open_b : b'.end_queued ≡ false
      open_b = w.x.mid.queued ∙ (w.half.t.queued ∙ (w.half.x.mid.hears.queued ∙ r.open'))

  base_on : c.base ≤ z.after.base
  base_on = omega (arith, w.half.x.mid.grew.base, w.x.mid.fed.base, z.base)

  units_on : z.after.units ≡ c.units
  units_on = z.units ∙ (w.x.mid.fed.units ∙ w.half.x.mid.grew.units)

  works_on : (is_working a'.state ≡ true) ⊎ (length z.after.units ≤ z.after.base)
  works_on =
      elim state_after_round [
        | inl same ↦ elim r.works [
          | inl works ↦ inl (ap is_working same ∙ works)
          | inr all ↦ inr (omega (arith, all, base_on, ap length units_on))
        ]
        | inr done ↦ inr (omega (arith, done.2, (outstanding_there a' z.after w.x.one z.follows z.line).1, z.line.there.base, z.line.there.read, z.line.within.sent))
      ]

  -- a timeout is followed by an acknowledgement
  few_on : p'.trip.doubled + 1 < 10
  few_on =
      let h = w.half in
      let mid = h.x.mid in
      elim told'.doubled [
        | inl same ↦
            ⊎_elim
            (λ (some : 0 < a.out).
            elim r.works [
              | inl works ↦
                  let more = (next_on (record { works = works; some = inl some })).0 in
                  absurd (omega (arith, more, z.base, w.x.mid.second.tracks.counts.out, mid.first.tracks.counts.out, same.1, w.x.mid.fed.sent, mid.grew.base))
              | inr all ↦ absurd (omega (arith, all, some, r.first.tracks.counts.out, r.line.within.sent))
            ])
            (λ (none : a.out ≤ 0). let zero : a.out ≡ 0 = omega (arith, none) in omega (arith, same.0, h.x.paces.timed.none zero, r.few))
            (cases_lt 0 a.out)
        | inr none ↦ omega (arith, none)
      ]

  fits_on : p'.base + length z.after.units + 1 < 2 ^ 64 + z.after.base
  fits_on =
      let h = w.half in
      let mid = h.x.mid in
      omega (arith, told'.base, h.x.paces.base, r.fits, ap length units_on, mid.grew.base, z.base, w.x.mid.second.tracks.counts.out, mid.first.tracks.counts.out, w.x.mid.fed.sent)

  ready_again : Standing now a' p' b' z.after w.x.one
  ready_again =
      let h = w.half in
      let t = h.t in
      let mid = h.x.mid in
      let m = w.x.mid in
      record {
        first = z.follows;
        second = peer_follows b' w.x.one w.x.two z.after z.units m.first;
        line = z.line;
        names = record {
          peer = tb.peer ∙ (m.hears.peer ∙ (mid.peer ∙ (r.names.peer ∙ sym (m.own ∙ (t.own ∙ mid.hears.own)))));
          peer_back = m.peer ∙ (t.peer ∙ (mid.hears.peer ∙ (r.names.peer_back ∙ sym (tb.own ∙ (m.hears.own ∙ mid.own)))));
        };
        joined = ap is_joined tb.state ∙ m.joined;
        joined_b = ap is_joined m.state ∙ (ap is_joined t.state ∙ mid.joined);
        spoke = omega (arith, tb.spoke, m.hears.spoke, mid.spoke);
        spoke_b = m.spoke;
        by_b = m.by;
        counts = λ k q below is.
            let was = m.hears.sent k q (omega (arith, below, tb.out)) (ap (λ qs. slice_get qs k) (sym tb.queue) ∙ is) in
            mid.counts was.0 q was.1 was.2;
        probes = elim m.gave [
          | inl silent ↦ elim mid.probes [
            | inl few ↦ omega (arith, few, tb.probes, ap (λ (l : LinkView). l.probes) silent.1)
            | inr owes ↦ absurd (silent_owes_none silent owes.1)
          ]
          | inr told ↦ omega (arith, told.probes, tb.probes)
        ];
        back = λ works.
            let was : is_working b2.state ≡ true = ap is_working (sym m.state) ∙ works in
            let all : w.x.two.read ≡ w.x.one.sent = all_read now b2 (unpaced a1) h.y.after h.x.one b' (unpaced a2) w.x was in
            let read : z.after.read ≡ w.x.one.sent = z.read ∙ all in
            ⊎_elim
            (λ (some : 0 < b'.out). inr (still_owes a2 a' vs tb (all_met now b2 (unpaced a1) h.y.after h.x.one b' (unpaced a2) w.x was 0 some).1, read))
            (λ (none : b'.out ≤ 0). elim (m.probes was) [
              | inl few ↦ inl (able_empty b' (omega (arith, none)) few)
              | inr owes ↦ inr (still_owes a2 a' vs tb owes.1, read)
            ])
            (cases_lt 0 b'.out);
        ended = λ e.
            let was : b1.peer_ended ≡ true = sym t.ended ∙ (sym m.ended_a ∙ e) in
            elim (mid.ended was) [
              | inl owes ↦
                  let told = told_owed now b2 (unpaced a1) h.y.after h.x.one b' (unpaced a2) w.x (owed_by b2 (still_owes b1 b2 us t owes)) in
                  omega (arith, told.base, z.base, ap length z.units, (m.first.tracks.ended e).1)
              | inr none ↦ omega (arith, none, z.base, m.fed.base, ap length z.units, ap length m.fed.units)
            ];
        open' = m.queued ∙ (t.queued ∙ (mid.hears.queued ∙ r.open'));
        pace_b = m.pace;
        tick = omega (arith, told'.tick, h.x.paces.tick);
        few = few_on;
        fits = fits_on;
        works = works_on;
      }

  -- a confirmation that is owed reaches the first link, whose queue is empty by then
  closes_on : b1.peer_ended ≡ true → b1.owes_confirm ≡ true → a.end_queued ≡ true → a'.state ≡ S.Confirmed
  closes_on ended owes queued =
      let h = w.half in
      let all : length h.x.one.units ≤ h.x.two.read = (h.x.mid.second.tracks.ended ended).1 in
      elim (w.x.mid.closes (h.t.confirm ∙ owes) (h.x.mid.queued ∙ queued) (omega (arith, all, h.y.read))) [
        | inl still ↦ absurd (cc (sym still ∙ w.x.rests.confirm))
        | inr done ↦ tb.state ∙ done
      ]

  back_on : SameBack b b' ⊎ EndsBack a a' b b'
  back_on =
      let h = w.half in
      let m = w.x.mid in
      let state : b'.state ≡ b1.state = m.state ∙ h.t.state in
      let ended : b'.peer_ended ≡ b1.peer_ended = m.ended_a ∙ h.t.ended in
      elim h.x.mid.hears.course [
        | inl same ↦ inl (record { state = state ∙ same.0; ended = ended ∙ same.1 })
        | inr (inl done) ↦ absurd (cc (sym r.open' ∙ done.1))
        | inr (inr ends) ↦ inr (record {
          state = state ∙ elim ends.2 [ inl s ↦ s | inr s ↦ absurd (cc (sym r.open' ∙ s.1)) ];
          ended = ended ∙ ends.0;
          closes = λ queued. closes_on ends.0 ends.1 queued;
        })
      ]

  unread_round : Unread b c d → Unread b' z.after w.x.one
  unread_round was open' k u below is =
      let h = w.half in
      let m = w.x.mid in
      h.x.mid.unread was (sym (m.ended_a ∙ h.t.ended) ∙ open') k u (omega (arith, below, m.grew.read, h.y.read)) (ap (λ us. slice_get us k) (sym (z.units ∙ m.fed.units)) ∙ is)

  pub rounded_on : PacedRounded now a b a' p' b' c d us
  rounded_on =
      let h = w.half in
      let t = h.t in
      let mid = h.x.mid in
      let m = w.x.mid in
      record {
        one = z.after;
        two = w.x.one;
        ready = ready_again;
        units = units_on;
        buffers = m.grew.buffers ∙ (h.y.buffers ∙ mid.fed.buffers);
        base = base_on;
        read = omega (arith, mid.fed.read, h.y.read, m.grew.read);
        taken = m.grew.taken ∙ (h.y.taken ∙ sym m.grew.read);
        got = t.units ∙ (mid.second.tracks.held ∙ (ap (λ n. drop n (take h.x.two.read h.x.one.units)) mid.fed.taken ∙ (ap (λ n. drop d.taken (take n h.x.one.units)) (sym (m.grew.read ∙ h.y.read)) ∙ ap (λ xs. drop d.taken (take w.x.one.read xs)) mid.grew.units)));
        held = tb.held;
        queued = tb.queued ∙ (m.hears.queued ∙ mid.queued);
        state = state_after_round;
        course = course_on;
        next = next_on;
        unread = unread_round;
        back = back_on;
      }

pub round_on : (laws : PacingLaws) (since now : ℕ) (a : LinkView) (p : PacerView) (b : LinkView) (c d : End) → since + resend_after ≤ now → IsRipe a p now → Standing since a p b c d → (a' : LinkView) (p' : PacerView) (b' : LinkView) (us vs : List Unit)
    → PacedRound a p b now a' p' b' us vs → PacedRounded now a b a' p' b' c d us
round_on laws since now a p b c d past ripe r a' p' b' us vs round =
    let h = half_on laws since now a p b c d past ripe r a' p' b' us vs round in
    let w = twice_on laws since now a p b c d past r round.told round.planned round.heard round.answered us h round.second b' p' round.back in
    let second : Follows round.second w.x.two w.x.one = follows_as (unpaced round.second) round.second w.x.two w.x.one refl w.x.mid.second in
    let z = taken_to laws.links round.second a' vs w.x.two w.x.one round.taken_back second (swapped w.x.one w.x.two w.x.mid.line) in
    rounded_on laws since now a p b c d past r round.told round.planned round.heard round.answered round.second b' a' p' us vs w (took_all round.second a' vs round.taken_back) z (told_all laws round.answered round.told b' round.second round.planned p' now round.back)
