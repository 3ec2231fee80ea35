-- Everything that a link gives at one time, read by its peer at once: how the two links and their ends of the
-- machine change.
use Rattle.std.proofs.Common.{ℕ, ◌+◌, ◌-◌, ◌<◌, ◌≤◌, ◌≡◌, min, nat_lt, true, false, length, take, get_or, Some, None, sym, ap, ◌∙◌, subst, inl, inr, ⊎_elim, arith, slice_get}
use Rattle.std.proofs.lemmas.Bool.{cases_lt, lt-ltb, leb-true, cond-true, cond-false}
use Rattle.std.proofs.lemmas.Option.{slice_get-get_or}
use Rattle.spx_link.specs.declared.queue.Queued.{Queued}
use Rattle.spx_link.specs.Limits.{most_sends, most_manual_probes}
use Rattle.spx_link.specs.LinkView.{LinkView, due, is_working}
use Rattle.spx_link.specs.Machine.{End, got, packet_now}
use Rattle.spx_link.specs.LinkTurns.{is_joined}
use Rattle.spx_theory.specs.Tracks.{IsOpen}
use Rattle.spx_theory.specs.LinkLaws.{LinkLaws}
use Rattle.spx_theory.specs.LosslessRounds.{Conveys, stops, goes}
use Rattle.spx_theory.proofs.PollCases.{IsResting}
use Rattle.spx_theory.proofs.Ending.{not_yet}
use Rattle.spx_theory.specs.Spelling.{PolledTo}
use Rattle.spx_theory.specs.Tracks.{core}
use Rattle.spx_theory.specs.PairSteps.{Polled}
use Rattle.spx_link.specs.Limits.{most_units}
use Rattle.spx_link.specs.Offer.{the_end, queued}
use Rattle.spx_link.specs.Poll.{late, asked_again, wanted, late_if_working, most_probes, is_waiting}
use Rattle.spx_theory.proofs.Having.{Has, has_all}
use Rattle.spx_theory.proofs.RoundPackets.{Spoken, spoken}
use Rattle.spx_theory.proofs.Hearing.{Owes}
use Rattle.spx_theory.proofs.RoundPolls.{Gave, KindsBy, GivesUp, Owed, poll_kinds}
use Rattle.spx_theory.proofs.Amid.{Mid, outstanding_there, step}
use Rattle.spx_theory.proofs.Entries.{Told}
use Rattle.spx_theory.proofs.RoundLists.{and_both, no_place, slice_get-take}
use Rattle.spx_theory.specs.Named.{AreNamed}

pub record Crossed (now : ℕ) (a0 b0 : LinkView) (c0 d0 : End) (a b : LinkView) : Type 0 where
  pub one : End
  pub two : End
  pub mid : Mid now a0 b0 c0 d0 a b one two
  pub rests : IsResting a now

never_gives_up : (now : ℕ) (a0 b0 : LinkView) (c0 d0 : End) (a b : LinkView) (c d : End) → Mid now a0 b0 c0 d0 a b c d → GivesUp a now → ⊥
never_gives_up now a0 b0 c0 d0 a b c d mid g =
    let works : is_working a0.state ≡ true = ap is_working (sym mid.state) ∙ g.working in
    elim g.why [
      | inl late' ↦ elim (mid.met works late'.place late'.unit late'.below late'.there) [
        | inl few ↦ absurd (omega (arith, few.1, leb-true most_sends late'.unit.count late'.often))
        | inr now' ↦ absurd (cc (sym (ap (λ t. due t now) now'.0 ∙ not_yet now) ∙ late'.due' mid.pace.manual))
      ]
      | inr probe ↦ elim (mid.probes works) [
        | inl few ↦ absurd (omega (arith, few, leb-true (most_probes a) a.probes probe.often, cond-false a.manual most_manual_probes most_sends mid.pace.manual))
        | inr now' ↦ absurd (cc (sym (ap (λ t. due t now) now'.0 ∙ not_yet now) ∙ probe.due'))
      ]
    ]

pub cross : (laws : LinkLaws) (now : ℕ) (a0 b0 : LinkView) (c0 d0 : End) → AreNamed a0 b0 → is_joined a0.state ≡ true → (a b a' b' : LinkView) → Conveys a b now a' b'
    → (c d : End) → Mid now a0 b0 c0 d0 a b c d → Crossed now a0 b0 c0 d0 a' b'
cross laws now a0 b0 c0 d0 names joined a b a' b' (stops is) c d mid =
    elim (subst (KindsBy a now) is (poll_kinds a now (ap is_joined mid.state ∙ joined))) [
      | inl rest ↦ record { one = c; two = d; mid = subst (λ k. Mid now a0 b0 c0 d0 k b c d) (sym rest.0) mid; rests = subst (λ k. IsResting k now) (sym rest.0) rest.1 }
      | inr gone ↦ absurd (never_gives_up now a0 b0 c0 d0 a b c d mid gone)
    ]
cross laws now a0 b0 c0 d0 names joined a b a' b' (goes {a1 = a1} {b1 = b1} g r is read rest) c d mid =
    let gave : Gave a now g a1 = subst (KindsBy a now) is (poll_kinds a now (ap is_joined mid.state ∙ joined)) in
    let polled : Polled a now c d = laws.steps.polls a now c d mid.first mid.line in
    let to : PolledTo (Some g) (core a1) c d = subst (λ z. PolledTo z.0 (core z.1) c d) is polled.to in
    let open' : IsOpen a1 = subst (λ z. IsOpen z.1) is polled.open' in
    let s : Spoken g.what a1 g c d = spoken laws g.what a1 g c d mid.line to in
    let next = step laws now a0 b0 c0 d0 names a b c d mid g a1 gave s open' in
    cross laws now a0 b0 c0 d0 names joined a1 b1 a' b' rest s.after (got (packet_now s.position s.after d) d) (subst (λ z. Mid now a0 b0 c0 d0 a1 z.1 s.after (got (packet_now s.position s.after d) d)) read next)

-- ---- the result

-- a link that gives nothing has no outstanding unit that is due
not_late : (l : LinkView) (now k : ℕ) (q : Queued) → l.manual ≡ false → is_working l.state ≡ true → late_if_working l now ≡ None → k < l.out → slice_get l.queue k ≡ Some q → due q.at now ≡ false
not_late l now k q clock works none below is =
    let found : late l now ≡ None = sym (cond-false l.manual (asked_again l) (late l now) clock) ∙ (sym (cond-true (is_working l.state) (wanted l now) None works) ∙ none) in
    let front : slice_get (take l.out l.queue) k ≡ Some q = slice_get-take l.out l.queue k below ∙ is in
    no_place (λ (x : Queued). due x.at now) (take l.out l.queue) k q found front

-- each outstanding unit was read, and an answer is owed
pub all_met : (now : ℕ) (a0 b0 : LinkView) (c0 d0 : End) (a b : LinkView) (x : Crossed now a0 b0 c0 d0 a b) → is_working a0.state ≡ true → (k : ℕ) → k < a.out
    → Has x.two (x.one.base + k) × Owes b
all_met now a0 b0 c0 d0 a b x works k below =
    let mid = x.mid in
    let within : k < length a.queue = omega (arith, below, (outstanding_there a x.one x.two mid.first mid.line).0) in
    let q : Queued = get_or a.queue k (queued the_end) in
    let is : slice_get a.queue k ≡ Some q = slice_get-get_or a.queue k (queued the_end) within in
    elim (mid.met works k q below is) [
      | inl late' ↦ absurd (cc (sym late'.0 ∙ not_late a now k q mid.pace.manual (ap is_working mid.state ∙ works) x.rests.late below is))
      | inr met ↦ (met.1, met.2)
    ]

-- everything that was sent is read
pub all_read : (now : ℕ) (a0 b0 : LinkView) (c0 d0 : End) (a b : LinkView) (x : Crossed now a0 b0 c0 d0 a b) → is_working a0.state ≡ true → x.two.read ≡ x.one.sent
all_read now a0 b0 c0 d0 a b x works =
    let mid = x.mid in
    let up : x.one.sent ≤ x.two.read = has_all x.two x.one.sent mid.second.tracks.open' (λ n less.
    ⊎_elim
    (λ (old : n < x.one.base). inl (omega (arith, old, mid.line.there.base)))
    (λ (new : x.one.base ≤ n).
    let place : x.one.base + (n - x.one.base) ≡ n = omega (arith, new) in
    subst (Has x.two) place (all_met now a0 b0 c0 d0 a b x works (n - x.one.base) (omega (arith, less, new, mid.first.tracks.counts.out))).0)
    (cases_lt n x.one.base)) in
    omega (arith, up, mid.line.there.read)

-- everything that may be sent is sent
pub all_sent : (now : ℕ) (a0 b0 : LinkView) (c0 d0 : End) (a b : LinkView) (x : Crossed now a0 b0 c0 d0 a b) → is_working a0.state ≡ true → x.one.sent ≡ min x.one.limit (length x.one.units)
all_sent now a0 b0 c0 d0 a b x works =
    let mid = x.mid in
    let t = mid.first.tracks.counts in
    let there = outstanding_there a x.one x.two mid.first mid.line in
    let w : is_working a.state ≡ true = ap is_working mid.state ∙ works in
    ⊎_elim
    (λ (waits : a.out < length a.queue).
    ⊎_elim
    (λ (room : 0 < a.room).
    ⊎_elim
    (λ (window : a.out < most_units).
    absurd (cc (sym (and_both (is_working a.state) _ w (and_both (is_waiting a) _ (lt-ltb a.out (length a.queue) waits) (and_both (nat_lt 0 a.room) _ (lt-ltb 0 a.room room) (and_both (nat_lt a.out most_units) (nat_lt a.out a.window) (lt-ltb a.out most_units window) (ap (λ w. nat_lt a.out w) mid.pace.window ∙ lt-ltb a.out most_units window))))) ∙ x.rests.unit)))
    (λ (full : most_units ≤ a.out). omega (arith, full, t.out, mid.line.there.sent, mid.line.within.limit, mid.second.tracks.counts.small, mid.line.within.sent))
    (cases_lt a.out most_units))
    (λ (none : a.room ≤ 0). omega (arith, none, t.room, mid.line.within.sent, mid.line.there.sent))
    (cases_lt 0 a.room))
    (λ (none : length a.queue ≤ a.out). omega (arith, none, there.1, t.out, mid.line.within.sent, mid.line.there.sent))
    (cases_lt a.out (length a.queue))

-- a link that owed something has told its peer
pub told_owed : (now : ℕ) (a0 b0 : LinkView) (c0 d0 : End) (a b : LinkView) (x : Crossed now a0 b0 c0 d0 a b) → Owed a0 → Told x.one b x.two
told_owed now a0 b0 c0 d0 a b x owed =
    elim x.mid.gave [
      | inl same ↦ absurd (none_owed (subst Owed (sym same.0) owed))
      | inr told ↦ told
    ]
  where
    none_owed : Owed a → ⊥
    none_owed (inl e) = cc (sym e ∙ x.rests.reply)
    none_owed (inr (inl e)) = cc (sym e ∙ x.rests.confirm)
    none_owed (inr (inr e)) = cc (sym e ∙ x.rests.ack)
