-- In rounds that are a minute or more apart each wait is over when a round begins.
use Rattle.std.proofs.Common.{ℕ, ◌+◌, ◌-◌, ◌^◌, ◌<◌, ◌≤◌, ◌≡◌, ◌∙◌, Bool, true, false, List, [], ◌∷◌, length, Option, None, Some, is_some, nat_lt, refl, sym, ap, subst, inl, inr, ⊎_elim, arith, if◌then◌else◌}
use Rattle.std.proofs.lemmas.Bool.{cases_Bool, cases_lt, le-leb, lt-ltb}
use Rattle.std.specs.Prelude.{option_map, unwrap_or}
use Rattle.spx_link.specs.declared.numbers.Numbers.{Numbers}
use Rattle.spx_link.specs.declared.received.Received.{Received}
use Rattle.spx_link.specs.declared.unit.Unit.{Unit}
use Rattle.spx_link.specs.Effects.{numbers_after_poll, numbers_after_received}
use Rattle.spx_link.specs.LinkTurns.{newly_held}
use Rattle.spx_link.specs.LinkView.{LinkView, numbers_of}
use Rattle.spx_link.specs.Poll.{OutgoingView, poll_link}
use Rattle.spx_link.specs.Receive.{receive_link}
use Rattle.spx_congestion.specs.declared.sent_kind.SentKind.{SentKind}
use Rattle.spx_congestion.specs.declared.sent_kind.SentKind.TheVariants as Gaves
use Rattle.spx_congestion.specs.Giving.{gave_of}
use Rattle.spx_congestion.specs.Hearing.{Hears}
use Rattle.spx_congestion.specs.Pacing.{PacerView, Tends, given_by, is_over, plan_of, saturating_sum, wait_of, waited_since, waits_till, with_outstanding}
use Rattle.spx_theory.specs.LosslessRounds.{Rise}
use Rattle.spx_theory.proofs.RoundTakes.{took_all}
use Rattle.theory_processes.specs.PacedMinutes.{IsWaiting, MinutesAreRipe, RiseByMinutes, StaysWaiting}
use Rattle.theory_processes.specs.PacedRounds.{AreRipe, IsRipe, IsTold, PacedConveys, PacedReads, PacedRound, PacedTurns, Plans, loses, rests, gives, silent, hears, over, after}
use Rattle.theory_processes.specs.PacingLaws.{PacingLaws}
use Rattle.theory_processes.proofs.PacerPlanning.{given_timer, timer_of}
use Rattle.theory_processes.proofs.Told.{is_stranger, same_out}
use Rattle.theory_processes.proofs.Unpacing.{set_is}

abbrev By : Option ℕ → ℕ → Type 0
By timer since = (t : ℕ) → timer ≡ Some t → t ≤ since

some_is : (n m : ℕ) → Some n ≡ Some m → n ≡ m
some_is n m is = ap (λ (o : Option ℕ). unwrap_or o 0) is

by_now : (timer : Option ℕ) (now : ℕ) → timer ≡ Some now → By timer now
by_now timer now is t at = let same = some_is now t (sym is ∙ at) in omega (arith, same)

by_if : (b : Bool) (timer : Option ℕ) (since now : ℕ) → By timer since → since ≤ now → By (if b then Some (unwrap_or timer now) else None) now
by_if true None since now by late t is = let same = some_is now t is in omega (arith, same)
by_if true (Some s) since now by late t is = let same = some_is s t is in omega (arith, same, by s refl, late)
by_if false timer since now by late t is = absurd (cc is)

by_counted : (timer : Option ℕ) (out since now : ℕ) → By timer since → since ≤ now → By (waited_since timer out now) now
by_counted timer out since now by late = by_if (nat_lt 0 out) timer since now by late

some_counted : (timer : Option ℕ) (out now : ℕ) → 0 < out → is_some (waited_since timer out now) ≡ true
some_counted timer out now some = rw (lt-ltb 0 out some) refl

-- a pacer that counted the outstanding units now
counted : (q : PacerView) (timer : Option ℕ) (out since now : ℕ) → q.timer ≡ waited_since timer out now → By timer since → since ≤ now → By q.timer now × (0 < out → is_some q.timer ≡ true)
counted q timer out since now is by late =
    (subst (λ o. By o now) (sym is) (by_counted timer out since now by late), λ some. ap (λ (o : Option ℕ). is_some o) is ∙ some_counted timer out now some)

begun : (q : PacerView) (out now : ℕ) → q.timer ≡ Some now → By q.timer now × (0 < out → is_some q.timer ≡ true)
begun q out now is = (by_now q.timer now is, λ some. ap (λ (o : Option ℕ). is_some o) is)

-- ---- a plan, a packet that was given, and one that was read

waiting_plan : (p q : PacerView) (out since now : ℕ) → Tends p out now q → IsWaiting out p since → since ≤ now → IsWaiting out q now
waiting_plan p q out since now t was late =
    let both : By q.timer now × (0 < out → is_some q.timer ≡ true) = elim (cases_Bool (is_over (waits_till (with_outstanding p out now)) now)) [
      | inl timed ↦ begun q out now (timer_of p q out now true t timed)
      | inr yet ↦ counted q p.timer out since now (timer_of p q out now false t yet) was.begun late
    ] in
    record { timed = t.timed; begun = both.0; some = both.1 }

given_wait : (p : PacerView) (what : SentKind) (now : ℕ) → (given_by p what now).trip.wait ≡ p.trip.wait
given_wait p Gaves.Request now = refl
given_wait p Gaves.Unit now = refl
given_wait p Gaves.End now = refl
given_wait p Gaves.Again now = refl
given_wait p Gaves.Other now = refl

waiting_given : (q : PacerView) (what : SentKind) (out out' since now : ℕ) → IsWaiting out q since → since ≤ now → IsWaiting out' (given_by (with_outstanding q out' now) what now) now
waiting_given q what out out' since now was late =
    let w = with_outstanding q out' now in
    let both = counted (given_by w what now) q.timer out' since now (given_timer w what now) was.begun late in
    let wait : (given_by w what now).trip.wait ≡ q.trip.wait = given_wait w what now in
    record { timed = (omega (arith, wait, was.timed.0), omega (arith, wait, was.timed.1)); begun = both.0; some = both.1 }

none_by : (now : ℕ) → By None now
none_by now t is = absurd (cc is)

waiting_told : (x y : Numbers) (joined : Bool) (p q : PacerView) (since now : ℕ) → Hears p x y joined now q → IsWaiting x.out p since → since ≤ now → IsWaiting y.out q now
waiting_told x y joined p q since now h was late =
    let both : By q.timer now × (0 < y.out → is_some q.timer ≡ true) =
    ⊎_elim
    (λ (acked : y.out < x.out). counted q None y.out since now (h.acknowledged acked).0 (none_by since) late)
    (λ (none : x.out ≤ y.out). elim (h.waits none).0 [
      | inl same ↦ counted q p.timer y.out since now same was.begun late
      | inr anew ↦ begun q y.out now anew.0
    ])
    (cases_lt y.out x.out) in
    record { timed = h.timed; begun = both.0; some = both.1 }

pub stays_waiting : StaysWaiting
stays_waiting =
    record {
      made = record { timed = (omega arith, omega arith); begun = λ t is. absurd (cc is); some = λ more. absurd (omega (arith, more)) };
      plans = λ old new out since now t was late. waiting_plan old new out since now t was late;
      hears = λ old new x y joined since now h was late. waiting_told x y joined old new since now h was late;
      gives = λ old what out more since now was late. waiting_given old what out more since now was late;
    }

-- ---- a round

set_out : (a a1 : LinkView) (p p1 : PacerView) (now : ℕ) → Plans a p now a1 p1 → a1.out ≡ a.out
set_out a a1 p p1 now plan = ap (λ (l : LinkView). l.out) (plan.sets ∙ set_is (plan_of p1).window (plan_of p1).again a)

rested_out : (laws : PacingLaws) (a a' : LinkView) (now : ℕ) → poll_link a now ≡ (None, a') → a'.out ≡ a.out
rested_out laws a a' now is =
    let numbers : numbers_of a' ≡ numbers_of a = subst (λ (z : Option OutgoingView × LinkView). numbers_of z.1 ≡ numbers_after_poll z.0 (numbers_of a)) is (laws.polled a now) in
    ap (λ (n : Numbers). n.out) numbers

as_out : (out out' : ℕ) (p : PacerView) (now : ℕ) → out' ≡ out → IsWaiting out p now → IsWaiting out' p now
as_out out out' p now same was = subst (λ n. IsWaiting n p now) (sym same) was

conveyed : (laws : PacingLaws) (a b a' b' : LinkView) (p p' : PacerView) (since now : ℕ) → PacedConveys a p b now a' p' b' → IsWaiting a.out p since → since ≤ now → IsWaiting a'.out p' now
conveyed laws a b a' b' p p' since now (loses {a1 = a1} plan gone) was late =
    as_out a.out a1.out p' now (set_out a a1 p p' now plan) (waiting_plan p p' a.out since now plan.tends was late)
conveyed laws a b a' b' p p' since now (rests {a1 = a1} plan on is) was late =
    as_out a.out a'.out p' now (rested_out laws a1 a' now is ∙ set_out a a1 p p' now plan) (waiting_plan p p' a.out since now plan.tends was late)
conveyed laws a b a' b' p p' since now (gives {a2 = a2} {b1 = b1} {p1 = p1} o r plan on is read rest) was late =
    let planned : IsWaiting a.out p1 now = waiting_plan p p1 a.out since now plan.tends was late in
    conveyed laws a2 b1 a' b' (given_by (with_outstanding p1 a2.out now) (gave_of o.what o.header.stream) now) p' now now rest
    (waiting_given p1 (gave_of o.what o.header.stream) a.out a2.out now now planned (omega arith)) (omega arith)

read_one : (laws : PacingLaws) (a a1 : LinkView) (p p1 : PacerView) (o : OutgoingView) (r : Received) (now : ℕ) → receive_link a o.header o.body ≡ (r, a1) → IsTold r p a a1 now p1 → IsWaiting a.out p now → IsWaiting a1.out p1 now
read_one laws a a1 p p1 o r now is told was =
    let count : ℕ = length (newly_held a o.header o.body) in
    let numbers : numbers_of a1 ≡ numbers_after_received r count o.header (numbers_of a) = subst (λ (z : Received × LinkView). numbers_of z.1 ≡ numbers_after_received z.0 count o.header (numbers_of a)) is (laws.numbers a o.header o.body) in
    elim (is_stranger r) [
      | inl other ↦
          let same : a1.out ≡ a.out = ap (λ (n : Numbers). n.out) numbers ∙ same_out r count o.header (numbers_of a) other in
          subst (λ q. IsWaiting a1.out q now) (sym (told.other other)) (as_out a.out a1.out p now same was)
      | inr read ↦ let t = told.read read in waiting_told (numbers_of a) (numbers_of a1) t.0 p p1 now now t.2 was (omega arith)
    ]

read_all : (laws : PacingLaws) (b a b' a' : LinkView) (p p' : PacerView) (now : ℕ) → PacedReads b a p now b' a' p' → IsWaiting a.out p now → IsWaiting a'.out p' now
read_all laws b a b' a' p p' now (silent is) was = was
read_all laws b a b' a' p p' now (hears {b1 = b1} {a1 = a1} {p1 = p1} o r is read told rest) was =
    read_all laws b1 a1 b' a' p1 p' now rest (read_one laws a a1 p p1 o r now read told was)

rounded : (laws : PacingLaws) (a b a' b' : LinkView) (p p' : PacerView) (us vs : List Unit) (since now : ℕ) → PacedRound a p b now a' p' b' us vs → IsWaiting a.out p since → since ≤ now → IsWaiting a'.out p' now
rounded laws a b a' b' p p' us vs since now round was late =
    let there = conveyed laws a b round.told round.heard p round.planned since now round.there was late in
    let back = read_all laws round.answered round.told b' round.second round.planned p' now round.back there in
    as_out round.second.out a'.out p' now (took_all round.second a' vs round.taken_back).out back

-- ---- when a round begins

first_plan : (a b a' b' : LinkView) (p p' : PacerView) (now : ℕ) → PacedConveys a p b now a' p' b' → (q : PacerView) × Tends p a.out now q
first_plan a b a' b' p p' now (loses {p1 = p1} plan gone) = (p1, plan.tends)
first_plan a b a' b' p p' now (rests {p1 = p1} plan on is) = (p1, plan.tends)
first_plan a b a' b' p p' now (gives {p1 = p1} o r plan on is read rest) = (p1, plan.tends)

some_there : (o : Option ℕ) → is_some o ≡ true → (t : ℕ) × (o ≡ Some t)
some_there None is = absurd (cc is)
some_there (Some t) is = (t, refl)

waited_same : (timer : Option ℕ) (out now since : ℕ) → timer ≡ Some since → 0 < out → waited_since timer out now ≡ Some since
waited_same timer out now since is some = rw (lt-ltb 0 out some) (ap (λ (t : Option ℕ). Some (unwrap_or t now)) is)

is_past : (timer : Option ℕ) (since wait now : ℕ) → timer ≡ Some since → since + wait ≤ now → is_over (option_map (λ s. saturating_sum s wait) timer) now ≡ true
is_past timer since wait now is past = rw is (le-leb (saturating_sum since wait) now (omega (arith, past)))

ripe_at : (laws : PacingLaws) (a : LinkView) (p q : PacerView) (since now : ℕ) → Tends p a.out now q → IsWaiting a.out p since → since + 60000 ≤ now → now < 2 ^ 64 - 1 → IsRipe a p now
ripe_at laws a p q since now t was late shown =
    record {
      waited = λ some.
          let w = with_outstanding p a.out now in
          let at = some_there p.timer (was.some some) in
          let wait = (laws.waits p q a.out now t).1 in
          is_past w.timer at.0 (wait_of w) now (waited_same p.timer a.out now at.0 at.1 some) (omega (arith, was.begun at.0 at.1, wait, late));
      shown = shown;
    }

ripe_all : (laws : PacingLaws) (a b a' b' : LinkView) (p p' : PacerView) (moments : List ℕ) (us vs : List Unit) (turns : PacedTurns a p b moments a' p' b' us vs) (since : ℕ) → IsWaiting a.out p since → RiseByMinutes since moments → AreRipe turns
ripe_all laws a b a' b' p p' moments us vs over since was rise = tt
ripe_all laws a b a' b' p p' moments us vs (after {a1 = a1} {b1 = b1} {p1 = p1} {now = now} {moments = more} {ub = ub} {ua = ua} {units_b = ub'} {units_a = ua'} round rest) since was rise =
    let plan = first_plan a b round.told round.heard p round.planned now round.there in (
      ripe_at laws a p plan.0 since now plan.1 was rise.0 rise.1,
      ripe_all laws a1 b1 a' b' p1 p' more ub' ua' rest now (rounded laws a b a1 b1 p p1 ub ua since now round was (omega (arith, rise.0))) rise.2,
    )

rise_on : (since : ℕ) (moments : List ℕ) → RiseByMinutes since moments → Rise since moments
rise_on since [] rise = tt
rise_on since (now ∷ moments) rise = (omega (arith, rise.0), rise_on now moments rise.2)

pub are_ripe : (laws : PacingLaws) → MinutesAreRipe
are_ripe laws a b a' b' p p' moments us vs m =
    record {
      since = m.since;
      first = m.first;
      planned = m.planned;
      second = m.second;
      rise = rise_on m.since moments m.rise;
      turns = m.turns;
      ripe = ripe_all laws a b a' b' p p' moments us vs m.turns m.since m.waiting m.rise;
    }
