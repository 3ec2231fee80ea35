-- Whatever a sender has to give at a time, with a plan before each poll it gives only so much.
use Rattle.std.proofs.Common.{ℕ, zero, suc, ◌+◌, ◌-◌, ◌^◌, ◌<◌, ◌≤◌, ◌≡◌, ◌⊎◌, ◌&&◌, ◌||◌, ◌==◌, ◌∙◌, Bool, true, false, Option, None, Some, max, min, nat_le, refl, sym, ap, subst, inl, inr, arith, if◌then◌else◌}
use Rattle.std.proofs.lemmas.Bool.{cases_Bool, cond_both, le-ltb, ltb-true}
use Rattle.std.specs.Prelude.{⊤}
use Rattle.spx_link.specs.declared.outgoing.Sent.TheVariants as Sents
use Rattle.spx_link.specs.declared.state.State.{State}
use Rattle.spx_link.specs.declared.state.State.TheVariants as S
use Rattle.spx_link.specs.Limits.{most_sends}
use Rattle.spx_link.specs.LinkView.{LinkView, due, is_working}
use Rattle.spx_link.specs.Poll.{OutgoingView, lost, poll_at, poll_link, poll_reply, poll_request, requests, requests_or_lost}
use Rattle.spx_link.specs.Receive.{receive_link}
use Rattle.spx_congestion.specs.declared.sent_kind.SentKind.{SentKind}
use Rattle.spx_congestion.specs.declared.sent_kind.SentKind.TheVariants as Gaves
use Rattle.spx_congestion.specs.Giving.{gave_of}
use Rattle.spx_congestion.specs.Pacing.{PacerView, Tends, given_by, grown_credit, has_credit, has_given_up, is_over, missing_at, plan_of, rate_of, saturating_sum, tended, waits_till, with_outstanding}
use Rattle.spx_theory.proofs.Ending.{left, polls_fewer}
use Rattle.spx_theory.proofs.PollCases.{reply_by}
use Rattle.theory_processes.specs.PacedExist.{IsUsable}
use Rattle.theory_processes.specs.PacedRounds.{PacedConveys, Plans, noted, set_by, loses, rests, gives}
use Rattle.theory_processes.proofs.Unpacing.{paced, set_is}
use Rattle.theory_processes.proofs.PacerPlanning.{given_tick}

-- ---- a plan

abbrev made_plan : PacerView → ℕ → ℕ → PacerView
made_plan p out now =
    let w = tended (with_outstanding p out now) now in
    record w { window = 1024; credit = grown_credit (rate_of true 1024 w.trip.smoothed) p now; tick = max p.tick now }

usable_if : (b c : Bool) (x y q : PacerView) → IsUsable x → IsUsable y → IsUsable q → IsUsable (if b then x else (if c then y else q))
usable_if true c x y q one two three = one
usable_if false true x y q one two three = two
usable_if false false x y q one two three = three

pub usable_tended : (w : PacerView) (now : ℕ) → IsUsable w → IsUsable (tended w now)
usable_tended w now u =
    usable_if (is_over (waits_till w) now) (is_over (missing_at w) now)
    (record w { left = w.out; in_flight = 0; from = w.base; to = saturating_sum w.base 1; trip = record w.trip { doubled = min (w.trip.doubled + 1) (2 ^ 32 - 1) }; timer = Some now; recover = Some (saturating_sum w.base w.out); run = 1; fixed = saturating_sum w.base 1; mends = false; fixed_at = now; tries = 0 })
    (record w { from = w.base; to = saturating_sum w.base 1; tries = min (w.tries + 1) (2 ^ 32 - 1) }) w
    (record { timed = u.timed; repairs = λ is. absurd (cc is) }) (record { timed = u.timed; repairs = u.repairs }) u

pub usable_counted : (p : PacerView) (out now : ℕ) → IsUsable p → IsUsable (with_outstanding p out now)
usable_counted p out now u = record { timed = u.timed; repairs = u.repairs }

usable_plan : (p : PacerView) (out now : ℕ) → IsUsable p → IsUsable (made_plan p out now)
usable_plan p out now u =
    let w : IsUsable (tended (with_outstanding p out now) now) = usable_tended (with_outstanding p out now) now (usable_counted p out now u) in
    record { timed = w.timed; repairs = w.repairs }

plan_tends : (p : PacerView) (out now : ℕ) → IsUsable p → Tends p out now (made_plan p out now)
plan_tends p out now u =
    record {
      due = refl;
      grows = record { starting = true; credit = refl; tick = refl };
      wide = (omega arith, omega arith);
      timed = (usable_plan p out now u).timed;
    }

-- no credit grows twice at one time
same_credit : (p : PacerView) (out now : ℕ) → now ≤ p.tick → (made_plan p out now).credit ≡ p.credit
same_credit p out now done = rw (le-ltb p.tick now done) refl

-- ---- a packet that was given

pub usable_given : (p : PacerView) (what : SentKind) (now : ℕ) → IsUsable p → IsUsable (given_by p what now)
usable_given p Gaves.Request now u = record { timed = u.timed; repairs = u.repairs }
usable_given p Gaves.Unit now u = record { timed = u.timed; repairs = u.repairs }
usable_given p Gaves.End now u = record { timed = u.timed; repairs = u.repairs }
usable_given p Gaves.Again now u = record { timed = u.timed; repairs = u.repairs }
usable_given p Gaves.Other now u = u

less_credit : (p : PacerView) (what : SentKind) (now : ℕ) → (given_by p what now).credit ≤ p.credit
less_credit p Gaves.Request now = omega arith
less_credit p Gaves.Unit now = omega arith
less_credit p Gaves.End now = omega arith
less_credit p Gaves.Again now = omega arith
less_credit p Gaves.Other now = omega arith

-- ---- what is left to give, without the place that was asked for

abbrev left_of : LinkView → ℕ → ℕ
left_of l now = left (record l { again = None }) now

abbrev Keeps : LinkView → Option OutgoingView → LinkView → Type 0
Keeps l None m = ⊤
Keeps l (Some g) m = (m.again ≡ l.again) ⊎ (g.what ≡ Sents.Again)

abbrev KeepsBy : LinkView → Option OutgoingView × LinkView → Type 0
KeepsBy l r = Keeps l r.0 r.1

keeps_joined : (l : LinkView) (now : ℕ) → KeepsBy l (poll_reply l now)
keeps_joined l now =
    reply_by l now (KeepsBy l) (record {
      replied = λ e. inl refl;
      confirmed = λ e. inl refl;
      sent = λ q may is. inl refl;
      again = λ k q late' is few. inr refl;
      gave_up = λ k q late' is many. tt;
      nowhere = λ k late' is. tt;
      acked = λ e. inl refl;
      probed = λ may few. inl refl;
      gave_up_probing = λ may many. tt;
      rests = λ r. tt;
    })

keeps_request : (l : LinkView) (now : ℕ) → KeepsBy l (poll_request l now)
keeps_request l now =
    cond_both {A = Option OutgoingView × LinkView} ((l.asked_count == 0) || due l.asked_at now) (requests_or_lost l now) (None, l) (KeepsBy l)
    (λ yes. cond_both {A = Option OutgoingView × LinkView} (nat_le most_sends l.asked_count) (None, lost l) (requests l now) (KeepsBy l) (λ ten. tt) (λ few. inl refl))
    (λ no. tt)

keeps_at : (st : State) (l : LinkView) (now : ℕ) → KeepsBy l (poll_at st l now)
keeps_at S.Opening l now = keeps_request l now
keeps_at S.Live l now = keeps_joined l now
keeps_at S.Ending l now = keeps_joined l now
keeps_at S.PeerEnded l now = keeps_joined l now
keeps_at S.Confirmed l now = keeps_joined l now
keeps_at S.Lost l now = tt

again_free : (l m : LinkView) (now : ℕ) (g : OutgoingView) → poll_link l now ≡ (Some g, m) → (m.again ≡ l.again) ⊎ (g.what ≡ Sents.Again)
again_free l m now g is = subst (KeepsBy l) is (keeps_at l.state l now)

-- how much more is left with a place that was asked for
left_by : (l : LinkView) (now : ℕ) (o : Option ℕ) → l.again ≡ o → left l now ≡ left (record l { again = o }) now
left_by l now o is = ap (λ x. left (record l { again = x }) now) is

left_some : (l : LinkView) (now k : ℕ) → l.again ≡ Some k → left l now ≡ left_of l now + 1
left_some l now k is = omega (arith, left_by l now (Some k) is)

left_none : (l : LinkView) (now : ℕ) → l.again ≡ None → left l now ≡ left_of l now
left_none l now is = left_by l now None is

pub option_cases : (o : Option ℕ) → (o ≡ None) ⊎ ((k : ℕ) × (o ≡ Some k))
option_cases None = inl refl
option_cases (Some k) = inr (k, refl)

least_left : (l : LinkView) (now : ℕ) → left_of l now ≤ left l now
least_left l now =
    elim (option_cases l.again) [
      | inl none ↦ omega (arith, left_none l now none)
      | inr some ↦ omega (arith, left_some l now some.0 some.1)
    ]

-- a plan asks for a unit again only with credit
asks_credit : (q : PacerView) (k : ℕ) → (plan_of q).again ≡ Some k → 256 ≤ q.credit
asks_credit q k is =
    elim (cases_Bool (has_credit q)) [
      | inl has ↦ let more : 255 < q.credit = ltb-true 255 q.credit has in omega (arith, more)
      | inr none ↦ let asked : (plan_of q).again ≡ None = rw none refl in absurd (cc (sym asked ∙ is))
    ]

again_cost : (q : PacerView) (what : _) (stream now out : ℕ) → what ≡ Sents.Again → (given_by (with_outstanding q out now) (gave_of what stream) now).credit ≡ q.credit - 256
again_cost q what stream now out is = rw is refl

-- what a sender has to give shrinks with each packet
shrinks : (a a1 a2 : LinkView) (q : PacerView) (now : ℕ) (g : OutgoingView) → a1 ≡ paced (plan_of q).window (plan_of q).again a → poll_link a1 now ≡ (Some g, a2)
    → left_of a2 now + (noted q a2 g now).credit < left_of a now + q.credit
shrinks a a1 a2 q now g set is =
    let less : left a2 now < left a1 now = polls_fewer a1 now g a2 is in
    let same : left_of a1 now ≡ left_of a now = ap (λ (l : LinkView). left_of l now) set in
    let credit : (noted q a2 g now).credit ≤ q.credit = less_credit (with_outstanding q a2.out now) (gave_of g.what g.header.stream) now in
    let again : a1.again ≡ (plan_of q).again = ap (λ (l : LinkView). l.again) set in
    elim (option_cases (plan_of q).again) [
      | inl none ↦
          let before : left a1 now ≡ left_of a1 now = left_none a1 now (again ∙ none) in
          omega (arith, less, same, credit, before, least_left a2 now)
      | inr some ↦
          let before : left a1 now ≡ left_of a1 now + 1 = left_some a1 now some.0 (again ∙ some.1) in
          elim (again_free a1 a2 now g is) [
            | inl kept ↦
                let rest : left a2 now ≡ left_of a2 now + 1 = left_some a2 now some.0 (kept ∙ (again ∙ some.1)) in
                omega (arith, less, same, credit, before, rest)
            | inr gone ↦
                let cost : (noted q a2 g now).credit ≡ q.credit - 256 = again_cost q g.what g.header.stream now a2.out gone in
                let has : 256 ≤ q.credit = asks_credit q some.0 some.1 in
                omega (arith, less, same, before, cost, has, least_left a2 now)
          ]
    ]

-- ---- everything that a sender gives

pub record Conveyed (a : LinkView) (p : PacerView) (b : LinkView) (now : ℕ) : Type 0 where
  pub told : LinkView
  pub planned : PacerView
  pub heard : LinkView
  pub usable : IsUsable planned
  pub all : PacedConveys a p b now told planned heard

planned_by : (a : LinkView) (p : PacerView) (now : ℕ) → IsUsable p → Plans a p now (set_by (plan_of (made_plan p a.out now)).window (plan_of (made_plan p a.out now)).again a) (made_plan p a.out now)
planned_by a p now u = record { tends = plan_tends p a.out now u; sets = refl }

conveyed_at : (n : ℕ) (a b a1 m : LinkView) (p q : PacerView) (now : ℕ) (o : Option OutgoingView) → Plans a p now a1 q → IsUsable q → now ≤ q.tick → poll_link a1 now ≡ (o, m) → left_of a now + q.credit ≤ n → Conveyed a p b now
conveyed_at n a b a1 m p q now None plan u done is few =
    elim (cases_Bool (is_working a1.state && has_given_up q)) [
      | inl gone ↦ record { told = _; planned = q; heard = b; usable = u; all = loses plan gone }
      | inr on ↦ record { told = m; planned = q; heard = b; usable = u; all = rests plan on is }
    ]
conveyed_at zero a b a1 m p q now (Some o) plan u done is few =
    absurd (omega (arith, few, shrinks a a1 m q now o (plan.sets ∙ set_is (plan_of q).window (plan_of q).again a) is))
conveyed_at (suc n) a b a1 m p q now (Some o) plan u done is few =
    elim (cases_Bool (is_working a1.state && has_given_up q)) [
      | inl gone ↦ record { told = _; planned = q; heard = b; usable = u; all = loses plan gone }
      | inr on ↦
          let next : PacerView = noted q m o now in
          let used : IsUsable next = usable_given (with_outstanding q m.out now) (gave_of o.what o.header.stream) now (usable_counted q m.out now u) in
          let later : PacerView = made_plan next m.out now in
          let tick : next.tick ≡ q.tick = given_tick (with_outstanding q m.out now) (gave_of o.what o.header.stream) now in
          let credit : later.credit ≡ next.credit = same_credit next m.out now (omega (arith, done, tick)) in
          let r = receive_link b o.header o.body in
          let l : LinkView = set_by (plan_of later).window (plan_of later).again m in
          let rest : Conveyed m next r.1 now =
          conveyed_at n m r.1 l (poll_link l now).1 next later now (poll_link l now).0 (planned_by m next now used) (usable_plan next m.out now used) (omega arith) refl
          (omega (arith, few, credit, shrinks a a1 m q now o (plan.sets ∙ set_is (plan_of q).window (plan_of q).again a) is)) in
          record { told = rest.told; planned = rest.planned; heard = rest.heard; usable = rest.usable; all = gives o r.0 plan on is refl rest.all }
    ]

pub conveyed : (a : LinkView) (p : PacerView) (b : LinkView) (now : ℕ) → IsUsable p → Conveyed a p b now
conveyed a p b now u =
    let q : PacerView = made_plan p a.out now in
    let l : LinkView = set_by (plan_of q).window (plan_of q).again a in
    conveyed_at (left_of a now + q.credit) a b l (poll_link l now).1 p q now (poll_link l now).0 (planned_by a p now u) (usable_plan p a.out now u) (omega arith) refl (omega arith)
