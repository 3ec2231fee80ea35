-- A pacer can be told of whatever packet its link reads.
use Rattle.std.proofs.Common.{ℕ, ◌-◌, ◌*◌, ◌<◌, ◌≤◌, ◌≡◌, ◌⊎◌, ◌&&◌, ◌||◌, ◌==◌, ◌∙◌, ◌↔◌, Bool, true, false, Option, None, Some, is_some, min, nat_le, nat_lt, refl, sym, ap, inl, inr, ⊎_elim, arith, if◌then◌else◌}
use Rattle.std.proofs.lemmas.Bool.{and_parts, cases_Bool, cases_lt, cond-false, cond-true, le-ltb, leb-true, lt-ltb}
use Rattle.std.specs.Prelude.{IsTrue}
use Rattle.spx_link.specs.declared.numbers.Numbers.{Numbers}
use Rattle.spx_link.specs.declared.received.Received.{Received}
use Rattle.spx_link.specs.declared.received.Received.TheVariants as R
use Rattle.spx_link.specs.LinkView.{LinkView, numbers_of}
use Rattle.spx_congestion.specs.Asking.{Asked, AsksUpTo, RunsOn, first_new, is_idle}
use Rattle.spx_congestion.specs.Hearing.{Hears, asked_of, measured, moved_on, sample_from, stop_of}
use Rattle.spx_congestion.specs.Measured.{IsBounded, TripView, answered_since, heard_trip, sampled_since, wait_within}
use Rattle.spx_congestion.specs.Pacing.{PacerView, is_double, with_outstanding}
use Rattle.theory_processes.specs.PacedExist.{IsUsable}
use Rattle.theory_processes.specs.PacedRounds.{IsTold}
use Rattle.theory_processes.proofs.Told.{is_stranger}
use Rattle.theory_processes.proofs.Existing.{option_cases}

-- ---- what is measured keeps the timeout within its bounds

within : (n : ℕ) → (200 ≤ wait_within n) × (wait_within n ≤ 60000)
within n = (omega arith, omega arith)

bounded_answered : (at : Option ℕ) (t : TripView) (now : ℕ) → IsBounded t → IsBounded (answered_since at t now)
bounded_answered None t now bounded = bounded
bounded_answered (Some at) t now bounded = within _

bounded_heard : (joined : Bool) (t : TripView) (now : ℕ) → IsBounded t → IsBounded (heard_trip joined t now)
bounded_heard true t now bounded = bounded_answered t.asked_at t now bounded
bounded_heard false t now bounded = bounded

bounded_sampled : (at : Option ℕ) (t : TripView) (now : ℕ) → IsBounded t → IsBounded (sampled_since at t now)
bounded_sampled None t now bounded = bounded
bounded_sampled (Some at) t now bounded = within _

doubled_answered : (at : Option ℕ) (t : TripView) (now : ℕ) → (answered_since at t now).doubled ≡ t.doubled
doubled_answered None t now = refl
doubled_answered (Some at) t now = refl

doubled_heard : (joined : Bool) (t : TripView) (now : ℕ) → (heard_trip joined t now).doubled ≡ t.doubled
doubled_heard true t now = doubled_answered t.asked_at t now
doubled_heard false t now = refl

abbrev acked_trip : PacerView → ℕ → Bool → ℕ → TripView
acked_trip p units joined now = measured p units (heard_trip joined p.trip now) now

bounded_acked : (p : PacerView) (units : ℕ) (joined : Bool) (now : ℕ) → IsBounded p.trip → IsBounded (acked_trip p units joined now)
bounded_acked p units joined now bounded =
    bounded_sampled (sample_from p units) (heard_trip joined p.trip now) now (bounded_heard joined p.trip now bounded)

-- ---- a packet that acknowledges nothing

-- a packet that acknowledges something is no duplicate
not_double : (x y : Numbers) → y.out < x.out → is_double x y ≡ true → ⊥
not_double x y acked is =
    let three = (and_parts (nat_le x.out y.out && nat_lt 0 y.out && nat_le y.room x.room) (x.expected == y.expected) is).0 in
    let two = (and_parts (nat_le x.out y.out && nat_lt 0 y.out) (nat_le y.room x.room) three).0 in
    let more : x.out ≤ y.out = leb-true x.out y.out (and_parts (nat_le x.out y.out) (nat_lt 0 y.out) two).0 in
    omega (arith, acked, more)

record Heard (p : PacerView) (x y : Numbers) (joined : Bool) (now : ℕ) : Type 0 where
  pacer : PacerView
  usable : IsUsable pacer
  hears : Hears p x y joined now pacer

heard_other : (p : PacerView) (x y : Numbers) (joined : Bool) (now : ℕ) → IsUsable p → x.out ≤ y.out → Heard p x y joined now
heard_other p x y joined now u none =
    record {
      pacer = record (with_outstanding p y.out now) { trip = heard_trip joined p.trip now };
      usable = record { timed = bounded_heard joined p.trip now u.timed; repairs = u.repairs };
      hears = record {
        counts = refl;
        moves = λ acked. absurd (omega (arith, acked, none));
        acknowledged = λ acked. absurd (omega (arith, acked, none));
        repeated = λ e. inl (record { one = inl (refl, refl); counts = inl refl; is = refl });
        waits = λ e. (inl refl, doubled_heard joined p.trip now);
        still = λ e f. refl;
        timed = bounded_heard joined p.trip now u.timed;
        answers = λ e. refl;
        measures = λ acked. absurd (omega (arith, acked, none));
        counted = λ e f. refl;
        mends = λ m. inr (m, refl, omega arith);
        ended = refl;
        base = λ acked. absurd (omega (arith, acked, none));
        unmoved = λ e. refl;
        credit = (refl, refl);
      };
    }

never_mends : (p : PacerView) → IsUsable p → p.recover ≡ None → p.mends ≡ false
never_mends p u none =
    elim (cases_Bool p.mends) [
      | inl mends ↦ let some : is_some {T = ℕ} None ≡ true = ap (λ (o : Option ℕ). is_some o) (sym none) ∙ u.repairs mends in absurd (cc some)
      | inr not_so ↦ not_so
    ]

-- no repair is on
heard_plain : (p : PacerView) (x y : Numbers) (joined : Bool) (now : ℕ) → IsUsable p → y.out < x.out → p.recover ≡ None → Heard p x y joined now
heard_plain p x y joined now u acked none =
    let m : PacerView = moved_on p (x.out - y.out) y.out now in
    let quiet : p.mends ≡ false = never_mends p u none in
    record {
      pacer = record m { trip = acked_trip p (x.out - y.out) joined now };
      usable = record { timed = bounded_acked p (x.out - y.out) joined now u.timed; repairs = u.repairs };
      hears = record {
        counts = refl;
        moves = λ e. inl ((none, quiet), refl);
        acknowledged = λ e. (refl, refl);
        repeated = λ e. absurd (not_double x y acked e);
        waits = λ e. absurd (omega (arith, acked, e));
        still = λ e f. absurd (omega (arith, acked, e));
        timed = bounded_acked p (x.out - y.out) joined now u.timed;
        answers = λ e. absurd (omega (arith, acked, e));
        measures = λ e. refl;
        counted = λ e f. absurd (omega (arith, acked, e));
        mends = λ is. absurd (cc (sym is ∙ quiet));
        ended = refl;
        base = λ e. refl;
        unmoved = λ e. absurd (omega (arith, acked, e));
        credit = (refl, refl);
      };
    }

-- a repair is over
heard_last : (p : PacerView) (x y : Numbers) (joined : Bool) (now end : ℕ) → IsUsable p → y.out < x.out → p.recover ≡ Some end → end ≤ (moved_on p (x.out - y.out) y.out now).base → Heard p x y joined now
heard_last p x y joined now end u acked some done =
    let m : PacerView = moved_on p (x.out - y.out) y.out now in
    record {
      pacer = record m {
        left = 0;
        in_flight = 0;
        from = 0;
        to = 0;
        trip = acked_trip p (x.out - y.out) joined now;
        recover = None;
        run = 1;
        fixed = 0;
        mends = false;
        fixed_at = 0;
        tries = 0;
      };
      usable = record { timed = bounded_acked p (x.out - y.out) joined now u.timed; repairs = λ is. absurd (cc is) };
      hears = record {
        counts = refl;
        moves = λ e. inr (end, some, inr (inl (done, record { is = refl })));
        acknowledged = λ e. (refl, refl);
        repeated = λ e. absurd (not_double x y acked e);
        waits = λ e. absurd (omega (arith, acked, e));
        still = λ e f. absurd (omega (arith, acked, e));
        timed = bounded_acked p (x.out - y.out) joined now u.timed;
        answers = λ e. absurd (omega (arith, acked, e));
        measures = λ e. refl;
        counted = λ e f. absurd (omega (arith, acked, e));
        mends = λ is. absurd (cc is);
        ended = refl;
        base = λ e. refl;
        unmoved = λ e. absurd (omega (arith, acked, e));
        credit = (refl, refl);
      };
    }

run_on : Bool → ℕ → ℕ
run_on true run = run
run_on false run = min (run * 2) 64

runs : (mends : Bool) (wanted missing run : ℕ) → RunsOn mends wanted missing run (run_on mends run)
unfolding run_on
runs true wanted missing run = inl refl
runs false wanted missing run = refl

abbrev asked_on : ℕ → ℕ → ℕ → Asked → Asked
asked_on base stop now old =
    record {
      from = if is_idle base old.from old.to then first_new base old else old.from;
      to = if nat_lt (first_new base old) stop then stop else (if is_idle base old.from old.to then first_new base old else old.to);
      fixed = if nat_lt (first_new base old) stop then stop else old.fixed;
      fixed_at = if is_idle base old.from old.to || (nat_lt base stop && (first_new base old == base)) then now else old.fixed_at;
    }

asks_on : (base stop now : ℕ) (old : Asked) → AsksUpTo base stop now old (asked_on base stop now old)
asks_on base stop now old =
    record {
      from = refl;
      more = λ less.
          let is : nat_lt (first_new base old) stop ≡ true = lt-ltb (first_new base old) stop less in
          (cond-true (nat_lt (first_new base old) stop) stop (if is_idle base old.from old.to then first_new base old else old.to) is, cond-true (nat_lt (first_new base old) stop) stop old.fixed is);
      none = λ most.
          let is : nat_lt (first_new base old) stop ≡ false = le-ltb (first_new base old) stop most in
          (cond-false (nat_lt (first_new base old) stop) stop (if is_idle base old.from old.to then first_new base old else old.to) is, cond-false (nat_lt (first_new base old) stop) stop old.fixed is);
      anew = refl;
    }

mends_if : (b : Bool) (mends : Bool) (at now tries : ℕ) → mends ≡ true → (((if b then now else at) ≡ now) × (◌≡◌ {A = ℕ} 0 0)) ⊎ ((mends ≡ true) × ((if b then now else at) ≡ at) × (0 ≤ tries))
mends_if true mends at now tries is = inl (refl, refl)
mends_if false mends at now tries is = inr (is, refl, omega arith)

-- a repair goes on
heard_on : (p : PacerView) (x y : Numbers) (joined : Bool) (now end : ℕ) → IsUsable p → y.out < x.out → p.recover ≡ Some end → (moved_on p (x.out - y.out) y.out now).base < end → Heard p x y joined now
heard_on p x y joined now end u acked some more =
    let m : PacerView = moved_on p (x.out - y.out) y.out now in
    let run : ℕ = run_on p.mends p.run in
    let asked : Asked = asked_on m.base (stop_of end run m) now (asked_of m) in
    record {
      pacer = record m {
        in_flight = m.in_flight - 1;
        from = asked.from;
        to = asked.to;
        trip = acked_trip p (x.out - y.out) joined now;
        run = run;
        fixed = asked.fixed;
        fixed_at = asked.fixed_at;
        tries = 0;
      };
      usable = record { timed = bounded_acked p (x.out - y.out) joined now u.timed; repairs = u.repairs };
      hears = record {
        counts = refl;
        moves = λ e. inr (end, some, inl (more, record { run = runs p.mends (end - m.base) ((end - m.base) - m.left) p.run; asks = asks_on m.base (stop_of end run m) now (asked_of m); is = refl }));
        acknowledged = λ e. (refl, refl);
        repeated = λ e. absurd (not_double x y acked e);
        waits = λ e. absurd (omega (arith, acked, e));
        still = λ e f. absurd (omega (arith, acked, e));
        timed = bounded_acked p (x.out - y.out) joined now u.timed;
        answers = λ e. absurd (omega (arith, acked, e));
        measures = λ e. refl;
        counted = λ e f. absurd (omega (arith, acked, e));
        mends = λ is. mends_if (is_idle m.base p.from p.to || (nat_lt m.base (stop_of end run m) && (first_new m.base (asked_of m) == m.base))) p.mends p.fixed_at now p.tries is;
        ended = refl;
        base = λ e. refl;
        unmoved = λ e. absurd (omega (arith, acked, e));
        credit = (refl, refl);
      };
    }

heard : (p : PacerView) (x y : Numbers) (joined : Bool) (now : ℕ) → IsUsable p → Heard p x y joined now
heard p x y joined now u =
    ⊎_elim
    (λ (acked : y.out < x.out).
    elim (option_cases p.recover) [
      | inl none ↦ heard_plain p x y joined now u acked none
      | inr some ↦
          ⊎_elim
          (λ (more : (moved_on p (x.out - y.out) y.out now).base < some.0). heard_on p x y joined now some.0 u acked some.1 more)
          (λ (done : some.0 ≤ (moved_on p (x.out - y.out) y.out now).base). heard_last p x y joined now some.0 u acked some.1 done)
          (cases_lt (moved_on p (x.out - y.out) y.out now).base some.0)
    ])
    (λ (none : x.out ≤ y.out). heard_other p x y joined now u none)
    (cases_lt y.out x.out)

joins : (r : Received) → (j : Bool) × (IsTrue j ↔ (r ≡ R.Joined))
joins R.Joined = (true, (λ e. refl, λ e. refl))
joins R.Kept = (false, (λ e. absurd (cc e), λ e. absurd (cc e)))
joins R.Repeat = (false, (λ e. absurd (cc e), λ e. absurd (cc e)))
joins R.Ahead = (false, (λ e. absurd (cc e), λ e. absurd (cc e)))
joins R.OverAllocation = (false, (λ e. absurd (cc e), λ e. absurd (cc e)))
joins R.System = (false, (λ e. absurd (cc e), λ e. absurd (cc e)))
joins R.PeerEnded = (false, (λ e. absurd (cc e), λ e. absurd (cc e)))
joins R.Confirmed = (false, (λ e. absurd (cc e), λ e. absurd (cc e)))
joins R.Stranger = (false, (λ e. absurd (cc e), λ e. absurd (cc e)))

pub record Listened (r : Received) (p : PacerView) (a a1 : LinkView) (now : ℕ) : Type 0 where
  pub pacer : PacerView
  pub usable : IsUsable pacer
  pub told : IsTold r p a a1 now pacer

pub listened : (r : Received) (p : PacerView) (a a1 : LinkView) (now : ℕ) → IsUsable p → Listened r p a a1 now
listened r p a a1 now u =
    elim (is_stranger r) [
      | inl other ↦ record { pacer = p; usable = u; told = record { read = λ no. absurd (no other); other = λ e. refl } }
      | inr read ↦
          let j = joins r in
          let h : Heard p (numbers_of a) (numbers_of a1) j.0 now = heard p (numbers_of a) (numbers_of a1) j.0 now u in
          record { pacer = h.pacer; usable = h.usable; told = record { read = λ no. (j.0, j.1, h.hears); other = λ e. absurd (read e) } }
    ]
