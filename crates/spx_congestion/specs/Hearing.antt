-- What one packet that its link read changes about a pacer (defined by this project).
use Rattle.std.specs.Prelude.{ℕ, ◌+◌, ◌-◌, ◌^◌, ◌≡◌, ◌<◌, ◌≤◌, ◌⊎◌, ◌||◌, if◌then◌else◌, Bool, IsTrue, Option, None, Some, false, is_some, min, nat_lt, true}
use Rattle.spx_link.specs.declared.numbers.Numbers.{Numbers}
use Rattle.spx_congestion.specs.Asking.{Asked, AsksUpTo, RunsOn}
use Rattle.spx_congestion.specs.Measured.{IsBounded, TripView, heard_trip, sampled_since}
use Rattle.spx_congestion.specs.Pacing.{MendsOn, PacerView, WaitsOn, saturating_sum, flight, is_double, waited_since, with_outstanding}
use Rattle.spx_congestion.specs.SendTimes.{time_at}

-- so many units were acknowledged, and so many are outstanding after that. The first of them was missing, and
-- the others were received. The timeout begins anew, and no duplicate came since
abbrev pub moved_on : PacerView → ℕ → ℕ → ℕ → PacerView
moved_on p units out now =
    with_outstanding (record p {
      base = saturating_sum p.base units;
      left = p.left - (units - 1);
      timer = None;
      duplicates = 0;
    }) out now

-- a repair begins: the first outstanding unit is to be sent again, and none that was sent again is in flight
pub record BeginsRepair (old : PacerView) (now : ℕ) (new : PacerView) : Type 0 where
  pub is : new ≡ record old {
    in_flight = 0;
    from = old.base;
    to = saturating_sum old.base 1;
    window = new.window;
    trip = new.trip;
    recover = Some (saturating_sum old.base old.out);
    run = 1;
    fixed = saturating_sum old.base 1;
    mends = true;
    fixed_at = now;
    tries = 0;
  }

-- a repair ends: nothing is to be sent again, and of what is outstanding nothing was received
pub record EndsRepair (old new : PacerView) : Type 0 where
  pub is : new ≡ record old {
    left = 0;
    in_flight = 0;
    from = 0;
    to = 0;
    window = new.window;
    trip = new.trip;
    recover = None;
    run = 1;
    fixed = 0;
    mends = false;
    fixed_at = 0;
    tries = 0;
  }

-- how many units there are from the first outstanding one up to the end of a repair
abbrev pub wanted : ℕ → PacerView → ℕ
wanted end p = end - p.base

-- up to where a repair may send units again, if it may send so many
abbrev pub stop_of : ℕ → ℕ → PacerView → ℕ
stop_of end run p = min (saturating_sum p.base run) end

-- what a repair is to send again
abbrev pub asked_of : PacerView → Asked
asked_of p = record { from = p.from; to = p.to; fixed = p.fixed; fixed_at = p.fixed_at }

-- a repair that lasts up to `end` goes on: one unit that was sent again is no longer in flight, and as many as may be
-- are to be sent again
pub record GoesOnRepairing (end : ℕ) (old : PacerView) (now : ℕ) (new : PacerView) : Type 0 where
  pub run : RunsOn old.mends (wanted end old) (wanted end old - old.left) old.run new.run
  pub asks : AsksUpTo old.base (stop_of end new.run old) now (asked_of old) (asked_of new)
  pub is : new ≡ record old {
    in_flight = old.in_flight - 1;
    from = new.from;
    to = new.to;
    window = new.window;
    trip = new.trip;
    run = new.run;
    fixed = new.fixed;
    fixed_at = new.fixed_at;
    tries = 0;
  }

-- a repair goes on until everything up to its end is acknowledged. Then it ends, or the next one begins. That
-- begins only if duplicates reported what was missing, and three units after the first outstanding one were received
abbrev pub Repairs : ℕ → PacerView → ℕ → PacerView → Type 0
Repairs end old now new = ((old.base < end) × GoesOnRepairing end old now new)
    ⊎ ((end ≤ old.base) × EndsRepair old new)
    ⊎ ((end ≤ old.base) × IsTrue old.mends × (3 ≤ old.left) × BeginsRepair old now new)

-- nothing changes but the window and what is measured
abbrev pub OnlyMeasures : PacerView → PacerView → Type 0
OnlyMeasures old new = new ≡ record old { window = new.window; trip = new.trip }

-- nothing is repaired
abbrev pub RepairsNothing : PacerView → Type 0
RepairsNothing p = (p.recover ≡ None) × (p.mends ≡ false)

-- a packet acknowledged so many units, once, and so many are outstanding after it. A repair that is on goes on or
-- ends. If nothing is repaired, nothing else changes, and no repair begins
abbrev pub Acknowledges : PacerView → ℕ → ℕ → ℕ → PacerView → Type 0
Acknowledges old units out now new =
    (RepairsNothing old × OnlyMeasures (moved_on old units out now) new)
    ⊎ ((end : ℕ) × (old.recover ≡ Some end) × Repairs end (moved_on old units out now) now new)

-- the position of the last of so many outstanding units
abbrev pub last_of : PacerView → ℕ → ℕ
last_of p units = saturating_sum p.base (units - 1)

-- when the last of the units that are acknowledged was sent, if it was sent once (Karn's rule). It gives no sample after
-- a duplicate, or while something is repaired
abbrev pub sample_from : PacerView → ℕ → Option ℕ
sample_from p units =
    if nat_lt 0 p.duplicates || is_some p.recover then None else time_at p.sent (last_of p units)

-- what an acknowledgement of so many units leaves of what was measured: with the sample that it gives. The timeout is no
-- longer doubled
abbrev pub measured : PacerView → ℕ → TripView → ℕ → TripView
measured p units trip now = record (sampled_since (sample_from p units) trip now) { doubled = 0 }

-- at most one unit more was received, or at most one that was sent again is no longer in flight
abbrev pub TakesOne : PacerView → PacerView → Type 0
TakesOne old new = ((new.left ≡ old.left) × (new.in_flight ≡ old.in_flight))
    ⊎ ((new.left ≡ old.left + 1) × (new.in_flight ≡ old.in_flight))
    ⊎ ((new.left ≡ old.left) × (new.in_flight + 1 ≡ old.in_flight))

-- a duplicate is counted
abbrev pub counts_one : ℕ → ℕ
counts_one duplicates = min (duplicates + 1) (2 ^ 16 - 1)

-- a duplicate takes at most one unit out of flight, and changes nothing else but the window, what is measured,
-- and since when the pacer waits. It is counted, or changes only what is measured
pub record TakesOneOut (old new : PacerView) : Type 0 where
  pub one : TakesOne old new
  pub counts : (new ≡ record old { trip = new.trip }) ⊎ (new.duplicates ≡ counts_one old.duplicates)
  pub is : new ≡ record old {
    left = new.left;
    in_flight = new.in_flight;
    window = new.window;
    trip = new.trip;
    timer = new.timer;
    duplicates = new.duplicates;
  }

-- or it is counted and a repair begins with it, if nothing is repaired
pub record TakesOneAndRepairs (old : PacerView) (now : ℕ) (new : PacerView) : Type 0 where
  pub none : RepairsNothing old
  pub one : (new.left ≡ old.left) ⊎ (new.left ≡ old.left + 1)
  pub begins : BeginsRepair (record old { left = new.left; duplicates = counts_one old.duplicates }) now new

abbrev pub Repeats : PacerView → ℕ → PacerView → Type 0
Repeats old now new = TakesOneOut old new ⊎ TakesOneAndRepairs old now new

-- a link read one packet now, which changed its numbers from those before to those after, and its pacer was told
-- so, once. `joined` is whether it is the reply to the request. What is acknowledged moves the base, and begins
-- the timeout anew, undoubled. Any other packet leaves the base, and the timeout too, unless it takes a unit out
-- of flight during a repair. No credit changes. How long the pacer waits changes only by an acknowledgement and
-- by the reply to the request, which is measured first
pub record Hears (old : PacerView) (before after : Numbers) (joined : Bool) (now : ℕ) (new : PacerView) : Type 0 where
  pub counts : new.out ≡ after.out
  pub moves : after.out < before.out → Acknowledges old (before.out - after.out) after.out now new
  pub acknowledged : after.out < before.out
      → (new.timer ≡ waited_since None after.out now) × (new.trip.doubled ≡ 0)
  pub repeated : is_double before after ≡ true → Repeats (with_outstanding old after.out now) now new
  pub waits : before.out ≤ after.out → WaitsOn old after.out now new × (new.trip.doubled ≡ old.trip.doubled)
  pub still : before.out ≤ after.out → flight (with_outstanding old after.out now) ≤ flight new
      → new.timer ≡ waited_since old.timer after.out now
  pub timed : IsBounded new.trip
  pub answers : before.out ≤ after.out → new.trip ≡ heard_trip joined old.trip now
  pub measures : after.out < before.out
      → new.trip ≡ measured old (before.out - after.out) (heard_trip joined old.trip now) now
  pub counted : before.out ≤ after.out → is_double before after ≡ false
      → new ≡ record (with_outstanding old after.out now) { trip = new.trip }
  pub mends : MendsOn old now new
  pub ended : new.ended ≡ old.ended
  pub base : after.out < before.out → new.base ≡ saturating_sum old.base (before.out - after.out)
  pub unmoved : before.out ≤ after.out → new.base ≡ old.base
  pub credit : (new.credit ≡ old.credit) × (new.tick ≡ old.tick)
