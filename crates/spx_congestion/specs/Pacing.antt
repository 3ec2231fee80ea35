-- The state of a pacer, as its contracts see it, and what it lets a link do (defined by this project).
use Rattle.std.specs.Prelude.{ℕ, ◌+◌, ◌-◌, ◌*◌, ◌/◌, ◌^◌, ◌&&◌, ◌||◌, ◌==◌, if◌then◌else◌, Bool, true, false, min, max, nat_lt, nat_le}
use Rattle.std.specs.Prelude.{◌≡◌, ◌<◌, ◌≤◌, ◌⊎◌, IsTrue, List, Option, None, Some, is_some, option_map, unwrap_or}
use Rattle.spx_link.specs.Limits.{most_units}
use Rattle.spx_link.specs.declared.numbers.Numbers.{Numbers}
use Rattle.spx_congestion.specs.declared.plan.Plan.{Plan}
use Rattle.spx_congestion.specs.declared.sent_kind.SentKind.{SentKind}
use Rattle.spx_congestion.specs.declared.sent_kind.SentKind.TheVariants as Gaves
use Rattle.spx_congestion.specs.Asking.{is_idle}
use Rattle.spx_congestion.specs.Measured.{IsBounded, TripView, asked_now, doubled_wait, end_wait, made_trip, slack}
use Rattle.spx_congestion.specs.SendTimes.{no_times, with_time}

-- positions count units from 0. `out` units from `base` on are outstanding. `left` of them were received or
-- are given up, and `in_flight` were sent again. Those from `from` up to `to` are to be sent again. The
-- window and the credit are in 256ths of a unit, and the credit has grown until `tick`. `timer` is since when
-- the pacer waits for an acknowledgement, if it does. `ended` is whether the end of the connection was sent.
-- While missing units are repaired, `recover` is the position at which that ends, `run` is how many of the
-- outstanding units may be sent again, and those up to `fixed` already were, or are to be. While `mends` holds
-- too, those that duplicates report as missing are repaired. The first outstanding unit was sent again at
-- `fixed_at`, and was missing again `tries` times. `duplicates` came since anything was acknowledged. `sent` has when
-- each outstanding unit was sent, if it was sent once
pub record PacerView : Type 0 where
  pub base : ℕ
  pub out : ℕ
  pub left : ℕ
  pub in_flight : ℕ
  pub from : ℕ
  pub to : ℕ
  pub window : ℕ
  pub credit : ℕ
  pub tick : ℕ
  pub trip : TripView
  pub timer : Option ℕ
  pub ended : Bool
  pub recover : Option ℕ
  pub run : ℕ
  pub fixed : ℕ
  pub mends : Bool
  pub fixed_at : ℕ
  pub tries : ℕ
  pub duplicates : ℕ
  pub sent : List (Option ℕ)

-- the sum of two numbers, or the largest one of 64 bits
abbrev pub saturating_sum : ℕ → ℕ → ℕ
saturating_sum a b = min (a + b) (2 ^ 64 - 1)

-- a new pacer: a window of 27 units, and credit for 10
abbrev pub made_pacer : PacerView
made_pacer =
    record {
      base = 0;
      out = 0;
      left = 0;
      in_flight = 0;
      from = 0;
      to = 0;
      window = 6912;
      credit = 2560;
      tick = 0;
      trip = made_trip;
      timer = None;
      ended = false;
      recover = None;
      run = 1;
      fixed = 0;
      mends = false;
      fixed_at = 0;
      tries = 0;
      duplicates = 0;
      sent = no_times;
    }

-- if units are outstanding, the pacer waits for an acknowledgement: since the time it had, or else from now
-- on
abbrev pub waited_since : Option ℕ → ℕ → ℕ → Option ℕ
waited_since timer out now = if nat_lt 0 out then Some (unwrap_or timer now) else None

-- as many units are outstanding as the link says now. If none is, none is in flight
abbrev pub with_outstanding : PacerView → ℕ → ℕ → PacerView
with_outstanding p out now =
    record p {
      out = out;
      left = min p.left out;
      in_flight = if nat_lt 0 out then p.in_flight else 0;
      timer = waited_since p.timer out now;
    }

-- how many units are in flight
abbrev pub flight : PacerView → ℕ
flight p = (p.out - p.left) + p.in_flight

-- how many more the window allows
abbrev pub spare : PacerView → ℕ
spare p = p.window / 256 - flight p

-- the most by which credit grows in a millisecond: 32 units
abbrev pub most_rate : ℕ
most_rate = 8192

-- how much the credit grows in a millisecond, with this window and this round trip: twice the window a round
-- trip in slow start, otherwise 5/4 of it. It is a 256th of a unit at least, and 32 units at most
abbrev pub rate_of : Bool → ℕ → ℕ → ℕ
rate_of starting window trip =
    min (max ((if starting then window * 2 else window * 5 / 4) / max trip 1) 1) most_rate

-- the credit after it has grown until now, at a rate per millisecond: at most four milliseconds' worth, or
-- ten units
abbrev pub grown_credit : ℕ → PacerView → ℕ → ℕ
grown_credit rate p now =
    if nat_lt p.tick now then min (p.credit + rate * (now - p.tick)) (max (rate * 4) 2560) else p.credit

-- the credit grew until now, at the rate of the window and the round trip that the pacer has then. It may be in
-- slow start
pub record GrowsCredit (old : PacerView) (now : ℕ) (new : PacerView) : Type 0 where
  pub starting : Bool
  pub credit : new.credit ≡ grown_credit (rate_of starting new.window new.trip.smoothed) old now
  pub tick : new.tick ≡ max old.tick now

-- whether there is credit for a unit
abbrev pub has_credit : PacerView → Bool
has_credit p = nat_lt 255 p.credit

-- the place of the first outstanding unit that is to be sent again
abbrev pub place_again : PacerView → Option ℕ
place_again p =
    if nat_lt p.from p.to && nat_lt p.base p.to && nat_lt (p.from - p.base) p.out
    then Some (p.from - p.base) else None

-- how many units may be outstanding, if none is to be sent again
abbrev pub open_to : PacerView → ℕ
open_to p = min (p.out + min (spare p) (p.credit / 256)) most_units

-- without credit nothing is sent. A unit that is sent again goes alone
abbrev pub plan_of : PacerView → Plan
plan_of p =
    if has_credit p
    then (if is_some (place_again p)
    then record { window = 0; again = place_again p }
    else record { window = open_to p; again = None })
    else record { window = min p.out most_units; again = None }

-- something would be sent now, if there were credit or nothing else went first
abbrev pub holds_back : PacerView → Bool
holds_back p = is_some (place_again p) || (nat_lt p.credit 256 && nat_lt 0 (spare p))

-- the end of the connection was sent, and either only the end is outstanding, or a timeout came since anything
-- new was acknowledged. Then the peer is asked often, since a listener keeps a connection only some seconds
-- after its end
abbrev pub asks_often : PacerView → Bool
asks_often p = p.ended && ((p.out == 1) || nat_lt 0 p.trip.doubled)

-- how long the pacer waits for an acknowledgement. If the peer is asked often, no shorter than until the first
-- outstanding unit is sent again for that reason
abbrev pub wait_of : PacerView → ℕ
wait_of p = if asks_often p then max (doubled_wait p.trip) (end_wait p.trip) else doubled_wait p.trip

-- until when it waits for one
abbrev pub waits_till : PacerView → Option ℕ
waits_till p = option_map (λ since. saturating_sum since (wait_of p)) p.timer

-- when the first outstanding unit, which was sent again, counts as missing again: after a round trip and its
-- tolerance, which doubles each time, up to 64 times. None if nothing is repaired, or others are to be sent
-- first. If the peer is asked often, it is missing half a second to a second after it was last sent
abbrev pub missing_at : PacerView → Option ℕ
missing_at p =
    if is_idle p.base p.from p.to
    then (if asks_often p
    then Some (saturating_sum (max p.fixed_at (unwrap_or p.timer 0)) (end_wait p.trip))
    else (if p.mends then Some (saturating_sum p.fixed_at (slack p.trip * 2 ^ min p.tries 6)) else None))
    else None

-- when the wait for an acknowledgement, or for a unit that was sent again, is over
abbrev pub wakes : PacerView → Option ℕ
wakes p = option_map (λ till. min till (unwrap_or (missing_at p) till)) (waits_till p)

-- the time at which the plan may change, if nothing is heard before. If something is held back, that is
-- within a millisecond. Otherwise, if units are outstanding, within a minute, and at once if the pacer does
-- not wait
abbrev pub wakes_at : PacerView → ℕ → Option ℕ
wakes_at p now =
    if holds_back p
    then Some (min (saturating_sum now 1) (unwrap_or (wakes p) (saturating_sum now 1)))
    else (if nat_lt 0 p.out then Some (min (unwrap_or (wakes p) now) (saturating_sum now 60000)) else None)

-- the connection is given up after ten timeouts in a row, with no acknowledgement of anything new since the
-- first wait began
abbrev pub most_timeouts : ℕ
most_timeouts = 10

abbrev pub has_given_up : PacerView → Bool
has_given_up p = nat_le most_timeouts p.trip.doubled

-- whether there is such a time, and it has passed
abbrev pub is_over : Option ℕ → ℕ → Bool
is_over None now = false
is_over (Some at) now = nat_le at now

-- what is due by itself. After a timeout the first outstanding unit is to be sent again, none counts as in
-- flight, and the next timeout is twice as long. A unit that is missing again is sent once more
abbrev pub tended : PacerView → ℕ → PacerView
tended p now =
    if is_over (waits_till p) now
    then record p {
      left = p.out;
      in_flight = 0;
      from = p.base;
      to = saturating_sum p.base 1;
      trip = record p.trip { doubled = min (p.trip.doubled + 1) (2 ^ 32 - 1) };
      timer = Some now;
      recover = Some (saturating_sum p.base p.out);
      run = 1;
      fixed = saturating_sum p.base 1;
      mends = false;
      fixed_at = now;
      tries = 0;
    }
    else (if is_over (missing_at p) now
    then record p { from = p.base; to = saturating_sum p.base 1; tries = min (p.tries + 1) (2 ^ 32 - 1) }
    else p)

-- a duplicate: it acknowledges nothing, brings nothing, and allows no more, while units are outstanding
abbrev pub is_double : Numbers → Numbers → Bool
is_double before after =
    nat_le before.out after.out && nat_lt 0 after.out && nat_le after.room before.room && (before.expected == after.expected)

-- a packet took a unit out of flight while missing ones are repaired, and no timeout came since anything new
-- was acknowledged
pub record TakesOut (old : PacerView) (out now : ℕ) (new : PacerView) : Type 0 where
  pub some : 0 < out
  pub mends : IsTrue old.mends
  pub first : old.trip.doubled ≡ 0
  pub fewer : flight new < flight (with_outstanding old out now)

-- if units are outstanding, the pacer waits for an acknowledgement: since before, or since a packet now that
-- took a unit out of flight
abbrev pub WaitsOn : PacerView → ℕ → ℕ → PacerView → Type 0
WaitsOn old out now new = (new.timer ≡ waited_since old.timer out now)
    ⊎ ((new.timer ≡ Some now) × TakesOut old out now new)

-- while it repairs, the first outstanding unit was sent again now, or when it was before. It was not missing
-- more often since
abbrev pub MendsOn : PacerView → ℕ → PacerView → Type 0
MendsOn old now new = IsTrue new.mends → ((new.fixed_at ≡ now) × (new.tries ≡ 0))
    ⊎ (IsTrue old.mends × (new.fixed_at ≡ old.fixed_at) × (new.tries ≤ old.tries))

-- the credit after a packet was given: a unit costs one unit of credit
abbrev pub credit_after : ℕ → SentKind → ℕ
credit_after credit Gaves.Request = credit
credit_after credit Gaves.Unit = credit - 256
credit_after credit Gaves.End = credit - 256
credit_after credit Gaves.Again = credit - 256
credit_after credit Gaves.Other = credit

-- the position of the last outstanding unit
abbrev pub newest : PacerView → ℕ
newest p = saturating_sum p.base p.out - 1

-- a packet was given now. A unit costs credit, and the end comes last. When a new unit was sent is noted, and it is the
-- last one outstanding. Of the units to be sent again the first was sent, and it has no time any more
abbrev pub given_by : PacerView → SentKind → ℕ → PacerView
given_by p Gaves.Request now = record p { trip = asked_now p.trip now }
given_by p Gaves.Unit now = record p { credit = p.credit - 256; sent = with_time p.sent (newest p) (Some now) }
given_by p Gaves.End now =
    record p { credit = p.credit - 256; ended = true; sent = with_time p.sent (newest p) (Some now) }
given_by p Gaves.Again now =
    record p {
      credit = p.credit - 256;
      in_flight = min (p.in_flight + 1) (2 ^ 16 - 1);
      from = saturating_sum (max p.from p.base) 1;
      fixed_at = if nat_le p.from p.base then now else p.fixed_at;
      sent = with_time p.sent (max p.from p.base) None;
    }
given_by p Gaves.Other now = p

-- a pacer that plans for a link with so many units outstanding has done what was due, and its credit grew.
-- Its window is 4 to 8,192 units, and its timeout has its bounds
pub record Tends (old : PacerView) (out now : ℕ) (new : PacerView) : Type 0 where
  pub due : new ≡ record (tended (with_outstanding old out now) now) {
    window = new.window;
    credit = new.credit;
    tick = new.tick;
  }
  pub grows : GrowsCredit old now new
  pub wide : (1024 ≤ new.window) × (new.window ≤ 2097152)
  pub timed : IsBounded new.trip
