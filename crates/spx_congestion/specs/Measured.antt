-- A measured round trip, and the timeout of an acknowledgement (RFC 6298; its bounds are this project's).
use Rattle.std.specs.Prelude.{ℕ, ◌+◌, ◌-◌, ◌*◌, ◌/◌, ◌^◌, ◌≤◌, ◌&&◌, if◌then◌else◌, Bool, true, false, min, max, nat_le, nat_lt, Option, None, Some, List, replicate, slice_set}
use Rattle.std.specs.Int.{abs_diff}
use Rattle.std.specs.List.{list_all}
use Rattle.spx_congestion.specs.declared.least_trip.LeastTrip.{LeastTrip}
use Rattle.spx_congestion.specs.declared.round_trip.RoundTrip.{RoundTrip}
use Rattle.spx_congestion.specs.Remembered.{least_of, loses_least, noted, remembered}

-- in milliseconds: the timeout of an acknowledgement, how often in a row it passed, and the smoothed round
-- trip. `first` is the round trip of the request. `smooth` is eight times the smoothed round trip of the samples,
-- if there are any, and `variation` is four times how far they vary. `recent` are the last eight samples, of which
-- the next one replaces that at `turn`. `asked` is whether the request was sent. `asked_at` is when, if it was sent
-- once and is not answered yet
pub record TripView : Type 0 where
  pub wait : ℕ
  pub doubled : ℕ
  pub smoothed : ℕ
  pub first : Option ℕ
  pub smooth : Option ℕ
  pub variation : ℕ
  pub least : LeastTrip
  pub recent : List ℕ
  pub turn : ℕ
  pub asked : Bool
  pub asked_at : Option ℕ

-- the smoothed round trip, at least 1, from eight times it, if there is one. Otherwise the round trip of the
-- request, or else the timeout
abbrev pub smoothed_of : Option ℕ → Option ℕ → ℕ → ℕ
smoothed_of None None wait = max wait 1
smoothed_of None (Some first) wait = max first 1
smoothed_of (Some smooth) first wait = max (smooth / 8) 1

-- the least and the greatest timeout, without doubling
abbrev pub least_wait : ℕ
least_wait = 200

abbrev pub most_wait : ℕ
most_wait = 60000

-- the timeout is within them
abbrev pub IsBounded : TripView → Type 0
IsBounded t = (least_wait ≤ t.wait) × (t.wait ≤ most_wait)

-- what a pacer sees of its measurements
abbrev pub trip_of : RoundTrip → TripView
trip_of t =
    record {
      wait = t.wait.millis;
      doubled = t.doubled;
      smoothed = smoothed_of t.smooth t.first t.wait.millis;
      first = t.first;
      smooth = t.smooth;
      variation = t.variation;
      least = t.least;
      recent = t.recent;
      turn = t.turn;
      asked = t.asked;
      asked_at = t.asked_at;
    }

-- before anything is measured
abbrev pub made_trip : TripView
made_trip =
    record {
      wait = 500;
      doubled = 0;
      smoothed = 500;
      first = None;
      smooth = None;
      variation = 0;
      least = record { period = 0; present = None; before = None };
      recent = replicate 8 0;
      turn = 0;
      asked = false;
      asked_at = None;
    }

-- the timeout of so many milliseconds, or the nearest within the bounds
abbrev pub wait_within : ℕ → ℕ
wait_within millis = min (max millis least_wait) most_wait

-- the request is sent now. If it was sent before, its reply is not measured
abbrev pub asked_now : TripView → ℕ → TripView
asked_now t now = record t { asked = true; asked_at = if t.asked then None else Some now }

-- a request was answered at its first sending: the timeout is three times that round trip
abbrev pub answered_wait : ℕ → ℕ
answered_wait trip = wait_within (min (trip * 3) (2 ^ 64 - 1))

abbrev pub answered : TripView → ℕ → TripView
answered t trip =
    record t {
      wait = answered_wait trip;
      smoothed = smoothed_of t.smooth (Some trip) (answered_wait trip);
      first = Some trip;
    }

-- a request that was sent then is answered now. If its time is not known, nothing is measured
abbrev pub answered_since : Option ℕ → TripView → ℕ → TripView
answered_since None t now = t
answered_since (Some at) t now = answered t (now - at)

-- the reply to the request is here now. Its round trip is the time since the request was sent, if it was sent once. No
-- other reply is measured
abbrev pub replied : TripView → ℕ → TripView
replied t now = record (answered_since t.asked_at t now) { asked_at = None }

-- a packet is here now, and what it acknowledges is not measured yet. Only the reply to the request is
abbrev pub heard_trip : Bool → TripView → ℕ → TripView
heard_trip joined t now = if joined then replied t now else t

-- eight times the smoothed round trip after a sample (RFC 6298): that of the first sample, and then seven eighths of
-- what it was and an eighth of the sample
abbrev pub smooth_on : Option ℕ → ℕ → ℕ
smooth_on None trip = min (trip * 8) (2 ^ 64 - 1)
smooth_on (Some smooth) trip = min (smooth - smooth / 8 + trip) (2 ^ 64 - 1)

-- four times the variation after it: half of the first sample, and then three quarters of what it was and a quarter of
-- the distance of the sample from the smoothed round trip before
abbrev pub variation_on : Option ℕ → ℕ → ℕ → ℕ
variation_on None variation trip = min (trip * 2) (2 ^ 64 - 1)
variation_on (Some smooth) variation trip = min (variation - variation / 4 + abs_diff (smooth / 8) trip) (2 ^ 64 - 1)

-- the timeout that follows: the smoothed round trip and four times its variation, at least a millisecond
abbrev pub sampled_wait : ℕ → ℕ → ℕ
sampled_wait smooth variation = wait_within (min (smooth / 8 + max variation 1) (2 ^ 64 - 1))

-- the last eight samples before another one. At the first one it counts as all of them
abbrev pub recent_before : Option ℕ → List ℕ → ℕ → List ℕ
recent_before None recent trip = replicate 8 trip
recent_before (Some smooth) recent trip = recent

abbrev pub turn_after : ℕ → ℕ
turn_after turn = if nat_lt turn 7 then turn + 1 else 0

-- a round trip was sampled now. It is remembered as the least one may be. How often the timeout passed stays
abbrev pub sampled : TripView → ℕ → ℕ → TripView
sampled t trip now =
    record t {
      wait = sampled_wait (smooth_on t.smooth trip) (variation_on t.smooth t.variation trip);
      smoothed = max (smooth_on t.smooth trip / 8) 1;
      smooth = Some (smooth_on t.smooth trip);
      variation = variation_on t.smooth t.variation trip;
      least = noted t.least trip now;
      recent = slice_set (recent_before t.smooth t.recent trip) t.turn trip;
      turn = turn_after t.turn;
    }

-- how far the recent samples are to exceed the least round trip: a part of it, at least 4 and at most `most`
abbrev pub excess : ℕ → ℕ → ℕ → ℕ
excess least part most = min (max (least / max part 1) 4) most

-- all of the recent samples do
abbrev pub are_over : List ℕ → ℕ → ℕ → ℕ → Bool
are_over recent part most least = list_all (λ trip. nat_le (min (least + excess least part most) (2 ^ 64 - 1)) trip) recent

abbrev pub exceeds : TripView → ℕ → ℕ → Option ℕ → Bool
exceeds t part most None = false
exceeds t part most (Some least) = are_over t.recent part most least

-- there is a queue on the line: the recent samples exceed the least remembered one by an eighth, 4 to 16 (RFC 9406). One
-- begins if they exceed it by a 32nd, 4 to 8
abbrev pub is_queued : TripView → ℕ → Bool
is_queued t now = exceeds t 8 16 (least_of (remembered t.least now))

abbrev pub is_slowing : TripView → ℕ → Bool
is_slowing t now = exceeds t 32 8 (least_of (remembered t.least now))

-- the least round trip and the smoothed one, if the first is about to be forgotten and there is a queue
abbrev pub forgotten : TripView → ℕ → Option ℕ → Option (ℕ × ℕ)
forgotten t now None = None
forgotten t now (Some least) =
    if loses_least t.least now && are_over t.recent 8 16 least then Some (least, t.smoothed) else None

-- a unit that was sent then is acknowledged now. The time between is the sample, at least a millisecond. If no time is
-- given, nothing is measured
abbrev pub sampled_since : Option ℕ → TripView → ℕ → TripView
sampled_since None t now = t
sampled_since (Some at) t now = sampled t (max (now - at) 1) now

-- the timeout, which doubles each time that it passes, up to four seconds
abbrev pub doubled_wait : TripView → ℕ
doubled_wait t = max (min (t.wait * 2 ^ t.doubled) 4000) t.wait

-- if only the end of a connection is outstanding, the timeout before the end is sent again: half a second to
-- one second
abbrev pub end_wait : TripView → ℕ
end_wait t = min (max t.wait 500) 1000

-- a round trip with its tolerance: a quarter of it, at least 10
abbrev pub slack : TripView → ℕ
slack t = min (t.smoothed + max (t.smoothed / 4) 10) (2 ^ 64 - 1)
