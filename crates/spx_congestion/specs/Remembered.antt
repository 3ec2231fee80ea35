-- Which least round trips a pacer remembers (defined by this project).
use Rattle.std.specs.Prelude.{ℕ, ◌-◌, ◌/◌, ◌&&◌, ◌==◌, if◌then◌else◌, Bool, false, max, min, nat_lt, Option, None, Some}
use Rattle.spx_congestion.specs.declared.least_trip.LeastTrip.{LeastTrip}

-- a period is ten seconds. The one that a time is in, by its number
abbrev pub period_of : ℕ → ℕ
period_of now = now / 10000

-- how many periods began since a round trip was noted last. None did if the clock went back
abbrev pub periods_since : LeastTrip → ℕ → ℕ
periods_since t now = period_of now - t.period

-- what is remembered at a time: the least round trip of the present period, and that of the period before. Within a
-- period nothing is forgotten. In the next one what was of the present period is of the one before. After two periods
-- nothing is left
abbrev pub remembered : LeastTrip → ℕ → LeastTrip
remembered t now =
    record {
      period = max t.period (period_of now);
      present = if periods_since t now == 0 then t.present else None;
      before = if periods_since t now == 0 then t.before else (if periods_since t now == 1 then t.present else None);
    }

-- the lesser of two round trips, of which each may be missing
abbrev pub lesser : Option ℕ → Option ℕ → Option ℕ
lesser None b = b
lesser (Some a) None = Some a
lesser (Some a) (Some b) = Some (min a b)

-- the least round trip of both periods
abbrev pub least_of : LeastTrip → Option ℕ
least_of t = lesser t.present t.before

-- a round trip was measured now, and is remembered too
abbrev pub noted : LeastTrip → ℕ → ℕ → LeastTrip
noted t trip now = record (remembered t now) { present = lesser (remembered t now).present (Some trip) }

-- both were measured, and the first is less
abbrev pub is_less : Option ℕ → Option ℕ → Bool
is_less (Some a) (Some b) = nat_lt a b
is_less a b = false

-- the next round trip that is noted pushes out the least one, which is of the period before. Those that were measured
-- since are longer
abbrev pub loses_least : LeastTrip → ℕ → Bool
loses_least t now = is_less t.before t.present && nat_lt 0 (periods_since t now)
