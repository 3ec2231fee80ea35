-- A clock that advances by the same step at each read.
use Rattle.std.specs.Prelude.{◌≡◌, ℕ, ◌+◌}
use Rattle.ipx_carrier.specs.Counting.{counted}
use Rattle.ipx_carrier.specs.declared.clock.SteppedClock.{SteppedClock}

-- it gives its time, and is then one step later, if 64 bits hold that
abbrev pub StepsOn : SteppedClock → ℕ → SteppedClock → Type 0
StepsOn old told new = (told ≡ old.moment) × (new.moment ≡ counted (old.moment + old.step))
    × (new.step ≡ old.step)
