-- The clock of a site's programs, over the system's clock. Defined by this project.
use Rattle.std.specs.Prelude.{◌≡◌, ◌≤◌, ℕ, true}
use Rattle.ipx_sockets.specs.declared.clock.SteadyClock.{SteadyClock}

-- it returns a time not before the last one, or the same time if it is stopped, and that is the last one then
abbrev pub NeverGoesBack : {R : Type 0} → SteadyClock R → ℕ → SteadyClock R → Type 0
NeverGoesBack old moment new = (old.last ≤ moment) × (new.last ≡ moment)
    × (new.stopped ≡ old.stopped) × (old.stopped ≡ true → moment ≡ old.last)

-- it returns a time not before the last one, and is stopped there
abbrev pub StopsThere : {R : Type 0} → SteadyClock R → ℕ → SteadyClock R → Type 0
StopsThere old moment new = (old.last ≤ moment) × (new.last ≡ moment) × (new.stopped ≡ true)
