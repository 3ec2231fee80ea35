-- When a cause is logged, and when something is done again. Defined by this project.
use Rattle.std.specs.Prelude.{◌≡◌, ◌<◌, ◌≤◌, ℕ, ◌+◌, List, Option, Some, None, MatchOption, get_or, length, ◌^◌, map}
use Rattle.ipx_sockets.specs.declared.throttled_log.ThrottledLog.{ThrottledLog}
use Rattle.ipx_sockets.specs.declared.warning.Warning.{Warning}

-- this many milliseconds have passed since something was done, or it never was
abbrev pub HasPassed : ℕ → Option ℕ → ℕ → Type 0
HasPassed period at now = MatchOption at (Unit {0}) (λ t. t + period ≤ now)

-- a minute has passed since the last line, or there was none
abbrev pub IsMinuteOver : Option ℕ → ℕ → Type 0
IsMinuteOver at now = HasPassed 60000 at now

-- it is that time or later, if there is one
abbrev pub IsReached : Option ℕ → ℕ → Type 0
IsReached moment now = MatchOption moment ⊥ (λ t. t ≤ now)

-- a cause is due: it occurred since it was last logged, and that was a minute ago or never
abbrev pub IsDue : ThrottledLog → ℕ → ℕ → Type 0
IsDue c count now = (c.logged < count) × IsMinuteOver c.at now

-- a cause that occurred `count` times, before and after a time: it is logged then exactly if it is due
abbrev pub IsLoggedIfDue : ℕ → ℕ → ThrottledLog → ThrottledLog → Type 0
IsLoggedIfDue count now before after = (IsDue before count now → (after.logged ≡ count) × (after.at ≡ Some now))
    × ((IsDue before count now → ⊥) → after ≡ before)

-- a cause that has not been logged
abbrev pub never_logged : ThrottledLog
never_logged = record { logged = 0; at = None }

-- one of the first `count` causes is due, given how often each occurred
abbrev pub IsOneDueOf : ℕ → List ThrottledLog → List ℕ → ℕ → Type 0
IsOneDueOf count causes happened now = (place : ℕ) × (place < count)
    × IsDue (get_or causes place never_logged) (get_or happened place 0) now

-- one of all causes is due
abbrev pub IsOneDue : List ThrottledLog → List ℕ → ℕ → Type 0
IsOneDue causes happened now = IsOneDueOf (length causes) causes happened now

-- each of them is logged then, exactly if it is due
abbrev pub AreLoggedIfDue : List ℕ → ℕ → List ThrottledLog → List ThrottledLog → Type 0
AreLoggedIfDue happened now before after = (length after ≡ length before)
    × ((place : ℕ) → place < length before → IsLoggedIfDue (get_or happened place 0) now
    (get_or before place never_logged) (get_or after place never_logged))

-- for this long from now there is nothing to do, at any time that a clock can show. If it is less than ten
-- seconds, which is the most, there is something to do then
pub record IsTimeUntilDue (todo : ℕ → Type 0) (now time : ℕ) : Type 0 where
  pub most : time ≤ 10000
  pub nothing : (t : ℕ) → now ≤ t → t < now + time → t < 2 ^ 64 → todo t → ⊥
  pub something : time < 10000 → (now + time < 2 ^ 64) × todo (now + time)

-- how often each problem of a list occurred
abbrev pub counts_of : List Warning → List ℕ
counts_of warnings = map (λ t. t.kept.count) warnings
