-- When units were sent (defined by this project).
use Rattle.std.specs.Prelude.{ℕ, ◌%◌, List, Option, None, replicate, slice_get, slice_set}
use Rattle.std.specs.Option.{option_flatten}

-- 8,192 places for times, none of which has one
unfoldable pub no_times : List (Option ℕ)
no_times = replicate 8192 None

-- the time at a position, if there is one
abbrev pub time_at : List (Option ℕ) → ℕ → Option ℕ
time_at times position = option_flatten (slice_get times (position % 8192))

-- a time, or none, is noted at a position. It replaces that of the position 8,192 before
abbrev pub with_time : List (Option ℕ) → ℕ → Option ℕ → List (Option ℕ)
with_time times position at = slice_set times (position % 8192) at
