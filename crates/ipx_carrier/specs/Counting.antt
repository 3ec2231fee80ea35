-- Counts of 64 bits that stay at the greatest. Defined by this project.
use Rattle.std.specs.Prelude.{ℕ, ◌+◌, ◌-◌, ◌^◌, min}

-- the count shown for a number: the number itself, or the greatest of 64 bits
abbrev pub counted : ℕ → ℕ
counted n = min n (2 ^ 64 - 1)

-- the count after one more
abbrev pub raised : ℕ → ℕ
raised n = counted (n + 1)
