-- What a command has written if it ends with an error.
use Rattle.std.specs.Prelude.{codes, ◌≡◌, ◌⊎◌, ℕ, List, ◌++◌, Option}
use Rattle.std.specs.Io.KnownBytes.{Appends}

-- a writer has more by the first of these bytes: none, some or all of them
abbrev pub AppendsFront : Option (List ℕ) → Option (List ℕ) → List ℕ → Type 0
AppendsFront before after whole =
    (front rest : List ℕ) × (whole ≡ front ++ rest) × Appends before after front

-- the line for out of memory
abbrev pub no_memory_line : List ℕ
no_memory_line = codes "fault (14) OutOfMemory\n"

-- what was written before a command ended with an error: the first bytes of its output if nothing failed, or
-- of the line for out of memory; possibly none
abbrev pub LeavesWritten : Option (List ℕ) → Option (List ℕ) → (List ℕ → Type 0) → Type 0
LeavesWritten before after IsWritten = AppendsFront before after no_memory_line
    ⊎ ((lines : List ℕ) × IsWritten lines × AppendsFront before after lines)
