-- Entries of one size, one after another, and the fault of too many.
use Rattle.std.specs.Prelude.{◌≡◌, ◌≤◌, ℕ, List, [], ◌∷◌, length, drop, Option, Some, None, nat_lt, if◌then◌else◌}
use Rattle.ipx_control.specs.declared.fault.ControlFault.{ControlFault}
use Rattle.ipx_control.specs.declared.fault.ControlFault.TheVariants.{TooManyEntries}

-- the bytes are the entries, of `size` bytes each, followed by the tail
abbrev pub AreEntries : {E : Type 0} → (E → List ℕ → Type 0) → ℕ → List E → List ℕ → List ℕ → Type 0
AreEntries IsEntry size [] bytes tail = bytes ≡ tail
AreEntries IsEntry size (e ∷ es) bytes tail =
    (size ≤ length bytes) × IsEntry e bytes × AreEntries IsEntry size es (drop size bytes) tail

-- the fault of so many entries if a packet may hold `most`
abbrev pub entries_fault : ℕ → ℕ → Option ControlFault
entries_fault most count = if nat_lt most count then Some (TooManyEntries count) else None
