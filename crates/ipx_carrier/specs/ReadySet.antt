-- Marks of the ports of a device, numbered from 0. At a marked port something may wait; at another nothing
-- does. Defined by this project.
use Rattle.std.specs.Prelude.{◌≡◌, ◌<◌, ◌==◌, ◌||◌, ℕ, Bool, true, false, if◌then◌else◌, List, Some, None, Ok, Err, length, slice_index_or, slice_set}
use Rattle.std.specs.List.{list_any}
use Rattle.ipx_carrier.specs.Counting.{raised}
use Rattle.ipx_carrier.specs.Traces.{Got}

-- a port is marked
abbrev pub is_port_marked : List Bool → ℕ → Bool
is_port_marked marks port = slice_index_or marks port false

-- some port is
abbrev pub is_any_marked : List Bool → Bool
is_any_marked marks = list_any (λ mark. mark) marks

-- the ports of these numbers are now marked, and those that were marked before; no other is
abbrev pub AreMarked : List ℕ → List Bool → List Bool → Type 0
AreMarked numbers old new = (length new ≡ length old)
    × ((port : ℕ) → port < length old
    → is_port_marked new port ≡ (is_port_marked old port || list_any (λ n. n == port) numbers))

-- the marks after a port was asked: its own is cleared if nothing waits, and else all stay
abbrev pub marks_after : ℕ → Got → List Bool → List Bool
marks_after port (Ok None) marks = slice_set marks port false
marks_after port (Ok (Some came)) marks = marks
marks_after port (Err _) marks = marks

-- something came
abbrev pub is_come : Got → Bool
is_come (Ok (Some came)) = true
is_come (Ok None) = false
is_come (Err _) = false

-- whether something came to a port that filters: it is returned, or else counted as filtered. If nothing came
-- it is neither
abbrev pub IsFilteredOrAnswer : Bool → Bool → ℕ → ℕ → Type 0
IsFilteredOrAnswer true answered kept kept_after = kept_after ≡ (if answered then kept else raised kept)
IsFilteredOrAnswer false answered kept kept_after = (answered ≡ false) × (kept_after ≡ kept)
