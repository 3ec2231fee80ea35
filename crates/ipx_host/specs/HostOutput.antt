-- Bytes on their way to a writer. Nothing here is from a public standard.
use Rattle.std.specs.Prelude.{◌≡◌, ℕ, List, ◌++◌, drop, Option}
use Rattle.std.specs.Io.KnownBytes.{Appends}
use Rattle.ipx_host.specs.declared.output.Outlet.{Outlet}

-- the bytes that an outlet has left to write
abbrev pub left_of : Outlet → List ℕ
left_of o = drop o.written o.bytes.items

-- the bytes that a writer took, followed by the bytes left to write, are the bytes that were left before.
-- Nothing is lost, duplicated or reordered
abbrev pub Writes : List ℕ → List ℕ → Option (List ℕ) → Option (List ℕ) → Type 0
Writes before after held holds =
    (front : List ℕ) × (before ≡ front ++ after) × Appends held holds front
