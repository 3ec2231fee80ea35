-- Definitions for private functions: bytes as big-endian numbers.
use Rattle.std.specs.Prelude.{ℕ, ◌+◌, ◌*◌, ◌^◌, List, [], ◌∷◌, length}

-- bytes as a big-endian number
abbrev pub spelled : List ℕ → ℕ
spelled [] = 0
spelled (b ∷ bytes) = b * 256 ^ length bytes + spelled bytes
