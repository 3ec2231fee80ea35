-- The lines that `check` reads.
use Rattle.std.specs.Prelude.{ℕ, ◌+◌, ◌-◌, ◌*◌, ◌&&◌, Bool, List, length, drop, take, slice_index, position, Option, Some, None, codes, nat_le, nat_eq, ◌==◌, if◌then◌else◌}
use Rattle.std.specs.List.{list_all, slice_split, starts_with}
use Rattle.std.specs.Result.{result_ok}
use Rattle.hex.specs.Hex.{decode_of}
use Rattle.ipx_inspect.specs.declared.check_line.VectorLine as code
use Rattle.ipx_inspect.specs.declared.check_line.VectorLine.TheVariants as lines

-- the lines of an input, each ended by a byte 0a or by the end of the input
abbrev pub input_lines : List ℕ → List (List ℕ)
input_lines input = slice_split (λ b. b == 10) input

-- a line is skipped, or a vector, or of no known form; a vector is the number of the fault that its
-- datagram must have, 0 for none, and the datagram
pub data LineView : Type 0 where
  Skipped : LineView
  Vector : ℕ → List ℕ → LineView
  Malformed : LineView

abbrev pub line_view : code.VectorLine → LineView
line_view lines.Skipped = Skipped
line_view (lines.Vector number bytes) = Vector number bytes.items
line_view lines.Malformed = Malformed

-- a byte is between these two
abbrev pub is_from_to : ℕ → ℕ → ℕ → Bool
is_from_to low high byte = nat_le low byte && nat_le byte high

-- a number from 1 to 39 without a leading zero
abbrev pub fault_number : List ℕ → Option ℕ
fault_number digits =
    if (length digits == 1) && is_from_to 49 57 (slice_index digits 0)
    then Some (slice_index digits 0 - 48)
    else if (length digits == 2)
    && (is_from_to 49 51 (slice_index digits 0) && is_from_to 48 57 (slice_index digits 1))
    then Some (10 * (slice_index digits 0 - 48) + (slice_index digits 1 - 48))
    else None

-- a vector, if there is a number and the text is hex
abbrev pub vector_of : Option ℕ → Option (List ℕ) → LineView
vector_of None bytes = Malformed
vector_of (Some number) None = Malformed
vector_of (Some number) (Some bytes) = Vector number bytes

-- what follows `bad `: a number, the first blank and a text in hex
abbrev pub bad_vector : List ℕ → Option ℕ → LineView
bad_vector rest None = Malformed
bad_vector rest (Some blank) =
    vector_of (fault_number (take blank rest)) (result_ok (decode_of (drop (blank + 1) rest)))

-- a line of only blanks, or one that begins with `#`, is skipped; otherwise it is `ok HEX` or `bad N HEX`
abbrev pub line_form : List ℕ → LineView
line_form line =
    if list_all (λ b. b == 32) line then Skipped
    else if starts_with nat_eq line (codes "#") then Skipped
    else if starts_with nat_eq line (codes "ok ")
    then vector_of (Some 0) (result_ok (decode_of (drop 3 line)))
    else if starts_with nat_eq line (codes "bad ")
    then bad_vector (drop 4 line) (position (λ b. b == 32) (drop 4 line))
    else Malformed
