-- What is read, and the text of a packet in hex.
use Rattle.std.specs.Prelude.{◌≡◌, ℕ, ◌-◌, ◌==◌, List, length, take, slice_index, IfSome, Option, None, nat_lt, if◌then◌else◌}
use Rattle.std.specs.Result.{result_ok}
use Rattle.hex.specs.Hex.{decode_of}

-- an input that a reader may have: all that it has left, if that is known
abbrev pub IsInput : Option (List ℕ) → List ℕ → Type 0
IsInput known input = IfSome known (λ all. input ≡ all)

-- the most bytes of an input of lines
abbrev pub max_input : ℕ
max_input = 1000000

-- a text without the line end that it may have
abbrev pub without_line_end : List ℕ → List ℕ
without_line_end text =
    if slice_index text (length text - 1) == 10 then take (length text - 1) text else text

-- the bytes that a text spells, if it spells any
abbrev pub packet_of_text : List ℕ → Option (List ℕ)
packet_of_text text =
    if nat_lt 4096 (length text) then None else result_ok (decode_of (without_line_end text))
