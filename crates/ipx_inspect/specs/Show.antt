-- The output of `show` for a text in hex.
use Rattle.std.specs.Prelude.{◌≡◌, ℕ, List, MatchOption}
use Rattle.std.specs.Result.{result_ok}
use Rattle.hex.specs.Hex.{decode_of}
use Rattle.ipx_inspect.specs.Line.{bad_line}
use Rattle.ipx_inspect.specs.Decoded.{DecodedView, IsDecoded}
use Rattle.ipx_inspect.specs.ShowLine.{reading_lines, reading_status}

-- the lines and the status of what a datagram is read as
abbrev pub Shows : List ℕ → List ℕ → ℕ → Type 0
Shows bytes lines status = (r : DecodedView) × IsDecoded bytes r
    × (lines ≡ reading_lines r) × (status ≡ reading_status r)

-- those for a text: for the bytes that it spells, or those of a bad line
abbrev pub ShowWrites : List ℕ → List ℕ → ℕ → Type 0
ShowWrites text lines status =
    MatchOption (result_ok (decode_of text))
    ((lines ≡ bad_line) × (status ≡ 2))
    (λ bytes. Shows bytes lines status)
