-- The output of `show --frame` for the frames that it reads, as one station receives them.
use Rattle.std.specs.Prelude.{◌≡◌, ◌⊎◌, ℕ, ◌+◌, List, [], ◌++◌, Option, MatchBool, MatchOption, codes, get_or, length, max, nat_lt, take}
use Rattle.std.specs.List.{AllZip, enumerate_from, flat_map, fold}
use Rattle.std.specs.Fmt.{decimal}
use Rattle.std.specs.Io.KnownBytes.{Appends}
use Rattle.std.specs.Result.{result_ok}
use Rattle.hex.specs.Hex.{decode_of}
use Rattle.ipx_wire.specs.declared.address.Node.{Node}
use Rattle.ipx_ethernet.specs.declared.encapsulation.Encapsulation.{Encapsulation}
use Rattle.ipx_ethernet.specs.Frame.{FrameView, IsFrame}
use Rattle.ipx_ethernet.specs.FrameFault.{frame_fault}
use Rattle.ipx_inspect.specs.CheckLine.{input_lines}
use Rattle.ipx_inspect.specs.Output.{AppendsFront, LeavesWritten, no_memory_line}
use Rattle.ipx_inspect.specs.Show.{Shows}
use Rattle.ipx_inspect.specs.Text.{max_input, without_line_end}
use Rattle.ipx_inspect.specs.FrameLine.{frame_line, no_frame_line}

-- the lines for bytes: those of the frame, if the station receives it, and then what `show` prints for its
-- packet; otherwise that of the fault
abbrev pub ShowsFrame : Node → List ℕ → List ℕ → ℕ → Type 0
ShowsFrame own bytes lines status = MatchOption (frame_fault own bytes)
    ((e : Encapsulation) × (f : FrameView) × (tail packet : List ℕ) × IsFrame e f bytes tail
    × Shows f.packet packet status × (lines ≡ frame_line e f ++ packet))
    (λ fault. (lines ≡ no_frame_line fault) × (status ≡ 1))

-- the line for text that is not hex, on this line of input
abbrev pub bad_text_line : ℕ → List ℕ
bad_text_line place = codes "line " ++ (decimal place ++ codes " bad\n")

-- the output for one line of input
pub record ShownFrame : Type 0 where
  pub lines : List ℕ
  pub status : ℕ

-- the output for this line of input, whose text is a frame in hex, or not
abbrev pub IsShown : Node → ℕ × List ℕ → ShownFrame → Type 0
IsShown own (place, text) shown = MatchOption (result_ok (decode_of text))
    ((shown.lines ≡ bad_text_line place) × (shown.status ≡ 2))
    (λ bytes. ShowsFrame own bytes shown.lines shown.status)

-- the greatest of their statuses
abbrev pub worst_of : List ShownFrame → ℕ
worst_of shown = fold (λ status s. max status s.status) 0 shown

-- the output for some lines, one after another
abbrev pub ShowsTexts : Node → List (List ℕ) → List ℕ → ℕ → Type 0
ShowsTexts own texts lines status = (shown : List ShownFrame)
    × AllZip (IsShown own) (enumerate_from 1 texts) shown
    × (lines ≡ flat_map (λ s. s.lines) shown) × (status ≡ worst_of shown)

-- the lines of an input, each a frame in hex; the last may have a line end, or not
abbrev pub frame_texts : List ℕ → List (List ℕ)
frame_texts input = input_lines (without_line_end input)

abbrev pub long_line : List ℕ
long_line = codes "line 0 bad\n"

-- the output for an input; if that is over 1,000,000 bytes, bad line 0
abbrev pub ShowsFrames : Node → List ℕ → List ℕ → ℕ → Type 0
ShowsFrames own input lines status = MatchBool (nat_lt max_input (length input))
    ((lines ≡ long_line) × (status ≡ 2))
    (ShowsTexts own (frame_texts input) lines status)

-- ---- what was written before a write failed or memory ran out

-- the first bytes of some lines that begin so, or of the line for out of memory, which follows that beginning
-- or is alone
abbrev pub LeavesAfter : Option (List ℕ) → Option (List ℕ) → List ℕ → (List ℕ → Type 0) → Type 0
LeavesAfter before after head IsMore = AppendsFront before after no_memory_line
    ⊎ AppendsFront before after (head ++ no_memory_line)
    ⊎ ((more : List ℕ) × IsMore more × AppendsFront before after (head ++ more))

-- for a frame: its packet's lines follow its own
abbrev pub LeavesFrame : Node → List ℕ → Option (List ℕ) → Option (List ℕ) → Type 0
LeavesFrame own bytes before after = MatchOption (frame_fault own bytes)
    ((e : Encapsulation) × (f : FrameView) × (tail : List ℕ) × IsFrame e f bytes tail
    × LeavesAfter before after (frame_line e f) (λ packet. (status : ℕ) × Shows f.packet packet status))
    (λ fault. LeavesWritten before after (λ lines. lines ≡ no_frame_line fault))

-- for this line of input
abbrev pub LeavesShown : Node → ℕ × List ℕ → Option (List ℕ) → Option (List ℕ) → Type 0
LeavesShown own (place, text) before after = AppendsFront before after no_memory_line
    ⊎ MatchOption (result_ok (decode_of text))
    (LeavesWritten before after (λ lines. lines ≡ bad_text_line place))
    (λ bytes. LeavesFrame own bytes before after)

-- for some lines: those of the first n are whole, followed by what the next one leaves
abbrev pub LeavesTexts : Node → List (List ℕ) → Option (List ℕ) → Option (List ℕ) → Type 0
LeavesTexts own texts before after = (n : ℕ) × (lines : List ℕ) × (status : ℕ)
    × ShowsTexts own (take n texts) lines status × (between : Option (List ℕ))
    × Appends before between lines × LeavesShown own (n + 1, get_or texts n []) between after

-- for an input
abbrev pub LeavesFrames : Node → List ℕ → Option (List ℕ) → Option (List ℕ) → Type 0
LeavesFrames own input before after = MatchBool (nat_lt max_input (length input))
    (LeavesWritten before after (λ lines. lines ≡ long_line))
    (LeavesTexts own (frame_texts input) before after)
