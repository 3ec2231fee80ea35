-- From one frame and one reading to one output and one status.
use Rattle.std.proofs.Common.{◌≡◌, ℕ, Bool, true, false, List, [], ◌∷◌, ◌++◌, Option, Some, None, sym, ap, ◌∙◌, refl, subst}
use Rattle.std.specs.Prelude.{MatchBool, MatchOption, nat_lt, length}
use Rattle.std.specs.List.{AllZip, enumerate_from, flat_map}
use Rattle.std.specs.Result.{result_ok}
use Rattle.hex.specs.Hex.{decode_of}
use Rattle.ipx_wire.specs.declared.address.Node.{Node}
use Rattle.ipx_ethernet.specs.declared.encapsulation.Encapsulation.{Encapsulation}
use Rattle.ipx_ethernet.specs.declared.fault.FrameFault.{FrameFault}
use Rattle.ipx_ethernet.specs.Frame.{FrameView, IsFrame}
use Rattle.ipx_ethernet.specs.FrameFault.{frame_fault}
use Rattle.ipx_inspect.specs.Decoded.{DecodedView, IsDecoded}
use Rattle.ipx_inspect.specs.Show.{Shows}
use Rattle.ipx_inspect.specs.ShowLine.{reading_lines, reading_status}
use Rattle.ipx_inspect.specs.FrameLine.{frame_line, no_frame_line}
use Rattle.ipx_inspect.specs.ShownFrame.{IsShown, ShownFrame, ShowsFrame, ShowsFrames, ShowsTexts, bad_text_line, frame_texts, long_line, worst_of}

-- bytes are read as one thing
abbrev pub OneReading : Type 0
OneReading = (bytes : List ℕ) (a b : DecodedView) → IsDecoded bytes a → IsDecoded bytes b → a ≡ b

-- bytes are one frame
abbrev pub OneFrame : Type 0
OneFrame = (d e : Encapsulation) (f g : FrameView) (bytes s t : List ℕ) → IsFrame d f bytes s → IsFrame e g bytes t → (d ≡ e) × (f ≡ g) × (s ≡ t)

shows_one : OneReading → (bytes a b : List ℕ) (s t : ℕ) → Shows bytes a s → Shows bytes b t → (a ≡ b) × (s ≡ t)
shows_one one bytes a b s t x y =
    let same = one bytes x.0 y.0 x.1 y.1 in
    (x.2 ∙ ap reading_lines same ∙ sym y.2, x.3 ∙ ap reading_status same ∙ sym y.3)

ShowsBy : Option FrameFault → List ℕ → List ℕ → ℕ → Type 0
ShowsBy fault bytes lines status = MatchOption fault
    ((e : Encapsulation) × (f : FrameView) × (tail packet : List ℕ) × IsFrame e f bytes tail × Shows f.packet packet status × (lines ≡ frame_line e f ++ packet))
    (λ f. (lines ≡ no_frame_line f) × (status ≡ 1))

frame_one : OneReading → OneFrame → (fault : Option FrameFault) (bytes a b : List ℕ) (s t : ℕ) → ShowsBy fault bytes a s → ShowsBy fault bytes b t → (a ≡ b) × (s ≡ t)
unfolding ShowsBy
frame_one reading frame (Some f) bytes a b s t x y = (x.0 ∙ sym y.0, x.1 ∙ sym y.1)
frame_one reading frame None bytes a b s t (d, f, u, p, is, shows, lines) (e, g, v, q, too, also, others) =
    let same = frame d e f g bytes u v is too in
    let below = shows_one reading f.packet p q s t shows (subst (λ (h : FrameView). Shows h.packet q t) (sym same.1) also) in
    (lines ∙ (λ i. frame_line (same.0 i) (same.1 i) ++ below.0 i) ∙ sym others, below.1)

shows_frame_one : OneReading → OneFrame → (own : Node) (bytes a b : List ℕ) (s t : ℕ) → ShowsFrame own bytes a s → ShowsFrame own bytes b t → (a ≡ b) × (s ≡ t)
unfolding ShowsBy
shows_frame_one reading frame own bytes a b s t x y = frame_one reading frame (frame_fault own bytes) bytes a b s t x y

ShownBy : Option (List ℕ) → Node → ℕ → ShownFrame → Type 0
ShownBy bytes own place shown = MatchOption bytes
    ((shown.lines ≡ bad_text_line place) × (shown.status ≡ 2))
    (λ b. ShowsFrame own b shown.lines shown.status)

same_shown : (x y : ShownFrame) → (x.lines ≡ y.lines) × (x.status ≡ y.status) → x ≡ y
same_shown x y same = λ i. record { lines = same.0 i; status = same.1 i }

shown_by_one : OneReading → OneFrame → (bytes : Option (List ℕ)) (own : Node) (place : ℕ) (x y : ShownFrame) → ShownBy bytes own place x → ShownBy bytes own place y → x ≡ y
unfolding ShownBy
shown_by_one reading frame None own place x y is too = same_shown x y (is.0 ∙ sym too.0, is.1 ∙ sym too.1)
shown_by_one reading frame (Some bytes) own place x y is too = same_shown x y (shows_frame_one reading frame own bytes x.lines y.lines x.status y.status is too)

shown_one : OneReading → OneFrame → (own : Node) (p : ℕ × List ℕ) (x y : ShownFrame) → IsShown own p x → IsShown own p y → x ≡ y
unfolding ShownBy
shown_one reading frame own (place, text) x y is too = shown_by_one reading frame (result_ok (decode_of text)) own place x y is too

all_shown_one : OneReading → OneFrame → (own : Node) (ps : List (ℕ × List ℕ)) (xs ys : List ShownFrame) → AllZip (IsShown own) ps xs → AllZip (IsShown own) ps ys → xs ≡ ys
all_shown_one reading frame own [] [] [] are too = refl
all_shown_one reading frame own [] [] (y ∷ ys) are too = absurd too
all_shown_one reading frame own [] (x ∷ xs) ys are too = absurd are
all_shown_one reading frame own (p ∷ ps) [] ys are too = absurd are
all_shown_one reading frame own (p ∷ ps) (x ∷ xs) [] are too = absurd too
all_shown_one reading frame own (p ∷ ps) (x ∷ xs) (y ∷ ys) are too =
    let first = shown_one reading frame own p x y are.0 too.0 in
    let rest = all_shown_one reading frame own ps xs ys are.1 too.1 in
    λ i. first i ∷ rest i

texts_one : OneReading → OneFrame → (own : Node) (texts : List (List ℕ)) (a b : List ℕ) (s t : ℕ) → ShowsTexts own texts a s → ShowsTexts own texts b t → (a ≡ b) × (s ≡ t)
texts_one reading frame own texts a b s t x y =
    let same = all_shown_one reading frame own (enumerate_from 1 texts) x.0 y.0 x.1 y.1 in
    (x.2 ∙ ap (flat_map (λ (one : ShownFrame). one.lines)) same ∙ sym y.2, x.3 ∙ ap worst_of same ∙ sym y.3)

ShowsInput : Bool → Node → List (List ℕ) → List ℕ → ℕ → Type 0
ShowsInput long own texts lines status = MatchBool long ((lines ≡ long_line) × (status ≡ 2)) (ShowsTexts own texts lines status)

input_one : OneReading → OneFrame → (long : Bool) (own : Node) (texts : List (List ℕ)) (a b : List ℕ) (s t : ℕ) → ShowsInput long own texts a s → ShowsInput long own texts b t → (a ≡ b) × (s ≡ t)
unfolding ShowsInput
input_one reading frame true own texts a b s t x y = (x.0 ∙ sym y.0, x.1 ∙ sym y.1)
input_one reading frame false own texts a b s t x y = texts_one reading frame own texts a b s t x y

pub frames_one : OneReading → OneFrame → (own : Node) (input a b : List ℕ) (s t : ℕ) → ShowsFrames own input a s → ShowsFrames own input b t → (a ≡ b) × (s ≡ t)
unfolding ShowsInput
frames_one reading frame own input a b s t x y = input_one reading frame (nat_lt 1000000 (length input)) own (frame_texts input) a b s t x y
