-- The output for the lines of an input, one after another.
use Rattle.std.proofs.Common.{◌≡◌, ◌<◌, ◌≤◌, ℕ, ◌+◌, zero, suc, List, ◌++◌, ◌∷◌, [], length, map, take, get_or, max, true, ltb, lt-ltb, Option, Some, None, Result, Ok, Err, inl, inr, false, arith, sym, ap, ◌∙◌, refl, subst}
use Rattle.std.specs.Prelude.{◌==◌, IfOk, IfSome, OnErr, ◌⊎◌}
use Rattle.std.specs.Io.KnownBytes.{Appends}
use Rattle.std.proofs.KnownBytes.{Appends-nil}
use Rattle.std.specs.List.{AllZip, enumerate_from, flat_map}
use Rattle.std.proofs.lemmas.Bool.{cases_lt, le-ltb}
use Rattle.std.proofs.lemmas.Grind.{flat_map-append}
use Rattle.std.proofs.lemmas.List.{append-nil, length-map, length-take, take_all, take_more}
use Rattle.std.proofs.lemmas.List.Splits.{length-slice_split}
use Rattle.std.proofs.lemmas.List.Sums.{count_by-le-length, fold_push}
use Rattle.std.proofs.lemmas.Slice.Zip.{all_zipped_more}
use Rattle.ipx_wire.specs.declared.address.Node.{Node}
use Rattle.ipx_inspect.specs.CheckLine.{input_lines}
use Rattle.ipx_inspect.specs.Output.{AppendsFront, no_memory_line}
use Rattle.ipx_inspect.specs.Text.{IsInput}
use Rattle.ipx_inspect.specs.ShownFrame.{IsShown, LeavesFrames, LeavesShown, LeavesTexts, ShownFrame, ShowsFrames, ShowsTexts, frame_texts}

enumerate_from-push : {X : Type 0} (n : ℕ) (xs : List X) (x : X) → enumerate_from n (xs ++ x ∷ []) ≡ enumerate_from n xs ++ (n + length xs, x) ∷ []
enumerate_from-push {X} n [] x =
    let same : n ≡ n + 0 = omega arith in
    ap {B = List (ℕ × X)} (λ (k : ℕ). (k, x) ∷ []) same
enumerate_from-push {X} n (y ∷ xs) x =
    let rest = enumerate_from-push (n + 1) xs x in
    let same : n + 1 + length xs ≡ n + length (y ∷ xs) = omega arith in
    ap (λ (ps : List (ℕ × X)). (n, y) ∷ ps) (rest ∙ ap (λ (k : ℕ). enumerate_from (n + 1) xs ++ (k, x) ∷ []) same)

-- nothing is written for no lines
texts_none : (own : Node) (texts : List (List ℕ)) → ShowsTexts own (take 0 texts) [] 0
texts_none own texts = ([], tt, refl, refl)

-- one more line
texts_more : (own : Node) (texts : List (List ℕ)) (n : ℕ) (text lines : List ℕ) (status : ℕ) (one : ShownFrame) → n < length texts → text ≡ get_or texts n text → IsShown own (n + 1, text) one
    → ShowsTexts own (take n texts) lines status → ShowsTexts own (take (n + 1) texts) (lines ++ one.lines) (max status one.status)
texts_more own texts n text lines status one lt there is (shown, are, wrote, worst) =
    let more : take (n + 1) texts ≡ take n texts ++ text ∷ [] = take_more texts n text lt ∙ ap (λ (x : List ℕ). take n texts ++ x ∷ []) (sym there) in
    let place : 1 + length (take n texts) ≡ n + 1 = omega (arith, lt, length-take n texts) in
    let places : enumerate_from 1 (take (n + 1) texts) ≡ enumerate_from 1 (take n texts) ++ (n + 1, text) ∷ [] =
    ap (enumerate_from 1) more ∙ enumerate_from-push 1 (take n texts) text ∙ ap (λ (k : ℕ). enumerate_from 1 (take n texts) ++ (k, text) ∷ []) place in
    let text_of = λ (s : ShownFrame). s.lines in
    let texts_of : lines ++ one.lines ≡ flat_map text_of (shown ++ one ∷ []) =
    ap (λ (t : List ℕ). t ++ one.lines) wrote ∙ ap (λ (t : List ℕ). flat_map text_of shown ++ t) (sym (append-nil one.lines)) ∙ sym (flat_map-append text_of shown (one ∷ [])) in
    let greatest = λ (k : ℕ) (s : ShownFrame). max k s.status in (
      shown ++ one ∷ [],
      subst (λ (ps : List (ℕ × List ℕ)). AllZip (IsShown own) ps (shown ++ one ∷ [])) (sym places) (all_zipped_more (IsShown own) (enumerate_from 1 (take n texts)) shown (n + 1, text) one are is),
      texts_of,
      ap (λ (k : ℕ). max k one.status) worst ∙ sym (fold_push greatest 0 shown one),
    )

get_or_map : {X Y : Type 0} (f : X → Y) (xs : List X) (n : ℕ) (d : X) (e : Y) → n < length xs → f (get_or xs n d) ≡ get_or (map f xs) n e
get_or_map f [] n d e lt = absurd (omega arith)
get_or_map f (x ∷ xs) zero d e lt = refl
get_or_map f (x ∷ xs) (suc n) d e lt = get_or_map f xs n d e (omega arith)

-- one more line of those that are lent
pub lent_more : {X : Type 0} (f : X → List ℕ) (own : Node) (xs : List X) (n place : ℕ) (d : X) (lines : List ℕ) (status : ℕ) (one : ShownFrame) → place ≡ n → n < length xs → IsShown own (place + 1, f (get_or xs n d)) one
    → ShowsTexts own (take n (map f xs)) lines status → ShowsTexts own (take (n + 1) (map f xs)) (lines ++ one.lines) (max status one.status)
lent_more f own xs n place d lines status one at lt is shows =
    let shown = subst (λ (k : ℕ). IsShown own (k + 1, f (get_or xs n d)) one) at is in
    texts_more own (map f xs) n (f (get_or xs n d)) lines status one (omega (arith, lt, length-map xs f)) (get_or_map f xs n d (f (get_or xs n d)) lt) shown shows

-- what the next one leaves
pub lent_left : {X : Type 0} (f : X → List ℕ) (own : Node) (xs : List X) (n place : ℕ) (d : X) (a b : Option (List ℕ)) → place ≡ n → n < length xs
    → LeavesShown own (place + 1, f (get_or xs n d)) a b → LeavesShown own (n + 1, get_or (map f xs) n []) a b
lent_left f own xs n place d a b at lt left =
    let here = get_or_map f xs n d [] lt in
    subst (λ (p : ℕ × List ℕ). LeavesShown own p a b) (λ i. (at i + 1, here i)) left

-- ---- an input, without its line end, and as much of it as is read

pub input_written : {F : Type 0} (result : Result ℕ F) (own : Node) (input : List ℕ) (texts : List (List ℕ)) (a b : Option (List ℕ)) → length input ≤ 1000000 → texts ≡ frame_texts input
    → IfOk result (λ s. (l : List ℕ) × ShowsTexts own texts l s × Appends a b l) → IfOk result (λ s. (l : List ℕ) × ShowsFrames own input l s × Appends a b l)
input_written (Err e) own input texts a b short is wrote = tt
input_written (Ok s) own input texts a b short is wrote =
    let few : ltb 1000000 (length input) ≡ false = le-ltb _ _ short in
    let shows = subst (λ (ts : List (List ℕ)). ShowsTexts own ts wrote.0 s) is wrote.1 in
    (wrote.0, rw few shows, wrote.2)

pub input_left : {F : Type 0} (result : Result ℕ F) (own : Node) (input : List ℕ) (texts : List (List ℕ)) (a b : Option (List ℕ)) → length input ≤ 1000000 → texts ≡ frame_texts input
    → OnErr result (LeavesTexts own texts a b) → OnErr result (LeavesFrames own input a b)
input_left (Ok s) own input texts a b short is left = tt
input_left (Err e) own input texts a b short is left =
    let few : ltb 1000000 (length input) ≡ false = le-ltb _ _ short in
    let leaves = subst (λ (ts : List (List ℕ)). LeavesTexts own ts a b) is left in
    rw few leaves

-- if memory runs out before the first line
pub none_left : (own : Node) (input : List ℕ) (a b : Option (List ℕ)) → length input ≤ 1000000 → AppendsFront a b no_memory_line → LeavesFrames own input a b
none_left own input a b short front =
    let few : ltb 1000000 (length input) ≡ false = le-ltb _ _ short in
    let leaves : LeavesTexts own (frame_texts input) a b = (0, [], 0, texts_none own (frame_texts input), a, Appends-nil a, inl front) in
    rw few leaves

-- an input has few lines
pub few_texts : (input text : List ℕ) (texts : List (List ℕ)) → length input ≤ 1000000 → length text ≤ length input → texts ≡ input_lines text → length texts ≤ 1000001
few_texts input text texts short within is =
    omega (arith, short, within, ap length is, length-slice_split (λ (b : ℕ). b == 10) text, count_by-le-length (λ (b : ℕ). b == 10) text)

-- one byte past the longest input is enough to see that it is too long
ShowsFrames-take : (own : Node) (input lines : List ℕ) (status : ℕ) → ShowsFrames own (take 1000001 input) lines status → ShowsFrames own input lines status
ShowsFrames-take own input lines status writes =
    elim (cases_lt 1000000 (length input)) [
      | inl long ↦
          let a : ltb 1000000 (length input) ≡ true = lt-ltb _ _ long in
          let b : ltb 1000000 (length (take 1000001 input)) ≡ true = lt-ltb _ _ (omega (arith, length-take 1000001 input)) in
          rw a (rw b at writes)
      | inr short ↦ subst (λ (t : List ℕ). ShowsFrames own t lines status) (take_all 1000001 input (omega arith)) writes
    ]

pub frames_written : {F : Type 0} (result : Result ℕ F) (own : Node) (known a b : Option (List ℕ)) (text : List ℕ) → IfSome known (λ input. text ≡ take 1000001 input)
    → IfOk result (λ s. (l : List ℕ) × ShowsFrames own text l s × Appends a b l) → IfOk result (λ s. (input : List ℕ) × IsInput known input × (l : List ℕ) × ShowsFrames own input l s × Appends a b l)
frames_written (Err e) own known a b text read wrote = tt
frames_written (Ok s) own None a b text read wrote = (text, tt, wrote.0, wrote.1, wrote.2)
frames_written (Ok s) own (Some input) a b text read wrote =
    let shows = subst (λ (t : List ℕ). ShowsFrames own t wrote.0 s) read wrote.1 in
    (input, refl, wrote.0, ShowsFrames-take own input wrote.0 s shows, wrote.2)

LeavesFrames-take : (own : Node) (input : List ℕ) (before after : Option (List ℕ)) → LeavesFrames own (take 1000001 input) before after → LeavesFrames own input before after
LeavesFrames-take own input before after leaves =
    elim (cases_lt 1000000 (length input)) [
      | inl long ↦
          let a : ltb 1000000 (length input) ≡ true = lt-ltb _ _ long in
          let b : ltb 1000000 (length (take 1000001 input)) ≡ true = lt-ltb _ _ (omega (arith, length-take 1000001 input)) in
          rw a (rw b at leaves)
      | inr short ↦ subst (λ (t : List ℕ). LeavesFrames own t before after) (take_all 1000001 input (omega arith)) leaves
    ]

pub frames_left : {F : Type 0} (result : Result ℕ F) (own : Node) (known a b : Option (List ℕ)) (text : List ℕ) → IfSome known (λ input. text ≡ take 1000001 input)
    → OnErr result (LeavesFrames own text a b) → OnErr result (AppendsFront a b no_memory_line ⊎ ((input : List ℕ) × IsInput known input × LeavesFrames own input a b))
frames_left (Ok s) own known a b text read left = tt
frames_left (Err e) own None a b text read left = inr (text, tt, left)
frames_left (Err e) own (Some input) a b text read left =
    inr (input, refl, LeavesFrames-take own input a b (subst (λ (t : List ℕ). LeavesFrames own t a b) read left))
