-- The output for one frame, one part after another.
use Rattle.std.proofs.Common.{◌≡◌, ℕ, List, ◌++◌, Option, Some, None, Result, Ok, Err, refl, sym, ap, ◌∙◌, subst, append_assoc, inl, inr}
use Rattle.std.specs.Prelude.{IfOk, IsOkAnd, OnErr, ◌⊎◌}
use Rattle.std.specs.Io.KnownBytes.{Appends}
use Rattle.std.proofs.KnownBytes.{Appends-trans}
use Rattle.std.specs.Result.{result_ok}
use Rattle.hex.specs.Hex.{IsBytes, decode_of, encode_lower}
use Rattle.hex.proofs.HexLemmas.{decode_of-encode_lower}
use Rattle.ipx_wire.specs.declared.address.Node.{Node}
use Rattle.ipx_inspect.specs.Output.{AppendsFront, LeavesWritten, no_memory_line}
use Rattle.ipx_inspect.specs.Show.{Shows, ShowWrites}
use Rattle.ipx_inspect.specs.ShownFrame.{IsShown, LeavesAfter, LeavesFrame, LeavesShown, ShownFrame, ShowsFrame, bad_text_line}

pub on_err : {T E : Type 0} (r : Result T E) (P : Type 0) → P → OnErr r P
on_err (Ok x) P p = tt
on_err (Err e) P p = p

-- ---- a packet, by its text in hex

shows_of_text : (bytes text : List ℕ) → IsBytes bytes → text ≡ encode_lower bytes → (lines : List ℕ) (status : ℕ) → ShowWrites text lines status → Shows bytes lines status
shows_of_text bytes text fits is lines status writes =
    let back : decode_of text ≡ Ok bytes = rw is (decode_of-encode_lower bytes fits) in
    rw back at writes

pub packet_written : {F : Type 0} (result : Result ℕ F) (bytes text : List ℕ) (a b : Option (List ℕ)) → IsBytes bytes → text ≡ encode_lower bytes
    → IfOk result (λ s. (l : List ℕ) × ShowWrites text l s × Appends a b l) → IfOk result (λ s. (l : List ℕ) × Shows bytes l s × Appends a b l)
packet_written (Err e) bytes text a b fits is wrote = tt
packet_written (Ok s) bytes text a b fits is wrote = (wrote.0, shows_of_text bytes text fits is wrote.0 s wrote.1, wrote.2)

pub packet_left : {F : Type 0} (result : Result ℕ F) (bytes text : List ℕ) (a b : Option (List ℕ)) → IsBytes bytes → text ≡ encode_lower bytes
    → OnErr result (LeavesWritten a b (λ l. (s : ℕ) × ShowWrites text l s)) → OnErr result (LeavesWritten a b (λ l. (s : ℕ) × Shows bytes l s))
packet_left (Ok s) bytes text a b fits is left = tt
packet_left (Err e) bytes text a b fits is left = elim left [
  | inl none ↦ inl none
  | inr some ↦ inr (some.0, (some.1.0, shows_of_text bytes text fits is some.0 some.1.0 some.1.1), some.2)
]

-- ---- the frame's line, and the packet's lines after it

pub head_written : {L E : Type 0} (lines : Result L E) (text : L → List ℕ) (status : L → ℕ) (s : ℕ) (a b : Option (List ℕ)) (head : List ℕ) → IfOk lines (λ l. text l ≡ head)
    → IsOkAnd lines (λ l. (s ≡ status l) × Appends a b (text l)) → Appends a b head
head_written (Err e) text status s a b head made wrote = absurd wrote
head_written (Ok l) text status s a b head made wrote = subst (Appends a b) made wrote.1

longer_front : (a b : Option (List ℕ)) (whole more : List ℕ) → AppendsFront a b whole → AppendsFront a b (whole ++ more)
longer_front a b whole more (front, rest, is, wrote) = (front, rest ++ more, ap (λ (t : List ℕ). t ++ more) is ∙ append_assoc front rest more, wrote)

front_after : (a m b : Option (List ℕ)) (head whole : List ℕ) → Appends a m head → AppendsFront m b whole → AppendsFront a b (head ++ whole)
front_after a m b head whole first (front, rest, is, wrote) =
    (head ++ front, rest, ap (λ (t : List ℕ). head ++ t) is ∙ sym (append_assoc head front rest), Appends-trans a m b head front first wrote)

pub head_left : {L E : Type 0} (lines : Result L E) (text : L → List ℕ) (a b : Option (List ℕ)) (head : List ℕ) (IsMore : List ℕ → Type 0) → IfOk lines (λ l. text l ≡ head)
    → AppendsFront a b no_memory_line ⊎ IsOkAnd lines (λ l. AppendsFront a b (text l)) → LeavesAfter a b head IsMore
head_left (Err e) text a b head IsMore made left = elim left [ inl none ↦ inl none | inr some ↦ absurd some ]
head_left (Ok l) text a b head IsMore made left = elim left [
  | inl none ↦ inl none
  | inr some ↦ inr (inl (longer_front a b head no_memory_line (subst (AppendsFront a b) made some)))
]

pub heard_written : {F : Type 0} (result : Result ℕ F) (Writes : List ℕ → ℕ → Type 0) (a m b : Option (List ℕ)) (head : List ℕ) → Appends a m head
    → IfOk result (λ s. (l : List ℕ) × Writes l s × Appends m b l) → IfOk result (λ s. (l : List ℕ) × Writes l s × Appends a b (head ++ l))
heard_written (Err e) Writes a m b head first wrote = tt
heard_written (Ok s) Writes a m b head first wrote = (wrote.0, wrote.1, Appends-trans a m b head wrote.0 first wrote.2)

pub heard_left : {F : Type 0} (result : Result ℕ F) (IsMore : List ℕ → Type 0) (a m b : Option (List ℕ)) (head : List ℕ) → Appends a m head
    → OnErr result (LeavesWritten m b IsMore) → OnErr result (LeavesAfter a b head IsMore)
heard_left (Ok s) IsMore a m b head first left = tt
heard_left (Err e) IsMore a m b head first left = elim left [
  | inl none ↦ inr (inl (front_after a m b head no_memory_line first none))
  | inr some ↦ inr (inr (some.0, some.1, front_after a m b head some.0 first some.2))
]

-- ---- a line of input

pub text_written : {F : Type 0} (result : Result ℕ F) (own : Node) (place : ℕ) (text bytes : List ℕ) (a b : Option (List ℕ)) → result_ok (decode_of text) ≡ Some bytes
    → IfOk result (λ s. (l : List ℕ) × ShowsFrame own bytes l s × Appends a b l)
    → IfOk result (λ s. (shown : ShownFrame) × IsShown own (place, text) shown × (s ≡ shown.status) × Appends a b shown.lines)
text_written (Err e) own place text bytes a b known wrote = tt
text_written (Ok s) own place text bytes a b known wrote =
    (record { lines = wrote.0; status = s }, rw known wrote.1, refl, wrote.2)

pub text_left : {F : Type 0} (result : Result ℕ F) (own : Node) (place : ℕ) (text bytes : List ℕ) (a b : Option (List ℕ)) → result_ok (decode_of text) ≡ Some bytes
    → OnErr result (LeavesFrame own bytes a b) → OnErr result (LeavesShown own (place, text) a b)
text_left (Ok s) own place text bytes a b known left = tt
text_left (Err e) own place text bytes a b known left = inr (rw known left)

pub no_text_written : {L E F : Type 0} (lines : Result L E) (result : Result ℕ F) (words : L → List ℕ) (status : L → ℕ) (own : Node) (place : ℕ) (text : List ℕ) (a b : Option (List ℕ)) → result_ok (decode_of text) ≡ None
    → IfOk lines (λ l. (words l ≡ bad_text_line place) × (status l ≡ 2)) → IfOk result (λ s. IsOkAnd lines (λ l. (s ≡ status l) × Appends a b (words l)))
    → IfOk result (λ s. (shown : ShownFrame) × IsShown own (place, text) shown × (s ≡ shown.status) × Appends a b shown.lines)
no_text_written lines (Err e) words status own place text a b known made wrote = tt
no_text_written (Err e) (Ok s) words status own place text a b known made wrote = absurd wrote
no_text_written (Ok l) (Ok s) words status own place text a b known made wrote =
    (record { lines = words l; status = status l }, rw known made, wrote.0, wrote.1)
