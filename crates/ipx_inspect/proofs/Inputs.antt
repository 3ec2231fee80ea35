-- From what was read of an input to all of it.
use Rattle.std.proofs.Common.{◌≡◌, ℕ, List, length, take, Option, Some, None, arith, refl, inl, inr, true, ltb, lt-ltb, subst, sym, Result, Ok, Err}
use Rattle.std.specs.Prelude.{IfOk, IfSome, IsOkAnd, OnErr}
use Rattle.std.specs.Io.KnownBytes.{Appends}
use Rattle.std.proofs.lemmas.Bool.{cases_lt}
use Rattle.std.proofs.lemmas.List.{take_all, length-take}
use Rattle.ipx_inspect.specs.Output.{LeavesWritten}
use Rattle.ipx_inspect.specs.Text.{IsInput, packet_of_text}
use Rattle.ipx_inspect.specs.Hop.{HopWrites}
use Rattle.ipx_inspect.specs.Check.{CheckWrites}

-- one byte past the longest text is enough to see that a text is too long
packet_of_text-take : (input : List ℕ) → packet_of_text (take 4097 input) ≡ packet_of_text input
packet_of_text-take input =
    elim (cases_lt 4096 (length input)) [
      | inl long ↦
          let a : ltb 4096 (length input) ≡ true = lt-ltb _ _ long in
          let b : ltb 4096 (length (take 4097 input)) ≡ true = lt-ltb _ _ (omega (arith, length-take 4097 input)) in
          rw (a, b) refl
      | inr short ↦ rw (take_all 4097 input (omega arith)) refl
    ]

pub HopWrites-take : (input line : List ℕ) (status : ℕ) → HopWrites (take 4097 input) line status → HopWrites input line status
HopWrites-take input line status writes = rw (← packet_of_text-take input) writes

-- the same for the vectors of an input
pub CheckWrites-take : (input lines : List ℕ) (status : ℕ) → CheckWrites (take 1000001 input) lines status → CheckWrites input lines status
CheckWrites-take input lines status writes =
    elim (cases_lt 1000000 (length input)) [
      | inl long ↦
          let a : ltb 1000000 (length input) ≡ true = lt-ltb _ _ long in
          let b : ltb 1000000 (length (take 1000001 input)) ≡ true = lt-ltb _ _ (omega (arith, length-take 1000001 input)) in
          rw a (rw b at writes)
      | inr short ↦ subst (λ (t : List ℕ). CheckWrites t lines status) (take_all 1000001 input (omega arith)) writes
    ]

-- the output for the front of an input is the output for the input
module _ (Writes : List ℕ → List ℕ → ℕ → Type 0) (most : ℕ) (from_front : (input lines : List ℕ) (status : ℕ) → Writes (take most input) lines status → Writes input lines status) where
  of_input : (known : Option (List ℕ)) (text lines : List ℕ) (status : ℕ) → IfSome known (λ input. text ≡ take most input) → Writes text lines status
      → (input : List ℕ) × IsInput known input × Writes input lines status
  of_input None text lines status read writes = (text, tt, writes)
  of_input (Some input) text lines status read writes =
      (input, refl, from_front input lines status (subst (λ (t : List ℕ). Writes t lines status) read writes))

  pub input_written : {F : Type 0} (result : Result ℕ F) (known a b : Option (List ℕ)) (text : List ℕ) → IfSome known (λ input. text ≡ take most input)
      → IfOk result (λ s. (l : List ℕ) × Writes text l s × Appends a b l) → IfOk result (λ s. (input : List ℕ) × IsInput known input × (l : List ℕ) × Writes input l s × Appends a b l)
  input_written (Err e) known a b text read wrote = tt
  input_written (Ok s) known a b text read wrote =
      let i = of_input known text wrote.0 s read wrote.1 in
      (i.0, i.1, wrote.0, i.2, wrote.2)

  pub input_left : {F : Type 0} (result : Result ℕ F) (known a b : Option (List ℕ)) (text : List ℕ) → IfSome known (λ input. text ≡ take most input)
      → OnErr result (LeavesWritten a b (λ l. (s : ℕ) × Writes text l s)) → OnErr result (LeavesWritten a b (λ l. (input : List ℕ) × IsInput known input × (s : ℕ) × Writes input l s))
  input_left (Ok s) known a b text read left = tt
  input_left (Err e) known a b text read left = elim left [
    | inl none ↦ inl none
    | inr some ↦
        let i = of_input known text some.0 some.1.0 read some.1.1 in
        inr (some.0, (i.0, i.1, some.1.0, i.2), some.2)
  ]

-- from the lines of a command and the result of writing them to what was written
pub lines_written : {L E F : Type 0} (lines : Result L E) (result : Result ℕ F) (text : L → List ℕ) (status : L → ℕ) (Writes : List ℕ → ℕ → Type 0) (a b : Option (List ℕ))
    → IfOk lines (λ l. Writes (text l) (status l)) → IfOk result (λ s. IsOkAnd lines (λ l. (s ≡ status l) × Appends a b (text l)))
    → IfOk result (λ s. (l : List ℕ) × Writes l s × Appends a b l)
lines_written lines (Err e) text status Writes a b made wrote = tt
lines_written (Err e) (Ok s) text status Writes a b made wrote = absurd wrote
lines_written (Ok l) (Ok s) text status Writes a b made wrote = (text l, subst (Writes (text l)) (sym wrote.0) made, wrote.1)
