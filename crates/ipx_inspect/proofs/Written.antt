-- What was written, one part after another.
use Rattle.std.proofs.Common.{◌≡◌, ℕ, ◌+◌, ◌-◌, List, [], ◌++◌, length, take, drop, length-drop, Option, Some, None, Result, Ok, Err, refl, sym, ap, ◌∙◌, subst, arith, append_assoc, append-nil, take-append-drop, inl, inr}
use lib.Seq.{take-add}
use Rattle.std.proofs.lemmas.List.{take_all}
use Rattle.std.specs.Prelude.{IfOk, IsOkAnd, OnErr, OnOk, ◌⊎◌}
use Rattle.std.specs.Io.KnownBytes.{Appends, Keeps}
use Rattle.ipx_inspect.specs.Output.{AppendsFront, LeavesWritten, no_memory_line}

pub appends_none : (a : Option (List ℕ)) → Appends a a []
appends_none None = tt
appends_none (Some x) = sym (append-nil x)

pub appends_on : (a b c : Option (List ℕ)) (bs cs : List ℕ) → Appends a b bs → Appends b c cs → Appends a c (bs ++ cs)
appends_on None b c bs cs p q = tt
appends_on (Some x) None c bs cs p q = absurd p
appends_on (Some x) (Some y) None bs cs p q = absurd q
appends_on (Some x) (Some y) (Some z) bs cs p q = q ∙ ap (λ l. l ++ cs) p ∙ append_assoc x bs cs

pub appends_kept : (a b c : Option (List ℕ)) (bs : List ℕ) → Appends a b bs → Keeps b c → Appends a c bs
appends_kept None b c bs p q = tt
appends_kept (Some x) None c bs p q = absurd p
appends_kept (Some x) (Some y) None bs p q = absurd q
appends_kept (Some x) (Some y) (Some z) bs p q = q ∙ p

-- ---- bytes, written part by part

-- what follows from a position on, as a slice has it
pub whole_rest : (done : ℕ) (bytes : List ℕ) → take (length bytes - done) (drop done bytes) ≡ drop done bytes
whole_rest done bytes = take_all (length bytes - done) (drop done bytes) (omega (arith, length-drop done bytes))

pub writes_on : (a b c : Option (List ℕ)) (bytes : List ℕ) (done count : ℕ) → Appends a b (take done bytes) → Appends b c (take count (take (length bytes - done) (drop done bytes))) → Appends a c (take (done + count) bytes)
writes_on a b c bytes done count first next =
    let rest = subst (λ (xs : List ℕ). Appends b c (take count xs)) (whole_rest done bytes) next in
    subst (Appends a c) (sym (take-add done count bytes)) (appends_on a b c (take done bytes) (take count (drop done bytes)) first rest)

pub front_written : (a b : Option (List ℕ)) (bytes : List ℕ) (done : ℕ) → Appends a b (take done bytes) → AppendsFront a b bytes
front_written a b bytes done h = (take done bytes, drop done bytes, sym (take-append-drop done bytes), h)

pub none_written : (a : Option (List ℕ)) (bytes : List ℕ) → AppendsFront a a bytes
none_written a bytes = ([], bytes, refl, appends_none a)

-- whether or not they all were
pub some_written : {T E : Type 0} (r : Result T E) (a b : Option (List ℕ)) (bytes : List ℕ) → OnOk r (Appends a b bytes) → OnErr r (AppendsFront a b bytes) → AppendsFront a b bytes
some_written (Ok x) a b bytes all front = (bytes, [], sym (append-nil bytes), all)
some_written (Err e) a b bytes all front = front

-- ---- what an error leaves

-- of the lines that a command makes
pub lines_left : {L E F : Type 0} (lines : Result L E) (result : Result ℕ F) (text : L → List ℕ) (status : L → ℕ) (Writes : List ℕ → ℕ → Type 0) (a b : Option (List ℕ))
    → IfOk lines (λ l. Writes (text l) (status l)) → OnErr result (AppendsFront a b no_memory_line ⊎ IsOkAnd lines (λ l. AppendsFront a b (text l)))
    → OnErr result (LeavesWritten a b (λ l. (s : ℕ) × Writes l s))
lines_left lines (Ok s) text status Writes a b made left = tt
lines_left (Err e) (Err f) text status Writes a b made left = elim left [ inl none ↦ inl none | inr some ↦ absurd some ]
lines_left (Ok l) (Err f) text status Writes a b made left = elim left [ inl none ↦ inl none | inr some ↦ inr (text l, (status l, made), some) ]
