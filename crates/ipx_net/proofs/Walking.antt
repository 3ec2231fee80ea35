-- A walk along a log.
use Rattle.std.proofs.Common.{◌≡◌, ◌<◌, ◌≤◌, ◌+◌, ◌↔◌, ℕ, List, [], ◌∷◌, ◌++◌, length, get_or, drop, refl, sym, ◌∙◌, ap}
use Rattle.std.specs.Prelude.{IsTrue, false, true}
use Rattle.std.proofs.lemmas.List.{drop_all, drop_more}
use Rattle.spx_messages.specs.Message.{MessageView}
use Rattle.spx_theory.specs.Note.{Note}
use Rattle.spx_theory.specs.Handed.{gathered, IsBeginning}
use Rattle.ipx_net.specs.declared.entry.Entry.{Entry}
use Rattle.ipx_net.specs.LogEntries.{entry_note, entry_notes}

-- what the entries from an index on add is what the first of them adds, followed by what the others add
pub here : (f : Note → List MessageView) (log : List Entry) (at : ℕ) (e : Entry) (ms : List MessageView) → at < length log → e ≡ get_or log at e → f (entry_note e) ≡ ms
    → gathered f (entry_notes (drop at log)) ≡ ms ++ gathered f (entry_notes (drop (at + 1) log))
here f log at e ms h is adds =
    ap (λ (es : List Entry). gathered f (entry_notes es)) (drop_more log at e h ∙ ap (λ (x : Entry). x ∷ drop (at + 1) log) (sym is))
    ∙ ap (λ (xs : List MessageView). xs ++ gathered f (entry_notes (drop (at + 1) log))) adds

pub none_left : (P : Type 0) (a b : List MessageView) (x : MessageView) (xs : List MessageView) → (P ↔ IsBeginning a b) → a ≡ x ∷ xs → b ≡ [] → P → ⊥
none_left P a b x xs same front empty p = let w = rw (front, empty) at (same.0 p) in let e = w.1 in cc

pub another : (P : Type 0) (a b : List MessageView) (x y : MessageView) (xs ys : List MessageView) → (P ↔ IsBeginning a b) → a ≡ x ∷ xs → b ≡ y ∷ ys → (x ≡ y → ⊥) → P → ⊥
another P a b x y xs ys same front back differ p = let w = rw (front, back) at (same.0 p) in let e = w.1 in differ cc

pub one_more : (P : Type 0) (a b : List MessageView) (x y : MessageView) (xs ys : List MessageView) → (P ↔ IsBeginning a b) → a ≡ x ∷ xs → b ≡ y ∷ ys → x ≡ y → P ↔ IsBeginning xs ys
one_more P a b x y xs ys same front back alike = (
  λ p. let w = rw (front, back) at (same.0 p) in let e = w.1 in (w.0, cc),
  λ q. same.1 (rw (front, back) (q.0, let e = q.1 in cc)),
)

pub refuse : (P : Type 0) → (P → ⊥) → IsTrue false ↔ P
refuse P never = (λ h. cc, λ p. absurd (never p))

-- after the last entry, everything that was handed out was compared with what was handed in
pub all_held : (P : Type 0) (log : List Entry) (at : ℕ) (f : Note → List MessageView) (ys : List MessageView) → length log ≤ at → (P ↔ IsBeginning (gathered f (entry_notes (drop at log))) ys) → IsTrue true ↔ P
all_held P log at f ys past same =
    let none : gathered f (entry_notes (drop at log)) ≡ [] = ap (λ (es : List Entry). gathered f (entry_notes es)) (drop_all at log past) in
    (λ _. same.1 (ys, ap (λ (xs : List MessageView). xs ++ ys) none), λ _. refl)
