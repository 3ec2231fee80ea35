-- What is held under an id that a call found, and what is at a position of a list.
use Rattle.std.proofs.Common.{◌≡◌, ◌∙◌, ◌<◌, ℕ, List, length, get_or, set, Option, Some, None, Result, Ok, Err, refl, subst, ap}
use Rattle.std.specs.Prelude.{◌↔◌, IfSome, slice_get}
use Rattle.std.proofs.lemmas.List.{set-get_or}
use Rattle.std.proofs.lemmas.Option.{slice_get_read}
use Rattle.spx_messages.specs.EndpointView.{Held}

went : {T E : Type 0} → Result T E → Type 0
went (Ok x) = Unit {0}
went (Err e) = ⊥

-- a call that succeeded was not refused
pub no_fault : {T E : Type 0} (x : T) (e : E) → ◌≡◌ {A = Result T E} (Ok x) (Err e) → ⊥
unfolding went
no_fault x e same = subst went same tt

-- a call that succeeded found something under its id
pub found : {T E : Type 0} (x : T) (e : E) (P : Held → Type 0) (at : Option Held) → (◌≡◌ {A = Result T E} (Ok x) (Err e) ↔ (at ≡ None)) → IfSome at P
    → (h : Held) × (at ≡ Some h) × P h
found x e P None unknown p = absurd (no_fault x e (unknown.1 refl))
found x e P (Some h) unknown p = (h, refl, p)

-- what was read at a position is there
pub stands : {A : Type 0} (xs : List A) (i : ℕ) (x : A) → i < length xs → x ≡ get_or xs i x → slice_get xs i ≡ Some x
stands xs i x there is = slice_get_read xs (length xs) i x refl there is

pub holds_in : {A : Type 0} (ys xs : List A) (i : ℕ) (x : A) → ys ≡ xs → i < length ys → x ≡ get_or ys i x → slice_get xs i ≡ Some x
holds_in ys xs i x same there is = subst (λ l. slice_get l i ≡ Some x) same (stands ys i x there is)

-- written back as it was read
pub same_again : {A : Type 0} (xs : List A) (i : ℕ) (x : A) → x ≡ get_or xs i x → set xs i x ≡ xs
same_again xs i x is = ap (set xs i) is ∙ set-get_or xs i x
