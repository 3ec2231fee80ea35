-- What lists hold.
use Rattle.std.proofs.Common.{◌≡◌, ◌⊎◌, ℕ, zero, suc, List, [], ◌∷◌, ◌++◌, length, map, set, Some, refl, sym, ◌∙◌, inl, inr, ap, subst, arith}
use Rattle.std.specs.Prelude.{Contains, slice_get}
use Rattle.std.proofs.lemmas.List.Elements.{Contains-append_cases, Contains-append_right}
use Rattle.std.proofs.lemmas.Option.{slice_get-get_or}
use Rattle.theory_processes.proofs.Lists.{contains_none, same_some}

pub contains_here : {A : Type 0} (x : A) (xs : List A) → Contains (x ∷ xs) x
contains_here x xs = (zero, omega arith, refl)

-- the first element, or one of the others
pub contains_cases : {A : Type 0} (y : A) (ys : List A) (x : A) → Contains (y ∷ ys) x → (y ≡ x) ⊎ Contains ys x
contains_cases y ys x is = elim (Contains-append_cases (y ∷ []) ys x is) [
  | inl one ↦ inl (only (y ∷ []) y x refl one)
  | inr more ↦ inr more
]
  where
    at : {A : Type 0} (y x : A) (k : ℕ) → slice_get (y ∷ []) k ≡ Some x → y ≡ x
    at y x zero e = same_some y x e
    at y x (suc k) e = cc

    only : {A : Type 0} (ys : List A) (y x : A) → ys ≡ y ∷ [] → Contains ys x → y ≡ x
    only ys y x same is = at y x is.0 (ap (λ zs. slice_get zs is.0) (sym same) ∙ slice_get-get_or ys is.0 x is.1 ∙ ap Some is.2)

pub contains_map : {A B : Type 0} (f : A → B) (xs : List A) (x : A) → Contains xs x → Contains (map f xs) (f x)
contains_map f [] x is = absurd (contains_none x is)
contains_map f (y ∷ ys) x is = elim (contains_cases y ys x is) [
  | inl here ↦ subst (λ z. Contains (f y ∷ map f ys) (f z)) here (contains_here (f y) (map f ys))
  | inr later ↦ Contains-append_right (f y ∷ []) (map f ys) (f x) (contains_map f ys x later)
]

pub put_past : {A : Type 0} (xs : List A) (y z : A) (ys : List A) → set (xs ++ y ∷ ys) (length xs) z ≡ xs ++ z ∷ ys
put_past [] y z ys = refl
put_past (x ∷ xs) y z ys = ap (λ ws. x ∷ ws) (put_past xs y z ys)
