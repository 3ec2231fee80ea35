-- The ends of a host by their ids: what is found, and what remains after an id is removed.
use Rattle.std.proofs.Common.{◌≡◌, ◌≢◌, ℕ, List, [], ◌∷◌, Bool, true, false, not, cond, ◌==◌, refl, ap, sym, ◌∙◌, Option, None, Some, filter, find, arith}
use Rattle.std.specs.Prelude.{option_map}
use Rattle.std.proofs.lemmas.Bool.Decides.{nat_tests, Decides-eqb}
use Rattle.spx_theory.specs.World.{end_at}

abbrev pub has : ℕ → (ℕ × ℕ) → Bool
has id x = x.0 == id

abbrev pub number : (ℕ × ℕ) → ℕ
number x = x.1

abbrev pub without : ℕ → List (ℕ × ℕ) → List (ℕ × ℕ)
without id xs = filter (λ x. not (x.0 == id)) xs

found_step : (b : Bool) (x : ℕ × ℕ) (o : Option ℕ) (p : Option (ℕ × ℕ)) → o ≡ option_map number p → cond b (Some x.1) o ≡ option_map number (cond b (Some x) p)
found_step true x o p e = refl
found_step false x o p e = e

pub end_found : (here : List (ℕ × ℕ)) (id : ℕ) → end_at here id ≡ option_map number (find (has id) here)
end_found [] id = refl
end_found (x ∷ xs) id = found_step (x.0 == id) x (end_at xs id) (find (has id) xs) (end_found xs id)

eq_from : (a b : ℕ) → (a == b) ≡ true → a ≡ b
eq_from a b e = (Decides-eqb a b).0 e

eq_false : (a b : ℕ) → a ≢ b → (a == b) ≡ false
eq_false a b n = grind (arith, nat_tests)

gone_step : (id : ℕ) (x : ℕ × ℕ) (xs : List (ℕ × ℕ)) (b : Bool) → (x.0 == id) ≡ b → end_at (without id xs) id ≡ None → end_at (cond (not b) (x ∷ without id xs) (without id xs)) id ≡ None
gone_step id x xs true e below = below
gone_step id x xs false e below = ap (λ c. cond c (Some x.1) (end_at (without id xs) id)) e ∙ below

pub gone : (id : ℕ) (xs : List (ℕ × ℕ)) → end_at (without id xs) id ≡ None
gone id [] = refl
gone id (x ∷ xs) = gone_step id x xs (x.0 == id) refl (gone id xs)

stays_step : (id q : ℕ) (x : ℕ × ℕ) (xs : List (ℕ × ℕ)) (b : Bool) → q ≢ id → (x.0 == id) ≡ b → end_at (without id xs) q ≡ end_at xs q
    → end_at (cond (not b) (x ∷ without id xs) (without id xs)) q ≡ cond (x.0 == q) (Some x.1) (end_at xs q)
stays_step id q x xs true apart e below =
    below ∙ ap (λ c. cond c (Some x.1) (end_at xs q)) (sym (eq_false x.0 q (λ o. apart (sym o ∙ eq_from x.0 id e))))
stays_step id q x xs false apart e below = ap (cond (x.0 == q) (Some x.1)) below

pub stays : (id q : ℕ) (xs : List (ℕ × ℕ)) → q ≢ id → end_at (without id xs) q ≡ end_at xs q
stays id q [] apart = refl
stays id q (x ∷ xs) apart = stays_step id q x xs (x.0 == id) apart refl (stays id q xs apart)
