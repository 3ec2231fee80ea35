-- Lists that grow with the ports that they are of.
use Rattle.std.proofs.Common.{◌≡◌, ◌∙◌, ℕ, ◌+◌, ◌<◌, List, [], ◌∷◌, ◌++◌, length, map, take, get_or, sym, ap}
use Rattle.std.proofs.lemmas.List.{length-map, map-append, take_more}

module _ {A B C : Type 0} (f : A → C) (g : B → C) (xs : List A) (i : ℕ) where
  -- one more follows them
  pub one_more_mapped : (x : A) (ys zs : List B) (y : B) → i < length xs → x ≡ get_or xs i x
      → map g ys ≡ map f (take i xs) → zs ≡ ys ++ y ∷ [] → g y ≡ f x → map g zs ≡ map f (take (i + 1) xs)
  one_more_mapped x ys zs y there is h e k =
      ap (map g) e ∙ map-append g ys (y ∷ []) ∙ ap (λ cs. cs ++ g y ∷ []) h ∙ ap (λ c. map f (take i xs) ++ c ∷ []) k
      ∙ sym (ap (map f) (take_more xs i x there) ∙ map-append f (take i xs) (get_or xs i x ∷ []) ∙ ap (λ a. map f (take i xs) ++ f a ∷ []) (sym is))

-- as many are mapped to the same
pub same_length : {A B C : Type 0} (f : A → C) (g : B → C) (xs : List A) (ys : List B) → map f xs ≡ map g ys
    → length xs ≡ length ys
same_length f g xs ys e = sym (length-map xs f) ∙ ap length e ∙ length-map ys g
