use Rattle.std.proofs.Common.{◌≡◌, ◌∙◌, ◌<◌, ◌-◌, ◌++◌, ◌∷◌, [], suc, List, length, take, ap, append_assoc, arith, length-append, sym}

-- one more is the next one
pub one_more : {X : Type 0} (xs : List X) (x : X) (rest all : List X) → length xs < 256 → xs ++ take (256 - length xs) (x ∷ rest) ≡ all
    → (xs ++ x ∷ []) ++ take (256 - length (xs ++ x ∷ [])) rest ≡ all
one_more xs x rest all h e =
    let left : 256 - length (xs ++ x ∷ []) ≡ 255 - length xs = omega (arith, length-append xs (x ∷ [])) in
    let here : 256 - length xs ≡ suc (255 - length xs) = omega arith in
    append_assoc xs (x ∷ []) (take (256 - length (xs ++ x ∷ [])) rest) ∙ ap (λ n. xs ++ x ∷ take n rest) left ∙ ap (λ n. xs ++ take n (x ∷ rest)) (sym here) ∙ e
