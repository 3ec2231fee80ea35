-- The lines of ports, each with its number.
use Rattle.std.proofs.Common.{◌≡◌, ◌∙◌, ◌<◌, ◌+◌, ℕ, List, [], ◌∷◌, ◌++◌, String, ap, arith, get_or, length, map, sym, take}
use Rattle.std.proofs.lemmas.List.{length-take-le, map-append, take_more}
use Rattle.std.specs.Global.{Global}
use Rattle.std.specs.Prelude.{string_bytes}
use Rattle.ipx_config.specs.Checked.{port_text, port_texts}
use Rattle.ipx_config.specs.declared.site.PortConfig.{PortConfig}

-- the number of one more port's line follows those of the others
texts_after : (n : ℕ) (xs : List PortConfig) (p : PortConfig) → port_texts n (xs ++ p ∷ []) ≡ port_texts n xs ++ port_text (length xs + n) p ∷ []
texts_after n [] p =
    let e : n ≡ 0 + n = omega arith in
    ap (λ k. port_text k p ∷ []) e
texts_after n (x ∷ xs) p =
    ap (λ ts. port_text n x ∷ ts)
    (texts_after (n + 1) xs p ∙ ap (λ k. port_texts (n + 1) xs ++ port_text k p ∷ []) (omega (arith)))

pub one_more_text : (ports : List PortConfig) (i : ℕ) (p : PortConfig) (ys zs : List (String Global)) (y : String Global) → i < length ports → p ≡ get_or ports i p
    → map string_bytes ys ≡ port_texts 1 (take i ports) → zs ≡ ys ++ y ∷ [] → string_bytes y ≡ port_text (i + 1) p → map string_bytes zs ≡ port_texts 1 (take (i + 1) ports)
one_more_text ports i p ys zs y there is h e k =
    ap (map string_bytes) e ∙ map-append string_bytes ys (y ∷ []) ∙ ap (λ ts. ts ++ string_bytes y ∷ []) h
    ∙ ap (λ t. port_texts 1 (take i ports) ++ t ∷ []) (k ∙ ap (λ n. port_text (n + 1) p) (sym (length-take-le i ports (omega (arith, there)))))
    ∙ sym (texts_after 1 (take i ports) p)
    ∙ ap (port_texts 1) (ap (λ x. take i ports ++ x ∷ []) is ∙ sym (take_more ports i p there))
