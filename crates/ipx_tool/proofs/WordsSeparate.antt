-- Words that differ, and the words of a list, place by place.
use Rattle.std.proofs.Common.{◌≡◌, ℕ, true≢false, List, [], ◌∷◌, ◌++◌, length, get_or, Some, option_map, Result, Ok, Err, codes, arith, ap, sym, subst, refl, ◌∙◌}
use Rattle.std.specs.Str.Pattern.{FindsTextPrefix, StripsPrefix}
use Rattle.std.specs.Result.{result_ok}
use Rattle.hex.specs.Hex.{decode_sized}
use Rattle.hex.proofs.HexLemmas.{decode_sized-ok}
use Rattle.ipx_wire.specs.AddressText.{spelled_node}
use Rattle.ipx_wire.specs.declared.address.Node.{Node}
use Rattle.ipx_tool.specs.Words.{IsPlain, WritesNumber}

-- what begins with `-` is an option
pub not_plain : (word rest : List ℕ) → word ≡ 45 ∷ rest → IsPlain word → ⊥
not_plain word rest e plain = let of_dash : IsPlain (45 ∷ rest) = subst IsPlain e plain in true≢false of_dash

pub port_or_once : codes "--port" ≡ codes "--once" → ⊥
port_or_once e = omega (arith, ap (λ (word : List ℕ). get_or word 2 0) e)

pub port_or_check : codes "--port" ≡ codes "--check" → ⊥
port_or_check e = omega (arith, ap (λ (word : List ℕ). get_or word 2 0) e)

pub once_or_check : codes "--once" ≡ codes "--check" → ⊥
once_or_check e = omega (arith, ap (λ (word : List ℕ). get_or word 2 0) e)

pub port_or_frame : codes "--port" ≡ codes "--frame" → ⊥
port_or_frame e = omega (arith, ap (λ (word : List ℕ). get_or word 2 0) e)

pub once_or_frame : codes "--once" ≡ codes "--frame" → ⊥
once_or_frame e = omega (arith, ap (λ (word : List ℕ). get_or word 2 0) e)

pub check_or_frame : codes "--check" ≡ codes "--frame" → ⊥
check_or_frame e = omega (arith, ap (λ (word : List ℕ). get_or word 2 0) e)

pub port_or_json : codes "--port" ≡ codes "--json" → ⊥
port_or_json e = omega (arith, ap (λ (word : List ℕ). get_or word 2 0) e)

pub once_or_json : codes "--once" ≡ codes "--json" → ⊥
once_or_json e = omega (arith, ap (λ (word : List ℕ). get_or word 2 0) e)

pub check_or_json : codes "--check" ≡ codes "--json" → ⊥
check_or_json e = omega (arith, ap (λ (word : List ℕ). get_or word 2 0) e)

pub frame_or_json : codes "--frame" ≡ codes "--json" → ⊥
frame_or_json e = omega (arith, ap (λ (word : List ℕ). get_or word 2 0) e)

-- the first of some words, and those after it
pub first : {words same : List (List ℕ)} → words ≡ same → get_or words 0 [] ≡ get_or same 0 []
first e = ap (λ (ws : List (List ℕ)). get_or ws 0 []) e

pub second : {words same : List (List ℕ)} → words ≡ same → get_or words 1 [] ≡ get_or same 1 []
second e = ap (λ (ws : List (List ℕ)). get_or ws 1 []) e

pub third : {words same : List (List ℕ)} → words ≡ same → get_or words 2 [] ≡ get_or same 2 []
third e = ap (λ (ws : List (List ℕ)). get_or ws 2 []) e

pub fourth : {words same : List (List ℕ)} → words ≡ same → get_or words 3 [] ≡ get_or same 3 []
fourth e = ap (λ (ws : List (List ℕ)). get_or ws 3 []) e

pub fifth : {words same : List (List ℕ)} → words ≡ same → get_or words 4 [] ≡ get_or same 4 []
fifth e = ap (λ (ws : List (List ℕ)). get_or ws 4 []) e

-- what is left of a word without its front
pub stripped : (front word rest : List ℕ) → StripsPrefix (FindsTextPrefix front) word rest → word ≡ front ++ rest
stripped front word rest strips = strips.1.1 ∙ ap (λ end. front ++ end) (sym strips.2)

-- a node is spelled by twelve signs
found_ok : {A B E : Type 0} (f : A → B) (r : Result A E) (b : B) → option_map f (result_ok r) ≡ Some b → (a : A) × (r ≡ Ok a)
found_ok f (Ok a) b e = (a, refl)
found_ok f (Err x) b e = absurd (cc)

spelled_length : (text : List ℕ) (node : Node) → spelled_node text ≡ Some node → length text ≡ 12
spelled_length text node is =
    let r = found_ok _ (decode_sized text 6) node is in
    omega (arith, decode_sized-ok text 6 r.0 r.1)

pub not_once_node : (text : List ℕ) (node : Node) → codes "--once" ≡ text → spelled_node text ≡ Some node → ⊥
not_once_node text node e is = omega (arith, ap length e, spelled_length text node is)

pub not_check_node : (text : List ℕ) (node : Node) → codes "--check" ≡ text → spelled_node text ≡ Some node → ⊥
not_check_node text node e is = omega (arith, ap length e, spelled_length text node is)

-- no port is written `--once`
pub not_once : (port : ℕ) → WritesNumber (codes "--once") port → ⊥
not_once port is = let digit = is.0.1.0 in omega arith

pub not_check : (port : ℕ) → WritesNumber (codes "--check") port → ⊥
not_check port is = let digit = is.0.1.0 in omega arith

pub not_json_node : (text : List ℕ) (node : Node) → codes "--json" ≡ text → spelled_node text ≡ Some node → ⊥
not_json_node text node e is = omega (arith, ap length e, spelled_length text node is)

pub not_json : (port : ℕ) → WritesNumber (codes "--json") port → ⊥
not_json port is = let digit = is.0.1.0 in omega arith
