-- which addresses of stations a text writes, and what a text of a value is
use Rattle.std.proofs.Common.{◌≡◌, ℕ, List, [], ◌∷◌, Option, Some, None, false, refl, sym, ◌∙◌, ap, subst}
use Rattle.std.proofs.lemmas.Option.{same_Some}
use Rattle.std.specs.Prelude.{MatchOption}
use Rattle.toml.specs.Data.{Data, as_str}
use Rattle.ipx_wire.specs.AddressText.{spelled_node}
use Rattle.ipx_wire.specs.declared.address.Node.{Node}
use Rattle.ipx_config.specs.EthernetValues.{WritesStation, is_station, with_colons}

-- the digits without the colons
abbrev without_colons : List ℕ → List ℕ
without_colons [] = []
without_colons (a ∷ []) = a ∷ []
without_colons (a ∷ b ∷ []) = a ∷ b ∷ []
without_colons (a ∷ b ∷ colon ∷ rest) = a ∷ b ∷ without_colons rest

back : (digits : List ℕ) → without_colons (with_colons digits) ≡ digits
back [] = refl
back (a ∷ []) = refl
back (a ∷ b ∷ []) = refl
back (a ∷ b ∷ c ∷ digits) = ap (λ ds. a ∷ b ∷ ds) (back (c ∷ digits))

-- digits are those of a text
pub digits_once : (text a b : List ℕ) → text ≡ with_colons a → text ≡ with_colons b → a ≡ b
digits_once text a b one other =
    sym (back a) ∙ ap without_colons (sym one ∙ other) ∙ back b

-- what the digits of a text spell is what it writes
pub station_once : (text digits : List ℕ) (node : Node) → text ≡ with_colons digits → spelled_node digits ≡ Some node
    → (n : Node) → WritesStation text n → n ≡ node
station_once text digits node is spelled n (others, are, spell, one) =
    let same : others ≡ digits = digits_once text others digits are is in
    same_Some n node (sym spell ∙ ap spelled_node same ∙ spelled)

-- if the address can be no station's, it gives none
pub no_station : (text digits : List ℕ) (node : Node) → text ≡ with_colons digits → spelled_node digits ≡ Some node
    → is_station node ≡ false → (n : Node) → WritesStation text n → ⊥
no_station text digits node is spelled none n writes =
    let same : n ≡ node = station_once text digits node is spelled n writes in
    let no : is_station n ≡ false = subst (λ (it : Node). is_station it ≡ false) (sym same) none in
    let yes = writes.3 in
    absurd (cc)

-- what a text writes is what the value means whose text it is
pub text_reads : {A : Type 0} (Writes : List ℕ → A → Type 0) (d : Data) (text : List ℕ) → as_str d ≡ Some text
    → (r : Option A) → MatchOption r ((a : A) → Writes text a → ⊥) (Writes text)
    → MatchOption r ((a : A) → ((t : List ℕ) × (as_str d ≡ Some t) × Writes t a) → ⊥) (λ a. (t : List ℕ) × (as_str d ≡ Some t) × Writes t a)
text_reads Writes d text is None none = λ a (t, is', writes).
    none a (subst (λ (it : List ℕ). Writes it a) (same_Some t text (sym is' ∙ is)) writes)
text_reads Writes d text is (Some a) writes = (text, is, writes)
