-- what is found in a table, and what items are left of a list
use Rattle.std.proofs.Common.{String, string_bytes, ◌≡◌, ℕ, List, ◌∷◌, [], map, Option, Some, None, false, ap, ◌∙◌, sym, refl, if◌then◌else◌}
use Rattle.std.specs.Prelude.{MatchOption}
use Rattle.std.specs.Global.{Global}
use Rattle.std.specs.Option.{option_map}
use Rattle.toml.specs.Data.{Data}
use Rattle.toml.specs.View.{members_view}
use Rattle.toml.specs.declared.value.Value.{Value}
use Rattle.ipx_config.specs.declared.key.Key.{Key}
use Rattle.ipx_config.specs.Keys.{first_unknown, is_key}

-- what is found is the datum; if nothing is found there is none
pub found_as : {V : Type 0} (show : V → Data) (o : Option V) (d : Option Data) → option_map show o ≡ d
    → MatchOption o (d ≡ None) (λ v. d ≡ Some (show v))
found_as show None d e = sym e
found_as show (Some v) d e = sym e

-- the first of these names that is no key
abbrev pub first_unknown_name : List Key → List (String Global) → Option (List ℕ)
first_unknown_name keys [] = None
first_unknown_name keys (name ∷ names) =
    if is_key keys (string_bytes name) then first_unknown_name keys names else Some (string_bytes name)

-- the names of a table
pub names_of_table : (keys : List Key) (es : List (String Global × Value))
    → first_unknown keys (members_view es) ≡ first_unknown_name keys (map (λ e. e.0) es)
names_of_table keys [] = refl
names_of_table keys (e ∷ es) = rw (names_of_table keys es) refl

-- the first name, if it is no key
pub first_is_unknown : (keys : List Key) (names rest : List (String Global)) (name : String Global)
    → names ≡ name ∷ rest → is_key keys (string_bytes name) ≡ false
    → first_unknown_name keys names ≡ Some (string_bytes name)
first_is_unknown keys names rest name are unknown = rw (are, unknown) refl

-- the first unknown name of a table is that of the remaining names, if it is that of all names
pub unknown_left : (keys : List Key) (es : List (String Global × Value)) (names all : List (String Global))
    → all ≡ map (λ e. e.0) es → first_unknown_name keys names ≡ first_unknown_name keys all
    → first_unknown keys (members_view es) ≡ first_unknown_name keys names
unknown_left keys es names all are same =
    names_of_table keys es ∙ ap (first_unknown_name keys) (sym are) ∙ sym same
