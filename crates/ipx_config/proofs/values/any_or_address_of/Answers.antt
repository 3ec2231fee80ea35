-- a value that is not the word any reads as an address does
use Rattle.std.proofs.Common.{◌≡◌, ◌∙◌, List, ℕ, Option, Some, None, codes, inl, inr, rules, sym}
use Rattle.std.proofs.lemmas.Option.{same_Some}
use Rattle.toml.specs.Data.{Data, as_str}
use Rattle.toml.specs.View.{view}
use Rattle.ipx_config.specs.Fields.{Reads}
use Rattle.ipx_config.specs.Values.{IsAnyOrAddress, IsIpAddress}
use Rattle.ipx_config.proofs.values.any_or_address_of.Goals as goal

reads_on : (d : Data) (text : List ℕ) (found : Option (List ℕ)) → as_str d ≡ Some text → (text ≡ codes "any" → ⊥)
    → Reads IsIpAddress d found → Reads IsAnyOrAddress d found
reads_on d text None is other none = λ ip h. elim h [ inl w ↦ other (same_Some text (codes "any") (sym is ∙ w.0)) | inr w ↦ none ip w ]
reads_on d text (Some ip) is other some = inr some

pub returns : goal.returns
returns c =
    let other : c.in_ok-as_str.field-0.now ≡ codes "any" → ⊥ = search rules in
    reads_on (view c.args.value.now) c.in_ok-as_str.field-0.now c.parse_ip_address.result (sym c.in_ok-as_str.ensures) other c.parse_ip_address.ensures
