use Rattle.std.proofs.Common.{List, arith, ap, sym, subst, ◌∙◌}
use Rattle.std.specs.Option.{option_map}
use Rattle.std.specs.Prelude.{IfOk}
use Rattle.toml.specs.View.{array_view, items_view, view}
use Rattle.toml.specs.declared.value.Value.{Value}
use Rattle.ipx_config.specs.Values.{ReadsAddresses}
use Rattle.ipx_config.proofs.Circles.{listed, too_many}
use Rattle.ipx_config.proofs.neighbours.neighbours_of.Goals as goal

pub returns-then-len-gt-MAX_ENTRIES : goal.returns-then-len-gt-MAX_ENTRIES
returns-then-len-gt-MAX_ENTRIES c = too_many (view c.args.value.now) c.in-Some.values.now.items (sym c.as_array.ensures ∙ ap (option_map (λ v. array_view v.now)) c.in-Some.is) (omega arith)

pub returns : goal.returns
returns c = listed (view c.args.value.now) c.in-Some.values.now.items (sym c.as_array.ensures ∙ ap (option_map (λ v. array_view v.now)) c.in-Some.is) (omega arith) c.addresses_of.result
    (subst (λ (l : List Value). IfOk c.addresses_of.result (ReadsAddresses (items_view l))) c.deref.ensures.value c.addresses_of.ensures)
