use Rattle.std.proofs.Common.{arith, List, ap, sym, subst, ◌∙◌}
use Rattle.std.specs.Option.{option_map}
use Rattle.std.specs.Prelude.{IfOk}
use Rattle.toml.specs.View.{array_view, items_view, view}
use Rattle.toml.specs.declared.value.Value.{Value}
use Rattle.ipx_config.specs.EthernetValues.{ReadsEthernetEnds}
use Rattle.ipx_config.proofs.WireEnds.{listed_ends, not_so_many}
use Rattle.ipx_config.proofs.ethernet_values.ends_of.Goals as goal

pub returns-then-count-eq0 : goal.returns-then-count-eq0
returns-then-count-eq0 c = not_so_many c.args.usual (view c.args.value.now) c.in-Some.values.now.items (sym c.as_array.ensures ∙ ap (option_map (λ v. array_view v.now)) c.in-Some.is) (omega arith)

pub returns : goal.returns
returns c = listed_ends c.args.usual (view c.args.value.now) c.in-Some.values.now.items (sym c.as_array.ensures ∙ ap (option_map (λ v. array_view v.now)) c.in-Some.is) (omega arith) (omega arith) c.places_of.result
    (subst (λ (l : List Value). IfOk c.places_of.result (ReadsEthernetEnds c.args.usual (items_view l))) c.deref.ensures.value c.places_of.ensures)
