use Rattle.std.proofs.Common.{ap, arith, sym, ◌∙◌}
use Rattle.std.specs.Option.{option_map}
use Rattle.toml.specs.View.{array_view, view}
use Rattle.ipx_config.proofs.WireEnds.{is_not_one}
use Rattle.ipx_config.proofs.ethernet_values.is_any.Goals as goal

pub returns-else-len-eq1-clause-other : goal.returns-else-len-eq1-clause-other
returns-else-len-eq1-clause-other c = λ false.
    is_not_one (view c.args.value.now) c.in-Some.values.now.items (sym c.as_array.ensures ∙ ap (option_map (λ v. array_view v.now)) c.in-Some.is)
    (λ one. omega (arith, one))
