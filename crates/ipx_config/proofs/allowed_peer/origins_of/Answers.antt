use Rattle.std.proofs.Common.{arith, List, ap, sym, subst, ◌∙◌}
use Rattle.std.specs.Option.{option_map}
use Rattle.std.specs.Prelude.{IfOk}
use Rattle.toml.specs.View.{array_view, items_view, view}
use Rattle.toml.specs.declared.value.Value.{Value}
use Rattle.ipx_config.specs.AllowedPeers.{ReadsOrigins}
use Rattle.ipx_config.proofs.Naming.{listed, too_many}
use Rattle.ipx_config.proofs.allowed_peer.origins_of.Goals as goal

pub returns-then-len-gt-MAX_ENTRIES : goal.returns-then-len-gt-MAX_ENTRIES
returns-then-len-gt-MAX_ENTRIES c = too_many (view c.args.value.now) c.in-Some.values.now.items (sym c.as_array.ensures ∙ ap (option_map (λ v. array_view v.now)) c.in-Some.is) (omega arith)

pub returns : goal.returns
returns c = listed (view c.args.value.now) c.in-Some.values.now.items (sym c.as_array.ensures ∙ ap (option_map (λ v. array_view v.now)) c.in-Some.is) (omega arith) c.origins_in.result
    (subst (λ (l : List Value). IfOk c.origins_in.result (ReadsOrigins (items_view l))) c.deref.ensures.value c.origins_in.ensures)
