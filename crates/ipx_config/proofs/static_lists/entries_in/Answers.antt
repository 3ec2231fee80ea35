use Rattle.std.proofs.Common.{◌≡◌, Some, ap, inl, inr, subst}
use Rattle.toml.specs.Data.{get_member}
use Rattle.toml.specs.View.{table_view, view}
use Rattle.ipx_config.specs.declared.fault.ConfigError.TheVariants.{Wrong}
use Rattle.ipx_config.specs.declared.key.Key.{Key}
use Rattle.ipx_config.specs.Keys.{key_text}
use Rattle.ipx_config.proofs.static_lists.entries_in.Goals as goal

pub returns-in_default-entry_values-clause-fault : goal.returns-in_default-entry_values-clause-fault
returns-in_default-entry_values-clause-fault c =
    let there = subst (λ (k : Key). get_member (key_text k) (table_view c.args.table.now) ≡ Some (view c.in-Some.value.now)) c.key.ensures c.in-Some.ensures in
    inr (inl (ap (Wrong 0) c.key-in_default-entry_values.ensures, (view c.in-Some.value.now, there, c.in_default-entry_values.ensures)))
