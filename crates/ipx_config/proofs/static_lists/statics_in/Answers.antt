use Rattle.std.proofs.Common.{◌∙◌, ◌++◌, ap}
use Rattle.toml.specs.View.{table_view}
use Rattle.ipx_config.proofs.StaticEntries.{statics_there}
use Rattle.ipx_config.proofs.static_lists.statics_in.Goals as goal

pub returns-in-Ok-clause-there : goal.returns-in-Ok-clause-there
returns-in-Ok-clause-there c =
    statics_there c.args.ports.now (table_view c.args.table.now) c.extend_from_slice.new.self.items (
      c.in_ok-entries.entries.items,
      c.in_ok-services.services.items,
      c.in-Ok.ensures.items ∙ ap (λ l. c.in_ok-entries.entries.items ++ l) c.deref.ensures.value,
      c.in_ok-entries.ensures.entries,
      c.in_ok-services.ensures.entries,
    )
