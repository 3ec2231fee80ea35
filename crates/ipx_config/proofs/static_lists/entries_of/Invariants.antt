use Rattle.std.proofs.Common.{List, [], ◌++◌, drop}
use Rattle.toml.specs.View.{items_view}
use Rattle.ipx_config.specs.declared.fault.ConfigError.{ConfigError}
use Rattle.ipx_config.specs.declared.statics.StaticEntry.{StaticEntry}
use Rattle.ipx_config.specs.StaticLists.{AreStaticEntries, IsFirstEntryFault}
use Rattle.ipx_config.proofs.static_lists.entries_of.Given as goal

-- what is left to read joins what was read, and a fault of what is left is one of the whole
abbrev pub invariant-loop-value : goal.invariant-loop-value
invariant-loop-value l =
    ((rest : List StaticEntry) → AreStaticEntries l.kind l.ports l.entries.items (items_view (drop l.value-index l.values)) rest
    → AreStaticEntries l.kind l.ports [] (items_view l.values) (l.entries.items ++ rest))
    × ((f : ConfigError) → IsFirstEntryFault l.kind l.ports l.entries.items (items_view (drop l.value-index l.values)) f
    → IsFirstEntryFault l.kind l.ports [] (items_view l.values) f)
