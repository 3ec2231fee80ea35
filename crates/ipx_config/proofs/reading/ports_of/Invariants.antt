use Rattle.std.proofs.Common.{◌≡◌, ◌+◌, List, [], ◌++◌, drop}
use Rattle.std.specs.Prelude.{vec_len}
use Rattle.toml.specs.View.{items_view}
use Rattle.ipx_config.specs.declared.fault.ConfigError.{ConfigError}
use Rattle.ipx_config.specs.declared.site.PortConfig.{PortConfig}
use Rattle.ipx_config.specs.Site.{ArePorts, IsFirstFault}
use Rattle.ipx_config.proofs.reading.ports_of.Given as goal

-- what is left to read joins what was read, and a fault of what is left is one of the whole
abbrev pub invariant-loop-value : goal.invariant-loop-value
invariant-loop-value l =
    (vec_len l.ports ≡ l.value-index)
    × ((rest : List PortConfig) → ArePorts l.ports.items (items_view (drop l.value-index l.values)) rest
    → ArePorts [] (items_view l.values) (l.ports.items ++ rest))
    × ((f : ConfigError) → IsFirstFault l.ports.items (l.value-index + 1) (items_view (drop l.value-index l.values)) f
    → IsFirstFault [] 1 (items_view l.values) f)
