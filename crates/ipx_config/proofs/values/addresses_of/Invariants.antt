use Rattle.std.proofs.Common.{ℕ, List, ◌++◌, drop}
use Rattle.toml.specs.View.{items_view}
use Rattle.ipx_config.specs.Values.{AreAddresses}
use Rattle.ipx_config.proofs.values.addresses_of.Given as goal

-- the remaining values join those read so far; if all can be read, so can the remaining ones
abbrev pub invariant-loop-value : goal.invariant-loop-value
invariant-loop-value l =
    ((rest : List (List ℕ)) → AreAddresses (items_view (drop l.value-index l.values)) rest
    → AreAddresses (items_view l.values) (l.ips.items ++ rest))
    × ((ips : List (List ℕ)) → AreAddresses (items_view l.values) ips
    → (rest : List (List ℕ)) × AreAddresses (items_view (drop l.value-index l.values)) rest)
