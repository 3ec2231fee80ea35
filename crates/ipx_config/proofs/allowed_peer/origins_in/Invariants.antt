use Rattle.std.proofs.Common.{List, ◌++◌, drop}
use Rattle.toml.specs.View.{items_view}
use Rattle.ipx_config.specs.AllowedPeers.{IsOrigin}
use Rattle.ipx_config.specs.Values.{AreEach}
use Rattle.ipx_config.specs.declared.allowed_peer.AllowedPeer.{AllowedPeer}
use Rattle.ipx_config.proofs.allowed_peer.origins_in.Given as goal

-- the remaining values join those read so far; if all can be read, so can the remaining ones
abbrev pub invariant-loop-value : goal.invariant-loop-value
invariant-loop-value l =
    ((rest : List AllowedPeer) → AreEach IsOrigin (items_view (drop l.value-index l.values)) rest
    → AreEach IsOrigin (items_view l.values) (l.origins.items ++ rest))
    × ((all : List AllowedPeer) → AreEach IsOrigin (items_view l.values) all
    → (rest : List AllowedPeer) × AreEach IsOrigin (items_view (drop l.value-index l.values)) rest)
