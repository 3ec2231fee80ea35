use Rattle.std.proofs.Common.{◌≡◌, [], drop}
use Rattle.ipx_config.specs.StaticLists.{named_sources}
use Rattle.ipx_site.proofs.static_neighbours.sources_of.Given as goal

-- the sources so far, with those of the remaining entries
abbrev pub invariant-loop-entry : goal.invariant-loop-entry
invariant-loop-entry l =
    named_sources l.sources.items (drop l.entry-index l.entries) ≡ named_sources [] l.entries
