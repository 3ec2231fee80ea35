use Rattle.std.proofs.Common.{◌≡◌, ◌++◌, string_bytes, take}
use Rattle.std.specs.List.{flat_map}
use Rattle.ipx_site.specs.MetricsText.{sample_line}
use Rattle.ipx_site.specs.NeighbourFamilies.{figure_of, neighbour_sample}
use Rattle.ipx_site.proofs.neighbour_metrics.put_neighbour_metric.Given as goal

-- the lines of the first neighbours follow
abbrev pub invariant-loop-source : goal.invariant-loop-source
invariant-loop-source l =
    string_bytes l.text ≡ string_bytes l.initial.text ++ flat_map (λ n. sample_line l.family.name.now (neighbour_sample n.0 (figure_of l.metric n.1))) (take l.source-index l.advertisers)
