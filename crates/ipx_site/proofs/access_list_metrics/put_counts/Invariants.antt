use Rattle.std.proofs.Common.{◌≡◌, ◌++◌, option_map, string_bytes, take}
use Rattle.std.specs.List.{enumerate_from, flat_map}
use Rattle.ipx_site.specs.MetricsText.{sample_line}
use Rattle.ipx_site.specs.AccessListMetrics.{access_list_count, at_port_if, drops_at_port_index}
use Rattle.ipx_site.proofs.access_list_metrics.put_counts.Given as goal

-- the lines of the first ports follow
abbrev pub invariant-loop-place : goal.invariant-loop-place
invariant-loop-place l =
    string_bytes l.text ≡ string_bytes l.fn.text ++ flat_map (λ p. flat_map (sample_line l.family.name.now) (at_port_if p.0 (option_map (access_list_count l.count) (drops_at_port_index l.kept p.1)))) (enumerate_from 1 (take l.place l.port_indices))
