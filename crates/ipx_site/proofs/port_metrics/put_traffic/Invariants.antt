use Rattle.std.proofs.Common.{◌≡◌, ◌++◌, string_bytes, take}
use Rattle.std.specs.List.{enumerate_from, flat_map, zip}
use Rattle.ipx_site.specs.MetricsText.{sample_line}
use Rattle.ipx_site.specs.PortFamilies.{count_of, port_sample}
use Rattle.ipx_site.proofs.port_metrics.put_traffic.Given as goal

-- the lines of the first ports follow
abbrev pub invariant-loop-place : goal.invariant-loop-place
invariant-loop-place l =
    string_bytes l.text ≡ string_bytes l.initial.text ++ flat_map (λ p. sample_line l.family.name.now (port_sample p.0 p.1.0 (count_of l.passed p.1.1))) (enumerate_from 1 (zip l.ports (take l.place l.counters)))
