use Rattle.std.proofs.Common.{◌≡◌, ◌++◌, codes, string_bytes, take}
use Rattle.std.specs.List.{enumerate_from, flat_map}
use Rattle.ipx_site.specs.MetricsText.{at_port_by, sample_line}
use Rattle.ipx_site.specs.TotalFamilies.{dropped_outcomes}
use Rattle.ipx_site.proofs.port_metrics.put_dropped.Given as goal

-- the lines of the first ports follow
abbrev pub invariant-loop-place : goal.invariant-loop-place
invariant-loop-place l =
    string_bytes l.text ≡ string_bytes l.initial.text ++ flat_map (λ p. flat_map (sample_line (codes "ipx_port_dropped_total")) (at_port_by p.0 (codes "reason") (dropped_outcomes p.1.outcomes))) (enumerate_from 1 (take l.place l.counters))
