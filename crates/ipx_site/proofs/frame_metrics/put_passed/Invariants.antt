use Rattle.std.proofs.Common.{◌≡◌, ◌++◌, codes, string_bytes, take}
use Rattle.std.specs.List.{flat_map}
use Rattle.ipx_site.specs.MetricsText.{at_port, sample_line}
use Rattle.ipx_site.proofs.frame_metrics.put_passed.Given as goal

-- the lines of the first ports follow
abbrev pub invariant-loop-port : goal.invariant-loop-port
invariant-loop-port l =
    string_bytes l.text ≡ string_bytes l.initial.text ++ flat_map (λ p. sample_line (codes "ipx_frames_forwarded_total") (at_port p.number p.passed)) (take l.port-index l.ports)
