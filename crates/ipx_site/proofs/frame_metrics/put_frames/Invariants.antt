use Rattle.std.proofs.Common.{◌≡◌, ◌++◌, codes, string_bytes, take}
use Rattle.std.specs.List.{flat_map}
use Rattle.ipx_site.specs.MetricsText.{at_port_by, sample_line}
use Rattle.ipx_site.specs.FrameFamilies.{frame_outcomes}
use Rattle.ipx_site.proofs.frame_metrics.put_frames.Given as goal

-- the lines of the first ports follow
abbrev pub invariant-loop-port : goal.invariant-loop-port
invariant-loop-port l =
    string_bytes l.text ≡ string_bytes l.initial.text ++ flat_map (λ p. flat_map (sample_line (codes "ipx_frames_total")) (at_port_by p.number (codes "outcome") (frame_outcomes p.frames))) (take l.port-index l.ports)
