use Rattle.std.proofs.Common.{ℕ, ◌<◌}
use Rattle.std.specs.Prelude.{slice_index_or}
use Rattle.spx_theory.specs.Peers.{IsRecent}
use Rattle.ipx_net.specs.Sights.{reading_view, scan_of}
use Rattle.ipx_net.specs.declared.reading.Reading.{Reading}
use Rattle.ipx_net.proofs.log_index.LogIndex.are_recent.Given as goal

abbrev pub invariant-loop-reading : goal.invariant-loop-reading
invariant-loop-reading l =
    (k : ℕ) (d : Reading) → k < l.reading-index
    → IsRecent (scan_of l.self) (reading_view (slice_index_or l.self.readings.items k d))
