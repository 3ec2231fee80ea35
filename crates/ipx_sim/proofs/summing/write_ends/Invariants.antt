use Rattle.std.proofs.Common.{ℕ, List, map, string_bytes, take}
use Rattle.std.specs.Io.KnownBytes.{Appends}
use Rattle.ipx_sim.specs.Summary.{AreEndLines}
use Rattle.ipx_sim.proofs.summing.write_ends.Given as goal

abbrev pub invariant-loop-who : goal.invariant-loop-who
invariant-loop-who g l = (lines : List ℕ) × AreEndLines l.net (map string_bytes l.names) 0 (take l.who l.infos) lines × Appends (g.W.Write.contents l.fn.writer) (g.W.Write.contents l.writer) lines
