use Rattle.std.proofs.Common.{map, string_bytes, take}
use Rattle.std.specs.Io.KnownBytes.{Appends}
use Rattle.ipx_sim_udp.specs.Ending.{end_lines}
use Rattle.ipx_sim_udp.proofs.summing.write_ends.Given as goal

abbrev pub invariant-loop-who : goal.invariant-loop-who
invariant-loop-who g l = Appends (g.W.Write.contents l.fn.writer) (g.W.Write.contents l.writer) (end_lines l.site (map string_bytes l.names) 0 (take l.who l.ends))
