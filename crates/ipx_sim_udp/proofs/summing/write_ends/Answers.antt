use Rattle.std.proofs.Common.{map, string_bytes}
use Rattle.ipx_sim_udp.proofs.Telling.{written_more}
use Rattle.ipx_sim_udp.proofs.summing.write_ends.Goals as goal

pub loop-who-preserved : goal.loop-who-preserved
loop-who-preserved g c =
    written_more c.args.site.now (map string_bytes c.args.names.now) c.ends-ends.result.now c.loop-who.who _ c.info_of.result (g.W.Write.contents c.args.writer.now) (g.W.Write.contents c.loop-who.writer)
    (g.W.Write.contents c.write_end.new.writer) c.loop-who-test.true c.info_of.ensures c.loop-who.invariant c.in_ok-write_end.ensures
