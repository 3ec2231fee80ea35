use Rattle.std.proofs.Common.{refl, map, string_bytes}
use Rattle.ipx_sim.proofs.Ends.{written_more}
use Rattle.ipx_sim.proofs.summing.write_ends.Goals as goal

pub loop-who-preserved : goal.loop-who-preserved
loop-who-preserved g c =
    written_more c.args.net.now (map string_bytes c.args.names.now) c.ends-infos.result.now c.loop-who.who _ _ c.begins_of.result (g.W.Write.contents c.args.writer.now) (g.W.Write.contents c.loop-who.writer)
    (g.W.Write.contents c.write_end.new.writer) c.loop-who-test.true refl c.loop-who.invariant c.begins_of.ensures c.in_ok-write_end.ensures
