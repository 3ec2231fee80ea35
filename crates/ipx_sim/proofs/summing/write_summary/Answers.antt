use Rattle.std.proofs.Common.{map, string_bytes}
use Rattle.ipx_sim.proofs.Ends.{summarized}
use Rattle.ipx_sim.proofs.summing.write_summary.Goals as goal

pub returns : goal.returns
returns g c =
    summarized c.write_fresh.result c.args.net.now (map string_bytes c.args.names.now) c.fresh.result (g.W.Write.contents c.args.writer.now) (g.W.Write.contents c.write_ends.new.writer) (g.W.Write.contents c.write_fresh.new.writer)
    c.in_ok-write_ends.ensures c.fresh.ensures.fresh c.write_fresh.ensures
