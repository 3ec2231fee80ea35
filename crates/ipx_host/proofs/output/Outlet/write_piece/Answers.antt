use Rattle.ipx_host.proofs.Written.{writes_piece}
use Rattle.ipx_host.proofs.output.Outlet.write_piece.Goals as goal

pub returns-in-Ok-clause-writes : goal.returns-in-Ok-clause-writes
returns-in-Ok-clause-writes g c =
    writes_piece c.args.self.now.bytes.items c.deref.result.now c.args.self.now.written c.min.result c.in-Ok.count (g.W.Write.contents c.args.writer.now) (g.W.Write.contents c.write.new.self) c.deref.ensures.value c.in-Ok.ensures.bound c.in-Ok.ensures.bytes
