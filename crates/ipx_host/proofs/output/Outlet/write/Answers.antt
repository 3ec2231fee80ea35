use Rattle.ipx_host.specs.HostOutput.{left_of}
use Rattle.std.proofs.Common.{length}
use Rattle.ipx_host.proofs.Written.{writes_less, writes_on, wrote_on}
use Rattle.ipx_host.proofs.output.Outlet.write.Goals as goal

pub returns-in_err-wrote-clause-writes : goal.returns-in_err-wrote-clause-writes
returns-in_err-wrote-clause-writes g c =
    let held = g.W.Write.contents in
    writes_on (left_of c.args.self.now) (left_of c.loop.self) (left_of c.write_piece.new.self) (held c.args.writer.now) (held c.loop.writer) (held c.write_piece.new.writer) c.loop.invariant.writes c.write_piece.ensures.writes

pub loop-preserved : goal.loop-preserved
loop-preserved g c =
    let held = g.W.Write.contents in
    let before = left_of c.args.self.now in
    let now = left_of c.loop.self in
    let after = left_of c.write_piece.new.self in
    let writes = writes_on before now after (held c.args.writer.now) (held c.loop.writer) (held c.write_piece.new.writer) c.loop.invariant.writes c.write_piece.ensures.writes in
    let less = writes_less now after (held c.loop.writer) (held c.write_piece.new.writer) c.write_piece.ensures.writes in
    record {
      writes = writes;
      wrote = wrote_on c.loop.wrote c.in_ok-wrote.field-0 (length before) (length now) (length after) c.loop.invariant.less less c.loop.invariant.wrote c.in_ok-wrote.ensures.wrote;
      less = writes_less before after (held c.args.writer.now) (held c.write_piece.new.writer) writes;
    }
