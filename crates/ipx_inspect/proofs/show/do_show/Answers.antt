use Rattle.std.proofs.Common.{string_bytes}
use Rattle.ipx_inspect.specs.Show.{ShowWrites}
use Rattle.ipx_inspect.proofs.Inputs.{lines_written}
use Rattle.ipx_inspect.proofs.Written.{lines_left}
use Rattle.ipx_inspect.proofs.show.do_show.Goals as goal

pub returns-clause-written : goal.returns-clause-written
returns-clause-written g c =
    lines_written c.lines_for_text.result c.write_lines.result (λ l. string_bytes l.0) (λ l. l.1) (ShowWrites c.args.text.now) (g.W.Write.contents c.args.writer.now) (g.W.Write.contents c.write_lines.new.writer)
    c.lines_for_text.ensures c.write_lines.ensures.written

pub returns-clause-left : goal.returns-clause-left
returns-clause-left g c =
    lines_left c.lines_for_text.result c.write_lines.result (λ l. string_bytes l.0) (λ l. l.1) (ShowWrites c.args.text.now) (g.W.Write.contents c.args.writer.now) (g.W.Write.contents c.write_lines.new.writer)
    c.lines_for_text.ensures c.write_lines.ensures.left
