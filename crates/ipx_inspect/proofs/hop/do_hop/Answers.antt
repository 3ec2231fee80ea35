use Rattle.std.proofs.Common.{subst, List, ℕ, inl, string_bytes}
use Rattle.std.specs.Prelude.{IfOk}
use Rattle.ipx_inspect.specs.Output.{no_memory_line}
use Rattle.ipx_inspect.specs.Hop.{HopWrites}
use Rattle.ipx_inspect.proofs.Inputs.{HopWrites-take, input_left, input_written, lines_written}
use Rattle.ipx_inspect.proofs.Written.{lines_left, none_written}
use Rattle.ipx_inspect.proofs.hop.do_hop.Goals as goal

pub returns-clause-written : goal.returns-clause-written
returns-clause-written g c =
    let text = c.in-Ok.text.items in
    let known = g.R.Read.remaining c.args.reader.now in
    let a = g.W.Write.contents c.args.writer.now in
    let b = g.W.Write.contents c.write_lines.new.writer in
    let lines = subst (λ (t : List ℕ). IfOk c.line_for_text.result (λ l. HopWrites t (string_bytes l.0) l.1)) c.deref.ensures.value c.line_for_text.ensures in
    let wrote = lines_written c.line_for_text.result c.write_lines.result (λ l. string_bytes l.0) (λ l. l.1) (HopWrites text) a b lines c.write_lines.ensures.written in
    input_written HopWrites 4097 HopWrites-take c.write_lines.result known a b text c.in-Ok.ensures wrote

pub returns-clause-left : goal.returns-clause-left
returns-clause-left g c =
    let text = c.in-Ok.text.items in
    let known = g.R.Read.remaining c.args.reader.now in
    let a = g.W.Write.contents c.args.writer.now in
    let b = g.W.Write.contents c.write_lines.new.writer in
    let lines = subst (λ (t : List ℕ). IfOk c.line_for_text.result (λ l. HopWrites t (string_bytes l.0) l.1)) c.deref.ensures.value c.line_for_text.ensures in
    let left = lines_left c.line_for_text.result c.write_lines.result (λ l. string_bytes l.0) (λ l. l.1) (HopWrites text) a b lines c.write_lines.ensures.left in
    input_left HopWrites 4097 HopWrites-take c.write_lines.result known a b text c.in-Ok.ensures left
