use Rattle.std.proofs.Common.{subst, List, ℕ, inl, string_bytes}
use Rattle.std.specs.Prelude.{IfOk}
use Rattle.ipx_inspect.specs.Output.{no_memory_line}
use Rattle.ipx_inspect.specs.Check.{CheckWrites}
use Rattle.ipx_inspect.proofs.Inputs.{CheckWrites-take, input_left, input_written, lines_written}
use Rattle.ipx_inspect.proofs.Written.{lines_left, none_written}
use Rattle.ipx_inspect.proofs.check.do_check.Goals as goal

pub returns-clause-written : goal.returns-clause-written
returns-clause-written g c =
    let text = c.in-Ok.input.items in
    let known = g.R.Read.remaining c.args.reader.now in
    let a = g.W.Write.contents c.args.writer.now in
    let b = g.W.Write.contents c.write_lines.new.writer in
    let lines = subst (λ (t : List ℕ). IfOk c.lines_for_input.result (λ l. CheckWrites t (string_bytes l.0) l.1)) c.deref.ensures.value c.lines_for_input.ensures in
    let wrote = lines_written c.lines_for_input.result c.write_lines.result (λ l. string_bytes l.0) (λ l. l.1) (CheckWrites text) a b lines c.write_lines.ensures.written in
    input_written CheckWrites 1000001 CheckWrites-take c.write_lines.result known a b text c.in-Ok.ensures wrote

pub returns-clause-left : goal.returns-clause-left
returns-clause-left g c =
    let text = c.in-Ok.input.items in
    let known = g.R.Read.remaining c.args.reader.now in
    let a = g.W.Write.contents c.args.writer.now in
    let b = g.W.Write.contents c.write_lines.new.writer in
    let lines = subst (λ (t : List ℕ). IfOk c.lines_for_input.result (λ l. CheckWrites t (string_bytes l.0) l.1)) c.deref.ensures.value c.lines_for_input.ensures in
    let left = lines_left c.lines_for_input.result c.write_lines.result (λ l. string_bytes l.0) (λ l. l.1) (CheckWrites text) a b lines c.write_lines.ensures.left in
    input_left CheckWrites 1000001 CheckWrites-take c.write_lines.result known a b text c.in-Ok.ensures left
