use Rattle.std.proofs.Common.{◌≡◌, ◌∙◌, Some, None, ap, sym, string_bytes}
use Rattle.std.specs.Option.{option_map}
use Rattle.std.specs.Result.{result_ok}
use Rattle.hex.specs.Hex.{decode_of}
use Rattle.ipx_inspect.proofs.Shown.{no_text_written, text_left, text_written}
use Rattle.ipx_inspect.proofs.show_frames.show_line.Goals as goal

pub returns-in-Ok-Some-clause-written : goal.returns-in-Ok-Some-clause-written
returns-in-Ok-Some-clause-written g c =
    let known : result_ok (decode_of c.args.line.now) ≡ Some c.deref.result.now =
    sym c.in-Ok-Some.ensures ∙ ap (option_map (λ v. v.items)) c.in-Ok-Some.field-0-is ∙ ap Some (sym c.deref.ensures.value) in
    text_written c.show_frame.result c.args.own c.args.place c.args.line.now c.deref.result.now (g.W.Write.contents c.args.writer.now) (g.W.Write.contents c.show_frame.new.writer) known c.show_frame.ensures.written

pub returns-in-Ok-Some-clause-left : goal.returns-in-Ok-Some-clause-left
returns-in-Ok-Some-clause-left g c =
    let known : result_ok (decode_of c.args.line.now) ≡ Some c.deref.result.now =
    sym c.in-Ok-Some.ensures ∙ ap (option_map (λ v. v.items)) c.in-Ok-Some.field-0-is ∙ ap Some (sym c.deref.ensures.value) in
    text_left c.show_frame.result c.args.own c.args.place c.args.line.now c.deref.result.now (g.W.Write.contents c.args.writer.now) (g.W.Write.contents c.show_frame.new.writer) known c.show_frame.ensures.left

pub returns-in-Ok-None-clause-written : goal.returns-in-Ok-None-clause-written
returns-in-Ok-None-clause-written g c =
    let none : result_ok (decode_of c.args.line.now) ≡ None = sym c.in-Ok-None.ensures ∙ ap (option_map (λ v. v.items)) c.in-Ok-None.field-0-is in
    no_text_written c.bad_line.result c.write_lines.result (λ l. string_bytes l.0) (λ l. l.1) c.args.own c.args.place c.args.line.now (g.W.Write.contents c.args.writer.now) (g.W.Write.contents c.write_lines.new.writer) none c.bad_line.ensures c.write_lines.ensures.written
