use Rattle.std.proofs.Common.{List, ℕ, string_bytes}
use Rattle.ipx_inspect.specs.Show.{Shows}
use Rattle.ipx_ethernet.specs.Frame.{frame_view}
use Rattle.ipx_inspect.specs.FrameLine.{frame_line}
use Rattle.ipx_inspect.proofs.Shown.{head_left, head_written, heard_left, heard_written, on_err}
use Rattle.ipx_inspect.proofs.heard.show_heard.Goals as goal

pub returns-in_err-write_lines-clause-left : goal.returns-in_err-write_lines-clause-left
returns-in_err-write_lines-clause-left g c =
    let a = g.W.Write.contents c.args.writer.now in
    let b = g.W.Write.contents c.write_lines.new.writer in
    let line = frame_line c.args.encapsulation (frame_view c.args.frame.now) in
    on_err c.from_residual.result _ (head_left c.frame_lines.result (λ l. string_bytes l.0) a b line (λ (packet : List ℕ). (s : ℕ) × Shows c.args.frame.now.packet.now packet s) c.frame_lines.ensures c.in_err-write_lines.ensures.left)

pub returns-clause-written : goal.returns-clause-written
returns-clause-written g c =
    let a = g.W.Write.contents c.args.writer.now in
    let m = g.W.Write.contents c.write_lines.new.writer in
    let b = g.W.Write.contents c.show_packet.new.writer in
    let line = frame_line c.args.encapsulation (frame_view c.args.frame.now) in
    let head = head_written c.frame_lines.result (λ l. string_bytes l.0) (λ l. l.1) _ a m line c.frame_lines.ensures c.in_ok-write_lines.ensures.written in
    heard_written c.show_packet.result (Shows c.args.frame.now.packet.now) a m b line head c.show_packet.ensures.written

pub returns-clause-left : goal.returns-clause-left
returns-clause-left g c =
    let a = g.W.Write.contents c.args.writer.now in
    let m = g.W.Write.contents c.write_lines.new.writer in
    let b = g.W.Write.contents c.show_packet.new.writer in
    let line = frame_line c.args.encapsulation (frame_view c.args.frame.now) in
    let head = head_written c.frame_lines.result (λ l. string_bytes l.0) (λ l. l.1) _ a m line c.frame_lines.ensures c.in_ok-write_lines.ensures.written in
    heard_left c.show_packet.result (λ (packet : List ℕ). (s : ℕ) × Shows c.args.frame.now.packet.now packet s) a m b line head c.show_packet.ensures.left
