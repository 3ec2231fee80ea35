use Rattle.std.proofs.Common.{List, ℕ, subst}
use Rattle.std.specs.Prelude.{IfOk, OnErr}
use Rattle.std.specs.Io.KnownBytes.{Appends}
use Rattle.ipx_inspect.specs.ShownFrame.{LeavesFrames, ShowsFrames}
use Rattle.ipx_inspect.proofs.Texts.{frames_left, frames_written}
use Rattle.ipx_inspect.proofs.show_frames.do_show_frames.Goals as goal

pub returns-clause-written : goal.returns-clause-written
returns-clause-written g c =
    let a = g.W.Write.contents c.args.writer.now in
    let b = g.W.Write.contents c.show_input.new.writer in
    let wrote = subst (λ (t : List ℕ). IfOk c.show_input.result (λ s. (l : List ℕ) × ShowsFrames c.args.own t l s × Appends a b l)) c.deref.ensures.value c.show_input.ensures.written in
    frames_written c.show_input.result c.args.own (g.R.Read.remaining c.args.reader.now) a b c.in-Ok.input.items c.in-Ok.ensures wrote

pub returns-clause-left : goal.returns-clause-left
returns-clause-left g c =
    let a = g.W.Write.contents c.args.writer.now in
    let b = g.W.Write.contents c.show_input.new.writer in
    let left = subst (λ (t : List ℕ). OnErr c.show_input.result (LeavesFrames c.args.own t a b)) c.deref.ensures.value c.show_input.ensures.left in
    frames_left c.show_input.result c.args.own (g.R.Read.remaining c.args.reader.now) a b c.in-Ok.input.items c.in-Ok.ensures left
