use Rattle.std.proofs.Common.{◌∙◌, ◌++◌, List, ℕ, ap, sym, string_bytes}
use Rattle.ipx_router.specs.RouterPackets.{sending_of}
use Rattle.ipx_inspect.specs.Line.{sending_line}
use Rattle.ipx_inspect.proofs.Lines.{lines_more}
use Rattle.ipx_inspect.proofs.line.replies_to_lines.Goals as goal

pub loop-reply-preserved : goal.loop-reply-preserved
loop-reply-preserved c =
    let more = lines_more c.args.replies.now c.loop-reply.reply-index c.reply-item.result c.loop-reply-test.true c.reply-item.is in
    let line = c.deref.ensures ∙ c.in_ok-line.ensures in
    c.in_ok-push_str.ensures.bytes ∙ ap (λ (t : List ℕ). string_bytes c.loop-reply.lines ++ t) line ∙ ap (λ (t : List ℕ). t ++ sending_line (sending_of c.reply-item.result)) c.loop-reply.invariant ∙ sym more
