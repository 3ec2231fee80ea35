use Rattle.std.proofs.Common.{ap, sym, ◌∙◌, length}
use Rattle.circular_buffer.specs.Buffer.{buffer}
use Rattle.spx_link.specs.Receive.{put}
use Rattle.spx_link.specs.Units.{unit_in}
use Rattle.spx_link.proofs.Gaps.{put_after}
use Rattle.spx_link.proofs.buffers.put_packet.Goals as goal

pub returns-then-place-len : goal.returns-then-place-len
returns-then-place-len c =
    let items = c.args.ring.now.items in
    let u = unit_in c.args.header.now c.args.body.now in
    let at = c.if-place-len.true ∙ c.len.ensures.len in
    c.push_packet.ensures
    ∙ ap (λ xs. buffer xs c.args.ring.now.capacity) (sym (put_after u items) ∙ ap (λ n. put n u items) (sym at))
