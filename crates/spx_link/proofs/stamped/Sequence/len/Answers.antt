use Rattle.std.proofs.Common.{◌≡◌, List, ap, sym, ◌∙◌, length, arith}
use Rattle.spx_link.specs.declared.queue.Queued.{Queued}
use Rattle.spx_link.proofs.Pairing.{length_paired}
use Rattle.spx_link.proofs.stamped.Sequence.len.Goals as goal

pub returns : goal.returns
returns c =
    let us = c.self.inside.units.items in
    let same : c.len.result ≡ length us = omega arith in
    same ∙ sym (length_paired us c.self.inside.stamps.items c.self.invariant) ∙ ap (λ (qs : List Queued). length qs) c.self.view_is
