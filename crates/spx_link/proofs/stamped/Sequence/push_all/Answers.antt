use Rattle.std.proofs.Common.{◌≡◌, ℕ, List, ◌++◌, ap, sym, ◌∙◌, length, map, replicate, arith}
use Rattle.spx_link.specs.declared.queue.Queued.{Queued}
use Rattle.spx_link.specs.declared.stamped.Stamp.{Stamp}
use Rattle.spx_link.specs.Sequences.{paired, unsent}
use Rattle.spx_link.proofs.Pairing.{view_more, paired_unsent}
use Rattle.spx_link.proofs.stamped.Sequence.push_all.Goals as goal

pub returns-clause-ok : goal.returns-clause-ok
returns-clause-ok c =
    let us = c.self.inside.units.items in
    let ss = c.self.inside.stamps.items in
    let vs = c.args.units.items in
    let many : c.len-count.result ≡ length vs = omega arith in
    let stamps = c.add_unsent.ensures ∙ ap (λ (xs : List Stamp). xs ++ replicate c.len-count.result unsent) c.reserve.ensures.items ∙ ap (λ (n : ℕ). ss ++ replicate n unsent) many in
    view_more us c.append.new.queue.items vs ss c.add_unsent.new.stamps.items (replicate (length vs) unsent) c.args.self.now c.self.view_is c.self.invariant c.in_ok-append.ensures.ok stamps ∙ ap (λ (qs : List Queued). c.args.self.now ++ qs) (paired_unsent vs)
