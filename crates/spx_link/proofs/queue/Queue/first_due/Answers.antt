use Rattle.std.proofs.Common.{◌≡◌, ◌≤◌, List, ap, sym, subst, ◌∙◌, length, min, position, take, arith}
use Rattle.spx_link.specs.LinkView.{due}
use Rattle.spx_link.specs.declared.queue.Queued.{Queued}
use Rattle.spx_link.proofs.Searching.{found_searched, none_found, one_found}
use Rattle.spx_link.proofs.queue.Queue.first_due.Goals as goal
use Rattle.spx_link.proofs.queue.Queue.first_due.Goals.{then-found-end, else-found-end}

pub invariant_of-self : goal.invariant_of-self
invariant_of-self c =
    let units = c.self.inside.units in
    let many : c.len.result ≡ length units = omega arith in
    let at : c.min-end.result ≡ min c.args.sent (length units) = c.min-end.ensures ∙ ap (min c.args.sent) many in
    let within : c.min-end.result ≤ length units = omega (arith, at) in
    found_searched units c.min-end.result c.args.now c.search-found.result.place c.search-found.result.since within c.search-found.ensures.came

pub returns-clause-place : goal.returns-clause-place
returns-clause-place c =
    let units = c.self.inside.units in
    let many : c.len.result ≡ length units = omega arith in
    let at : c.min-end.result ≡ min c.args.sent (length units) = c.min-end.ensures ∙ ap (min c.args.sent) many in
    let found = c.search-found.result in
    let P : List Queued → Type 0 = λ qs. c.if-found-end.result ≡ position (λ (q : Queued). due q.at c.args.now) (take c.args.sent qs) in
    subst P c.self.view_is (elim c.if-found-end.branch [
      | then-found-end w ↦ w.result-is ∙ sym (one_found units c.args.sent c.min-end.result c.args.now found.place found.since at c.search-found.ensures.came w.if-found-end.true (c.search-found.ensures.stops w.if-found-end.true))
      | else-found-end w ↦ w.result-is ∙ sym (none_found units c.args.sent c.min-end.result c.args.now found.place found.since at c.search-found.ensures.came w.if-found-end.false)
    ])
