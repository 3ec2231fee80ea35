use Rattle.std.proofs.Common.{ℕ, ◌-◌, ap, sym, subst, ◌∙◌}
use Rattle.spx_link.specs.Queues.{IsSearched}
use Rattle.spx_link.proofs.Searching.{drop_searched}
use Rattle.spx_link.proofs.queue.Queue.drop_first.Goals as goal

pub invariant_of-self : goal.invariant_of-self
invariant_of-self c =
    let f = c.self.inside in
    let P : ℕ → Type 0 = λ n. IsSearched c.drop_first.new.self n f.since in
    subst P (sym (c.saturating_sub-self-inside.ensures ∙ ap (λ (n : ℕ). f.searched - n) c.from.ensures)) (drop_searched f.units c.drop_first.new.self f.searched f.since c.args.count c.self.invariant c.drop_first.ensures)
