use Rattle.std.proofs.Common.{ℕ, sym, subst}
use Rattle.spx_link.specs.Queues.{IsSearched}
use Rattle.spx_link.proofs.Searching.{sent_searched}
use Rattle.spx_link.proofs.queue.Queue.mark_sent.Goals as goal

pub invariant_of-self : goal.invariant_of-self
invariant_of-self c =
    let f = c.self.inside in
    let P : ℕ → Type 0 = λ n. IsSearched c.stamp.new.self f.searched n in
    subst P (sym c.min-self-inside.ensures) (sent_searched f.units c.stamp.new.self c.args.self.now f.searched f.since c.args.place c.args.now c.args.count c.self.invariant c.self.view_is c.requires c.stamp.ensures)
