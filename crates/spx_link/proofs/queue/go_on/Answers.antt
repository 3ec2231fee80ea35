use Rattle.std.proofs.Common.{◌≡◌, ℕ, sym, subst, ◌∙◌, false}
use Rattle.spx_link.specs.LinkView.{due}
use Rattle.spx_link.specs.Queues.{IsFound}
use Rattle.spx_link.proofs.Searching.{goes_on}
use Rattle.spx_link.proofs.queue.go_on.Goals as goal

pub returns : goal.returns
returns c =
    let units = c.args.units.now in
    let early : due c.args.since c.args.now ≡ false = sym c.due.ensures ∙ c.if-due.false in
    let P : ℕ → Type 0 = λ n. IsFound units c.args.end c.args.now n c.args.since in
    subst P (sym c.min.ensures) (goes_on units c.args.searched c.args.since c.args.end c.args.now c.requires early)
