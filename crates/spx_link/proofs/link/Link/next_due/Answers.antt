use Rattle.std.proofs.Common.{ℕ, Option, subst, sym}
use Rattle.spx_link.specs.Due.{IsNextDue}
use Rattle.spx_link.proofs.Waiting.{next_due}
use Rattle.spx_link.proofs.link.Link.next_due.Goals as goal

pub returns : goal.returns
returns c =
    let P : Option ℕ → Type 0 = λ o. IsNextDue c.args.self.now o in
    subst P (sym c.due.ensures) (next_due c.args.self.now)
