use Rattle.std.proofs.Common.{ℕ, List, Option, ap, sym, subst, ◌∙◌}
use Rattle.spx_link.specs.Due.{IsNextDueOfAll, soonest}
use Rattle.spx_link.specs.LinkView.{LinkView}
use Rattle.spx_link.specs.Links.{LinksView}
use Rattle.spx_link.proofs.Calls.{view_of}
use Rattle.spx_link.proofs.Sooner.{next_due_of_all}
use Rattle.spx_link.proofs.links.Links.next_due_of_all.Goals as goal

pub returns : goal.returns
returns c =
    let f : List LinkView → Option ℕ = λ ls. soonest ls in
    let s = view_of c.self.inside.last c.self.inside.links.items in
    let P : Option ℕ → Type 0 = λ o. IsNextDueOfAll s o in
    let Q : LinksView → Type 0 = λ v. IsNextDueOfAll v c.soonest.result in
    subst Q c.self.view_is (subst P (sym (c.soonest.ensures ∙ ap f c.deref.ensures.value)) (next_due_of_all s c.self.invariant.apart))
