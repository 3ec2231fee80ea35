use Rattle.std.proofs.Common.{ℕ, List, MatchOption, subst}
use Rattle.spx_link.specs.Leasts.{IsLeastId, IsFrom}
use Rattle.spx_link.specs.LinkView.{LinkView}
use Rattle.spx_link.specs.Links.{LinksView, IsAcceptedFrom, IsLeast}
use Rattle.spx_link.proofs.Calls.{view_of}
use Rattle.spx_link.proofs.Lesser.{first_accepted}
use Rattle.spx_link.proofs.links.Links.accepted.Goals as goal

pub returns : goal.returns
returns c =
    let r = c.least_accepted.result in
    let P : List LinkView → Type 0 = λ ls. IsLeastId (IsFrom c.args.from c.args.peer_id) ls r in
    let Q : LinksView → Type 0 = λ s. MatchOption r ((q : ℕ) → ¬ IsAcceptedFrom s c.args.from c.args.peer_id q) (IsLeast (IsAcceptedFrom s c.args.from c.args.peer_id)) in
    subst Q c.self.view_is (first_accepted (view_of c.self.inside.last c.self.inside.links.items) c.args.from c.args.peer_id r c.self.invariant.apart (subst P c.deref.ensures.value c.least_accepted.ensures))
