use Rattle.std.proofs.Common.{ℕ, ◌≤◌, ◌<◌, List, MatchOption, subst, arith}
use Rattle.std.proofs.lemmas.List.{length-map}
use Rattle.spx_link.specs.Leasts.{IsLeastId, HasGreaterId}
use Rattle.spx_link.specs.LinkView.{LinkView}
use Rattle.spx_link.specs.Links.{LinksView, IsAbove, IsLeast, IsLive, count_of, link_of}
use Rattle.spx_link.specs.Sound.{own_of}
use Rattle.spx_link.proofs.Apart.{live_in_range}
use Rattle.spx_link.proofs.Calls.{view_of}
use Rattle.spx_link.proofs.Lesser.{next_above, some_of}
use Rattle.spx_link.proofs.links.Links.after.Goals as goal

pub returns-clause-next : goal.returns-clause-next
returns-clause-next c =
    let r = c.least_above.result in
    let P : List LinkView → Type 0 = λ ls. IsLeastId (HasGreaterId c.args.id) ls r in
    let Q : LinksView → Type 0 = λ s. MatchOption r ((q : ℕ) → ¬ IsAbove s c.args.id q) (IsLeast (IsAbove s c.args.id)) in
    subst Q c.self.view_is (next_above (view_of c.self.inside.last c.self.inside.links.items) c.args.id r c.self.invariant.apart (subst P c.deref.ensures.value c.least_above.ensures))

pub returns-clause-ids : goal.returns-clause-ids
returns-clause-ids c =
    let P : LinksView → Type 0 = λ s. (q : ℕ) → IsLive s q → (0 < q) × (q < 65535) in
    subst P c.self.view_is (λ q live.
    let l = some_of (link_of c.self.inside.links.items q) live in
    live_in_range c.self.inside.last c.self.inside.links.items q l.0 c.self.invariant l.1)

pub returns-clause-few : goal.returns-clause-few
returns-clause-few c =
    let P : LinksView → Type 0 = λ s. count_of s ≤ 16 in
    subst P c.self.view_is (omega (arith, c.self.invariant.few, length-map c.self.inside.links.items own_of))
