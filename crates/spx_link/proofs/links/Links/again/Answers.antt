use Rattle.std.proofs.Common.{refl, ap}
use Rattle.spx_link.specs.LinkView.{LinkView}
use Rattle.spx_link.specs.Offer as O
use Rattle.spx_link.specs.Sound.{own_of}
use Rattle.spx_link.proofs.Apart.{sound_set}
use Rattle.spx_link.proofs.Calls.{changed_by_id}
use Rattle.spx_link.proofs.links.Links.again.Goals as goal

pub invariant_of-self : goal.invariant_of-self
invariant_of-self c =
    sound_set c.self.inside.last c.self.inside.links.items c.place_of-at.result c.index_mut.result.now c.again.new.self c.index_mut.ensures.value (ap own_of c.again.ensures) c.self.invariant

pub returns : goal.returns
returns c =
    changed_by_id c.args.self.now c.self.inside.last c.self.inside.links.items c.deref.result.now c.args.id c.place_of-at.result c.index_mut.result.now c.again.new.self (λ (l : LinkView). O.again_link l c.args.place) c.self.view_is c.deref.ensures.value c.place_of-at.ensures.place c.index_mut.ensures.value c.again.ensures refl
