use Rattle.std.proofs.Common.{refl, ap}
use Rattle.spx_link.specs.LinkView.{LinkView}
use Rattle.spx_link.specs.Offer as O
use Rattle.spx_link.specs.Sound.{own_of}
use Rattle.spx_link.proofs.Apart.{sound_set}
use Rattle.spx_link.proofs.Calls.{changed_by_id}
use Rattle.spx_link.proofs.links.Links.pace.Goals as goal

pub invariant_of-self : goal.invariant_of-self
invariant_of-self c =
    sound_set c.self.inside.last c.self.inside.links.items c.place_of-place.result c.index_mut.result.now c.pace.new.self c.index_mut.ensures.value (ap own_of c.pace.ensures) c.self.invariant

pub returns : goal.returns
returns c =
    changed_by_id c.args.self.now c.self.inside.last c.self.inside.links.items c.deref.result.now c.args.id c.place_of-place.result c.index_mut.result.now c.pace.new.self (λ (l : LinkView). O.pace_link l c.args.window c.args.manual) c.self.view_is c.deref.ensures.value c.place_of-place.ensures.place c.index_mut.ensures.value c.pace.ensures refl
