use Rattle.std.proofs.Common.{ap, ◌∙◌}
use Rattle.spx_link.specs.Offer as O
use Rattle.spx_link.specs.Sound.{own_of}
use Rattle.spx_link.proofs.Apart.{sound_set}
use Rattle.spx_link.proofs.Calls.{changed_by_id}
use Rattle.spx_link.proofs.Keeping.{take_keeps}
use Rattle.spx_link.proofs.links.Links.discard.Goals as goal

pub invariant_of-self : goal.invariant_of-self
invariant_of-self c =
    sound_set c.self.inside.last c.self.inside.links.items c.place_of-place.result c.index_mut.result.now c.discard.new.self c.index_mut.ensures.value (ap own_of c.discard.ensures ∙ (take_keeps c.index_mut.result.now).same.ends.own) c.self.invariant

pub returns : goal.returns
returns c =
    changed_by_id c.args.self.now c.self.inside.last c.self.inside.links.items c.deref.result.now c.args.id c.place_of-place.result c.index_mut.result.now c.discard.new.self (λ l. (O.take_link l).1) c.self.view_is c.deref.ensures.value c.place_of-place.ensures.place c.index_mut.ensures.value c.discard.ensures (take_keeps c.index_mut.result.now).same.ends.own
