use Rattle.std.proofs.Common.{refl, ap}
use Rattle.spx_link.specs.Offer as O
use Rattle.spx_link.specs.Sound.{own_of}
use Rattle.spx_link.proofs.Apart.{sound_set}
use Rattle.spx_link.proofs.Calls.{changed_by_id}
use Rattle.spx_link.proofs.links.Links.owe_reply.Goals as goal

pub invariant_of-self : goal.invariant_of-self
invariant_of-self c =
    sound_set c.self.inside.last c.self.inside.links.items c.place_of-place.result c.index_mut.result.now c.owe_reply.new.self c.index_mut.ensures.value (ap own_of c.owe_reply.ensures) c.self.invariant

pub returns : goal.returns
returns c =
    changed_by_id c.args.self.now c.self.inside.last c.self.inside.links.items c.deref.result.now c.args.id c.place_of-place.result c.index_mut.result.now c.owe_reply.new.self O.owe_reply_link c.self.view_is c.deref.ensures.value c.place_of-place.ensures.place c.index_mut.ensures.value c.owe_reply.ensures refl
