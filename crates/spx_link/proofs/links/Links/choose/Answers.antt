use Rattle.std.proofs.Common.{ap, ◌∙◌}
use Rattle.spx_link.specs.Poll as P
use Rattle.spx_link.specs.Sound.{own_of}
use Rattle.spx_link.proofs.Apart.{sound_set}
use Rattle.spx_link.proofs.Calls.{changed_by_id, polled_by_id, within_after}
use Rattle.spx_link.proofs.Keeping.{poll_keeps}
use Rattle.spx_link.proofs.links.Links.choose.Goals as goal

pub invariant_of-self : goal.invariant_of-self
invariant_of-self c =
    sound_set c.self.inside.last c.self.inside.links.items c.place_of-place.result c.index_mut.result.now c.choose-chosen.new.self c.index_mut.ensures.value (ap own_of c.choose-chosen.ensures.leaves ∙ (poll_keeps c.index_mut.result.now c.args.now).same.ends.own) c.self.invariant

pub returns-clause-gives : goal.returns-clause-gives
returns-clause-gives c =
    polled_by_id c.args.self.now c.self.inside.last c.self.inside.links.items c.deref.result.now c.args.id c.place_of-place.result c.index_mut.result.now c.choose-chosen.new.self c.args.now c.choose-chosen.result c.self.view_is c.deref.ensures.value c.place_of-place.ensures.place c.index_mut.ensures.value c.choose-chosen.ensures.gives

pub returns-clause-leaves : goal.returns-clause-leaves
returns-clause-leaves c =
    changed_by_id c.args.self.now c.self.inside.last c.self.inside.links.items c.deref.result.now c.args.id c.place_of-place.result c.index_mut.result.now c.choose-chosen.new.self (λ l. (P.poll_link l c.args.now).1) c.self.view_is c.deref.ensures.value c.place_of-place.ensures.place c.index_mut.ensures.value c.choose-chosen.ensures.leaves (poll_keeps c.index_mut.result.now c.args.now).same.ends.own

pub returns-clause-within : goal.returns-clause-within
returns-clause-within c =
    within_after c.self.inside.links.items c.deref.result.now c.place_of-place.result c.choose-chosen.new.self c.deref.ensures.value c.place_of-place.ensures.within
