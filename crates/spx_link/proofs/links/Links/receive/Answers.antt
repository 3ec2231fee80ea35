use Rattle.std.proofs.Common.{◌≡◌, ap, ◌∙◌}
use Rattle.spx_link.specs.Receive as R
use Rattle.spx_link.specs.Sound.{own_of}
use Rattle.spx_link.proofs.Apart.{sound_set}
use Rattle.spx_link.proofs.Calls.{by_id, changed_by_id}
use Rattle.spx_link.proofs.Keeping.{receive_keeps}
use Rattle.spx_link.proofs.links.Links.receive.Goals as goal

pub invariant_of-self : goal.invariant_of-self
invariant_of-self c =
    sound_set c.self.inside.last c.self.inside.links.items c.place_of-place.result c.index_mut.result.now c.receive.new.self c.index_mut.ensures.value (ap own_of c.receive.ensures.leaves ∙ (receive_keeps c.index_mut.result.now c.args.header.now c.args.body.now).ends.own) c.self.invariant

pub returns-clause-gives : goal.returns-clause-gives
returns-clause-gives c =
    by_id c.args.self.now c.self.inside.last c.self.inside.links.items c.deref.result.now c.args.id c.place_of-place.result c.index_mut.result.now (λ l. c.receive.result ≡ (R.receive_link l c.args.header.now c.args.body.now).0) c.self.view_is c.deref.ensures.value c.place_of-place.ensures.place c.index_mut.ensures.value c.receive.ensures.gives

pub returns-clause-leaves : goal.returns-clause-leaves
returns-clause-leaves c =
    changed_by_id c.args.self.now c.self.inside.last c.self.inside.links.items c.deref.result.now c.args.id c.place_of-place.result c.index_mut.result.now c.receive.new.self (λ l. (R.receive_link l c.args.header.now c.args.body.now).1) c.self.view_is c.deref.ensures.value c.place_of-place.ensures.place c.index_mut.ensures.value c.receive.ensures.leaves (receive_keeps c.index_mut.result.now c.args.header.now c.args.body.now).ends.own
