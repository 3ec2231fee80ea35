use Rattle.std.proofs.Common.{◌∙◌}
use Rattle.spx_link.proofs.Calls.{carried_there}
use Rattle.spx_link.proofs.links.Links.carry.Goals as goal

pub returns-clause-body : goal.returns-clause-body
returns-clause-body c =
    c.carry.ensures.body ∙ carried_there c.args.self.now c.self.inside.last c.self.inside.links.items c.deref.result.now c.args.place c.link_at_place.result.now c.args.chosen c.self.view_is c.deref.ensures.value c.link_at_place.ensures
