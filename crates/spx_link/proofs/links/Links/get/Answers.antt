use Rattle.spx_link.proofs.Calls.{range_of_found}
use Rattle.spx_link.proofs.links.Links.get.Goals as goal

pub returns-clause-id : goal.returns-clause-id
returns-clause-id c =
    range_of_found c.self.inside.last c.self.inside.links.items c.deref.result.now c.args.id c.link_in.result c.deref.ensures.value c.self.invariant c.link_in.ensures
