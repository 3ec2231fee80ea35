use Rattle.std.proofs.Common.{◌↔◌, IsTrue}
use Rattle.spx_link.specs.Courses.{IsWhole}
use Rattle.spx_link.proofs.Calls.{by_id}
use Rattle.spx_link.proofs.links.Links.is_all_acked.Goals as goal

pub returns : goal.returns
returns c =
    by_id c.args.self.now c.self.inside.last c.self.inside.links.items c.deref.result.now c.args.id c.place_of-place.result c.index.result.now (λ l. IsTrue c.is_all_acked.result ↔ IsWhole l) c.self.view_is c.deref.ensures.value c.place_of-place.ensures.place c.index.ensures c.is_all_acked.ensures
