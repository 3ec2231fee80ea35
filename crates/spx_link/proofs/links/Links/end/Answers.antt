use Rattle.std.proofs.Common.{◌≡◌, refl, Some, None, Err, IsOkUnless}
use Rattle.spx_link.specs.Offer as O
use Rattle.spx_link.proofs.Apart.{sound_set}
use Rattle.spx_link.proofs.Calls.{by_id, changed_by_id_ok, own_stays}
use Rattle.spx_link.proofs.links.Links.end.Goals as goal
use Rattle.spx_link.specs.declared.fault.OfferFault.{OfferFault}
use Rattle.spx_link.specs.declared.fault.OfferFault.TheVariants as OfferFaults

pub invariant_of-self : goal.invariant_of-self
invariant_of-self c =
    sound_set c.self.inside.last c.self.inside.links.items c.place_of-place.result c.index_mut.result.now c.end.new.self c.index_mut.ensures.value (own_stays c.end.result c.index_mut.result.now c.end.new.self (O.end_link c.index_mut.result.now) c.end.ensures.ok c.end.ensures.unchanged refl) c.self.invariant

pub returns-clause-ok : goal.returns-clause-ok
returns-clause-ok c =
    changed_by_id_ok c.end.result c.args.self.now c.self.inside.last c.self.inside.links.items c.deref.result.now c.args.id c.place_of-place.result c.index_mut.result.now c.end.new.self O.end_link c.self.view_is c.deref.ensures.value c.place_of-place.ensures.place c.index_mut.ensures.value c.end.ensures.ok refl

pub returns-clause-refused : goal.returns-clause-refused
returns-clause-refused c =
    by_id c.args.self.now c.self.inside.last c.self.inside.links.items c.deref.result.now c.args.id c.place_of-place.result c.index_mut.result.now (λ l. (f : OfferFault) → O.refusal l.state ≡ Some f → c.end.result ≡ Err f) c.self.view_is c.deref.ensures.value c.place_of-place.ensures.place c.index_mut.ensures.value c.end.ensures.refused

pub returns-clause-memory : goal.returns-clause-memory
returns-clause-memory c =
    by_id c.args.self.now c.self.inside.last c.self.inside.links.items c.deref.result.now c.args.id c.place_of-place.result c.index_mut.result.now (λ l. O.refusal l.state ≡ None → IsOkUnless c.end.result OfferFaults.OutOfMemory) c.self.view_is c.deref.ensures.value c.place_of-place.ensures.place c.index_mut.ensures.value c.end.ensures.memory
