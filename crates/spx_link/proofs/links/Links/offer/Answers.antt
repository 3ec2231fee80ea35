use Rattle.std.proofs.Common.{◌≡◌, refl, Some, None, Err, IsOk, IsOkUnless, []}
use Rattle.spx_link.specs.Offer as O
use Rattle.spx_link.proofs.Apart.{sound_set}
use Rattle.spx_link.proofs.Calls.{by_id, changed_by_id_ok, own_stays}
use Rattle.spx_link.proofs.links.Links.offer.Goals as goal
use Rattle.spx_link.specs.declared.fault.OfferFault.{OfferFault}
use Rattle.spx_link.specs.declared.fault.OfferFault.TheVariants as OfferFaults

pub invariant_of-self : goal.invariant_of-self
invariant_of-self c =
    sound_set c.self.inside.last c.self.inside.links.items c.place_of-place.result c.index_mut.result.now c.offer.new.self c.index_mut.ensures.value (own_stays c.offer.result c.index_mut.result.now c.offer.new.self (O.offer_link c.index_mut.result.now c.args.units.items) c.offer.ensures.ok c.offer.ensures.unchanged refl) c.self.invariant

pub returns-clause-ok : goal.returns-clause-ok
returns-clause-ok c =
    changed_by_id_ok c.offer.result c.args.self.now c.self.inside.last c.self.inside.links.items c.deref.result.now c.args.id c.place_of-place.result c.index_mut.result.now c.offer.new.self (λ l. O.offer_link l c.args.units.items) c.self.view_is c.deref.ensures.value c.place_of-place.ensures.place c.index_mut.ensures.value c.offer.ensures.ok refl

pub returns-clause-refused : goal.returns-clause-refused
returns-clause-refused c =
    by_id c.args.self.now c.self.inside.last c.self.inside.links.items c.deref.result.now c.args.id c.place_of-place.result c.index_mut.result.now (λ l. (f : OfferFault) → O.refusal l.state ≡ Some f → c.offer.result ≡ Err f) c.self.view_is c.deref.ensures.value c.place_of-place.ensures.place c.index_mut.ensures.value c.offer.ensures.refused

pub returns-clause-memory : goal.returns-clause-memory
returns-clause-memory c =
    by_id c.args.self.now c.self.inside.last c.self.inside.links.items c.deref.result.now c.args.id c.place_of-place.result c.index_mut.result.now (λ l. O.refusal l.state ≡ None → IsOkUnless c.offer.result OfferFaults.OutOfMemory) c.self.view_is c.deref.ensures.value c.place_of-place.ensures.place c.index_mut.ensures.value c.offer.ensures.memory

pub returns-clause-empty : goal.returns-clause-empty
returns-clause-empty c =
    by_id c.args.self.now c.self.inside.last c.self.inside.links.items c.deref.result.now c.args.id c.place_of-place.result c.index_mut.result.now (λ l. O.refusal l.state ≡ None → c.args.units.items ≡ [] → IsOk c.offer.result) c.self.view_is c.deref.ensures.value c.place_of-place.ensures.place c.index_mut.ensures.value c.offer.ensures.empty
