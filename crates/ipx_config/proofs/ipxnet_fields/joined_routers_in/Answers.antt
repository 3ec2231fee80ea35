use Rattle.std.proofs.Common.{None, ◌∙◌, ap, inr, refl, subst, sym}
use Rattle.toml.specs.View.{view}
use Rattle.ipx_config.specs.Fields.{Reads}
use Rattle.ipx_config.specs.EthernetValues.{AreEthernetEnds, are_places_distinct}
use Rattle.ipx_config.proofs.ipxnet_fields.joined_routers_in.Goals as goal

pub returns-else-are_distinct-clause-fault : goal.returns-else-are_distinct-clause-fault
returns-else-are_distinct-clause-fault c =
    let d = view c.in-Some.value.now in
    let twice = ap are_places_distinct (sym c.deref.ensures.value) ∙ sym c.are_distinct.ensures ∙ c.if-are_distinct.false in
    inr (inr (refl, (c.in-Some-2.routers, (d, c.in-Some.ensures, subst (Reads (AreEthernetEnds None) d) c.in-Some-2.is c.in_ok-routers.ensures), twice)))
