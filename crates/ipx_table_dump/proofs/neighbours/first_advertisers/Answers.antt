use Rattle.std.proofs.Common.{◌≡◌, ◌++◌, ◌∙◌, List, take, subst, sym, true, false}
use Rattle.std.proofs.lemmas.Result.{IfOk-weaker}
use Rattle.ipx_wire.specs.declared.address.Network.{Network}
use Rattle.ipx_tables.specs.declared.offer.Offer.{Offer}
use Rattle.ipx_tables.specs.declared.route.RouteMetric.{RouteMetric}
use Rattle.ipx_tables.specs.declared.service.ServiceKey.{ServiceKey}
use Rattle.ipx_tables.specs.declared.service.ServiceMetric.{ServiceMetric}
use Rattle.ipx_table_dump.specs.FirstAdvertisers.{AreFirstAdvertisers}
use Rattle.ipx_table_dump.specs.Advertisers.{AreAdvertisers, advertisements}
use Rattle.ipx_table_dump.proofs.neighbours.first_advertisers.Goals as goal

pub returns : goal.returns
returns c =
    let networks = c.in_ok-known_routes.known_routes.items in
    let services = c.in_ok-known_services.known_services.items in
    let advertisers = c.in_ok-advertisers.advertisers.entries in
    let told : AreAdvertisers (advertisements true networks ++ advertisements false services) advertisers =
    subst (λ (l : List (Offer ServiceKey ServiceMetric)). AreAdvertisers (advertisements true networks ++ advertisements false l) advertisers) c.deref-2.ensures.value
    (subst (λ (l : List (Offer Network RouteMetric)). AreAdvertisers (advertisements true l ++ advertisements false c.deref-2.result.now) advertisers) c.deref.ensures.value c.in_ok-advertisers.ensures) in
    IfOk-weaker c.first_of.result (λ v. v.items ≡ take 256 advertisers) (λ v. AreFirstAdvertisers c.args.routes.now c.args.services.now c.args.now v.items) (λ v is. record {
      networks_then = networks;
      services_then = services;
      advertisers = advertisers;
      heard_networks = c.in_ok-known_routes.ensures;
      heard_services = c.in_ok-known_services.ensures;
      told = told;
      first = is;
    }) c.first_of.ensures
