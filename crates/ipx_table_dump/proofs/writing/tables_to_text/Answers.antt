use Rattle.std.proofs.Common.{◌≡◌, ◌++◌, ◌∙◌, List, subst, sym, true, false, string_bytes}
use Rattle.ipx_wire.specs.declared.address.Network.{Network}
use Rattle.ipx_tables.specs.declared.offer.Offer.{Offer}
use Rattle.ipx_tables.specs.declared.route.RouteMetric.{RouteMetric}
use Rattle.ipx_tables.specs.declared.service.ServiceKey.{ServiceKey}
use Rattle.ipx_tables.specs.declared.service.ServiceMetric.{ServiceMetric}
use Rattle.ipx_tables.specs.declared.source.Source.{Source}
use Rattle.ipx_tables.specs.Listing.{listed_key}
use Rattle.ipx_tables.specs.Route.{network_cmp}
use Rattle.ipx_tables.specs.Service.{service_key_cmp}
use Rattle.ipx_tables.specs.Sorted.{IsRising}
use Rattle.ipx_table_dump.specs.Advertisers.{AreAdvertisers, advertisements}
use Rattle.ipx_table_dump.specs.TableText.{IsKnownThen, KnownThen, network_lines, service_lines, tables_text, advertiser_lines}
use Rattle.ipx_table_dump.proofs.Rows.{joined}
use Rattle.ipx_table_dump.proofs.writing.tables_to_text.Goals as goal

pub put_networks-requires : goal.put_networks-requires
put_networks-requires c =
    subst (λ (l : List (Network × Source × RouteMetric)). IsRising network_cmp listed_key l) (sym c.deref-3.ensures.value) c.in_ok-best_routes.ensures.in_order

pub put_services-requires : goal.put_services-requires
put_services-requires c =
    subst (λ (l : List (ServiceKey × Source × ServiceMetric)). IsRising service_key_cmp listed_key l) (sym c.deref-5.ensures.value) c.in_ok-best_services.ensures.in_order

pub returns : goal.returns
returns c =
    let ports = c.args.ports.now in
    let now = c.args.now in
    let k : KnownThen = record {
      networks = c.in_ok-known_routes.known_routes.items;
      best_networks = c.in_ok-best_routes.best_routes.items;
      services = c.in_ok-known_services.known_services.items;
      best_services = c.in_ok-best_services.best_services.items;
      advertisers = c.in_ok-advertisers.advertisers.entries;
    } in
    let told : AreAdvertisers (advertisements true k.networks ++ advertisements false k.services) k.advertisers =
    subst (λ (l : List (Offer ServiceKey ServiceMetric)). AreAdvertisers (advertisements true k.networks ++ advertisements false l) k.advertisers) c.deref-2.ensures.value
    (subst (λ (l : List (Offer Network RouteMetric)). AreAdvertisers (advertisements true l ++ advertisements false c.deref-2.result.now) k.advertisers) c.deref.ensures.value c.in_ok-advertisers.ensures) in
    let known : IsKnownThen c.args.routes.now c.args.services.now now k = record {
      heard_networks = c.in_ok-known_routes.ensures;
      best_networks = c.in_ok-best_routes.ensures;
      heard_services = c.in_ok-known_services.ensures;
      best_services = c.in_ok-best_services.ensures;
      advertisers = told;
    } in
    let none = string_bytes c.new-text.result in
    let one = string_bytes c.put_networks.new.text in
    let two = string_bytes c.put_services.new.text in
    let three = string_bytes c.put_advertisers.new.text in
    let network_part = network_lines ports now k.best_networks k.networks in
    let service_part = service_lines now k.best_services k.services in
    let networks : one ≡ none ++ network_part =
    c.in_ok-put_networks.ensures ∙ (λ i. none ++ network_lines ports now (c.deref-3.ensures.value i) (c.deref-4.ensures.value i)) in
    let services : two ≡ one ++ service_part =
    c.in_ok-put_services.ensures ∙ (λ i. one ++ service_lines now (c.deref-5.ensures.value i) (c.deref-6.ensures.value i)) in
    let advertisers : three ≡ two ++ advertiser_lines now k.advertisers = c.in_ok-put_advertisers.ensures in
    let text : three ≡ tables_text ports now k =
    joined none one two three network_part service_part (advertiser_lines now k.advertisers) c.new-text.ensures.bytes networks services advertisers in
    record { known = k; is_known = known; spelled = text }
