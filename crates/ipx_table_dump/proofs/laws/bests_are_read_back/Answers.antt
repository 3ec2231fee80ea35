use Rattle.std.proofs.Common.{map, ap, ◌∙◌}
use Rattle.std.specs.Prelude.{filter}
use Rattle.std.proofs.lemmas.Cmp.{nat_cmp_total, nat_list_cmp_total, on_total, then_total}
use Rattle.ipx_wire.specs.declared.address.Network.{Network}
use Rattle.ipx_tables.specs.declared.route.RouteMetric.{RouteMetric}
use Rattle.ipx_tables.specs.declared.service.ServiceKey.{ServiceKey}
use Rattle.ipx_tables.specs.declared.service.ServiceMetric.{ServiceMetric}
use Rattle.ipx_tables.specs.Route.{network_cmp, network_exact}
use Rattle.ipx_tables.specs.Service.{service_key_cmp, service_key_exact}
use Rattle.ipx_router.specs.Knowledge.{routes_in, services_in}
use Rattle.ipx_table_dump.specs.StillPresent.{is_among_best}
use Rattle.ipx_table_dump.specs.TableRead.{network_in_words, networks_read, service_in_words, services_read}
use Rattle.ipx_table_dump.proofs.Kept.{bests_kept, item, map_twice}
use Rattle.ipx_table_dump.proofs.ReadBack.{networks_read_back, services_read_back}
use Rattle.ipx_table_dump.proofs.laws.bests_are_read_back.Goals as goal

pub returns-clause-networks : goal.returns-clause-networks
returns-clause-networks c ports routes services now text listed t is =
    let k = t.known in
    let heard = t.is_known.heard_networks in
    let content = routes_in routes in
    let kept = ap (λ os. map item (filter (is_among_best network_cmp k.best_networks) os)) heard.counting
    ∙ bests_kept RouteMetric (on_total (λ (n : Network). n.0) nat_cmp_total) network_exact c.sources_are_distinct.ensures content now heard.all heard.inventory k.best_networks t.is_known.best_networks in
    ap networks_read t.spelled ∙ networks_read_back ports now k
    ∙ map_twice network_in_words item (filter (is_among_best network_cmp k.best_networks) k.networks)
    ∙ ap (map network_in_words) (kept ∙ c.route_listing_is_one.ensures content now k.best_networks listed t.is_known.best_networks is)

pub returns-clause-services : goal.returns-clause-services
returns-clause-services c ports routes services now text listed t is =
    let k = t.known in
    let heard = t.is_known.heard_services in
    let content = services_in services in
    let kept = ap (λ os. map item (filter (is_among_best service_key_cmp k.best_services) os)) heard.counting
    ∙ bests_kept ServiceMetric (then_total (on_total (λ (s : ServiceKey). s.kind) nat_cmp_total) (on_total (λ (s : ServiceKey). s.name) nat_list_cmp_total)) service_key_exact c.sources_are_distinct.ensures content now heard.all heard.inventory k.best_services t.is_known.best_services in
    ap services_read t.spelled ∙ services_read_back ports now k
    ∙ map_twice service_in_words item (filter (is_among_best service_key_cmp k.best_services) k.services)
    ∙ ap (map service_in_words) (kept ∙ c.service_listing_is_one.ensures content now k.best_services listed t.is_known.best_services is)
