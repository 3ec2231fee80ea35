use Rattle.std.proofs.Common.{◌∙◌, ap, map, subst}
use Rattle.ipx_wire.specs.declared.address.Network.{Network}
use Rattle.ipx_tables.specs.declared.route.RouteMetric.{RouteMetric}
use Rattle.ipx_tables.specs.Content.{Table}
use Rattle.ipx_tables.specs.Listing.{IsListing, listed_key}
use Rattle.ipx_tables.specs.Route.{network_cmp, route_before}
use Rattle.ipx_router.specs.Knowledge.{routes_in}
use Rattle.ipx_site.proofs.route_change_log.look_at_networks.Goals as goal

pub returns : goal.returns
returns g c =
    let held = c.in_ok-held.held.items in (
      held,
      subst (λ (t : Table Network RouteMetric). IsListing network_cmp route_before (routes_in t) c.args.now held) c.routes.ensures c.in_ok-held.ensures,
      c.in_ok-networks.ensures ∙ ap (map listed_key) c.deref.ensures.value,
    )
