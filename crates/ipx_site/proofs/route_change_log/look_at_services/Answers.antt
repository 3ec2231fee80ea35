use Rattle.std.proofs.Common.{◌∙◌, ap, map, subst}
use Rattle.ipx_tables.specs.declared.service.ServiceKey.{ServiceKey}
use Rattle.ipx_tables.specs.declared.service.ServiceMetric.{ServiceMetric}
use Rattle.ipx_tables.specs.Content.{Table}
use Rattle.ipx_tables.specs.Listing.{IsListing, listed_key}
use Rattle.ipx_tables.specs.Service.{service_before, service_key_cmp}
use Rattle.ipx_router.specs.Knowledge.{services_in}
use Rattle.ipx_site.proofs.route_change_log.look_at_services.Goals as goal

pub returns : goal.returns
returns g c =
    let held = c.in_ok-held.held.items in (
      held,
      subst (λ (t : Table ServiceKey ServiceMetric). IsListing service_key_cmp service_before (services_in t) c.args.now held) c.services.ensures c.in_ok-held.ensures,
      c.in_ok-services.ensures ∙ ap (map listed_key) c.deref.ensures.value,
    )
