use Rattle.std.proofs.Common.{subst, sym}
use Rattle.ipx_table_dump.specs.FirstAdvertisers.{AreFirstAdvertisers}
use Rattle.ipx_site.proofs.MetricLines.{then_ok}
use Rattle.ipx_site.proofs.neighbour_metrics.put_neighbour_metrics.Goals as goal

pub returns : goal.returns
returns c =
    let router = c.args.router.now in
    let services = subst (λ s. AreFirstAdvertisers c.routes.result.now s c.args.now c.in_ok-advertisers.advertisers.items) c.services.ensures c.in_ok-advertisers.ensures in
    let routes = subst (λ r. AreFirstAdvertisers r router.services c.args.now c.in_ok-advertisers.advertisers.items) c.routes.ensures services in
    let listed = subst (λ l. AreFirstAdvertisers router.routes router.services c.args.now l) (sym c.deref.ensures.value) routes in
    then_ok c.put_neighbours.result (λ is. (c.deref.result.now, listed, is)) c.put_neighbours.ensures
