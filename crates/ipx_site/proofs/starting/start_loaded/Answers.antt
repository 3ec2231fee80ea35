use Rattle.std.proofs.Common.{subst}
use Rattle.std.specs.Prelude.{IfOk}
use Rattle.ipx_site.specs.RoutingRuns.{StartsBy}
use Rattle.ipx_site.proofs.RanRounds.{started_by}
use Rattle.ipx_site.proofs.starting.start_loaded.Goals as goal

pub returns-in-Ok-start-clause-starts : goal.returns-in-Ok-start-clause-starts
returns-in-Ok-start-clause-starts g c =
    let e = c.start.ensures in
    let starts = started_by _ _ c.in-Ok.site c.start.result e.ports e.nothing e.empty e.statics e.checks e.queriers e.bound e.watched e.clock e.asked e.uncounted e.idle e.unfiltered e.files in
    rw (c.in-Ok.is) (subst (λ r. IfOk r (λ s. StartsBy c.in-Ok.site s)) c.in-Ok-start.is starts)
