use Rattle.std.proofs.Common.{◌≡◌, ◌∙◌, ap, subst, sym}
use Rattle.ipx_metrics.specs.MeteredRouter.{CountedView}
use Rattle.ipx_metrics.specs.PortCounts.{outcomes_over}
use Rattle.ipx_metrics.proofs.metered_router.MeteredRouter.port_counters.Goals as goal

pub returns-clause-sums : goal.returns-clause-sums
returns-clause-sums c = subst (λ (v : CountedView). v.outcomes ≡ outcomes_over c.deref.result.now) c.self.view_is
    (c.self.invariant.1 ∙ ap outcomes_over (sym c.deref.ensures.value))
