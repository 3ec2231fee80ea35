use Rattle.std.proofs.Common.{subst}
use Rattle.ipx_router.specs.RouterView.{RouterView}
use Rattle.ipx_router.specs.OutcomeView.{router_outcome}
use Rattle.ipx_router.specs.Answer.{Receives}
use Rattle.ipx_inspect.proofs.hop.outcome_for_bytes.Goals as goal

pub returns : goal.returns
returns c =
    let o = router_outcome c.in_ok-outcome.outcome in
    let after = c.receive.new.self in
    (after, subst (λ (r : RouterView). Receives r 1 c.args.bytes.now 0 o after) c.in_ok-router.ensures c.in_ok-outcome.ensures.answer)
