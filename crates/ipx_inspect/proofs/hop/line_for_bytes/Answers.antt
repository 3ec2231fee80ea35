use Rattle.ipx_router.specs.OutcomeView.{router_outcome}
use Rattle.ipx_inspect.proofs.hop.line_for_bytes.Goals as goal

pub returns : goal.returns
returns c = (router_outcome c.in_ok-outcome.outcome, c.in_ok-outcome.ensures, c.in_ok-lines.ensures, c.outcome_status-status.ensures)
