use Rattle.std.proofs.Common.{◌∙◌}
use Rattle.ipx_query_cmd.proofs.query_host.QueryHost.open.Goals as goal

pub returns-clause-fresh : goal.returns-clause-fresh
returns-clause-fresh g c = c.in_ok-core.ensures (c.deref-2.ensures.value ∙ c.in_ok-ips.ensures)
