use Rattle.ipx_source_checks.proofs.GroupSources.{not_heard}
use Rattle.ipx_source_checks.proofs.laws.no_group_is_heard_as_control.Goals as goal

pub returns : goal.returns
returns g c = not_heard g.C.Core.hears
