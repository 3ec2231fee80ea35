use Rattle.ipx_ethernet.proofs.Goes.{known_goes, unknown_goes}
use Rattle.ipx_ethernet.proofs.switch_laws.frames_go_where_they_are_for.Goals as goal

pub returns-clause-unknown : goal.returns-clause-unknown
returns-clause-unknown c = unknown_goes

pub returns-clause-known : goal.returns-clause-known
returns-clause-known c = known_goes
