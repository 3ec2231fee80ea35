use Rattle.ipx_site.proofs.StandingFiles.{routes_of_files}
use Rattle.ipx_site.proofs.static_laws.routes_of_files_hold.Goals as goal

pub returns : goal.returns
returns c = routes_of_files c.static_routes_hold.ensures
