use Rattle.ipx_site.proofs.StandingFiles.{services_of_files}
use Rattle.ipx_site.proofs.static_laws.services_of_files_hold.Goals as goal

pub returns : goal.returns
returns c = services_of_files c.static_services_hold.ensures
