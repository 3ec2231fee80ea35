use Rattle.ipx_site.proofs.StandingSites.{services_of_sites}
use Rattle.ipx_site.proofs.static_laws.services_of_sites_hold.Goals as goal

pub returns : goal.returns
returns c = services_of_sites c.statics_are_counted_separately.ensures c.services_of_files_hold.ensures
