use Rattle.ipx_site.proofs.StandingSites.{routes_of_sites}
use Rattle.ipx_site.proofs.static_laws.routes_of_sites_hold.Goals as goal

pub returns : goal.returns
returns c = routes_of_sites c.statics_are_counted_separately.ensures c.routes_of_files_hold.ensures
