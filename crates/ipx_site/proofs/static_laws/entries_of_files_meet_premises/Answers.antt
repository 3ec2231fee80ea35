use Rattle.ipx_site.proofs.StandingEntries.{files_stand}
use Rattle.ipx_site.proofs.static_laws.entries_of_files_meet_premises.Goals as goal

pub returns : goal.returns
returns c = files_stand
