use Rattle.ipx_site.proofs.ControlSent.{of_its_sender}
use Rattle.ipx_site.proofs.source_laws.control_is_of_its_sender.Goals as goal

pub returns : goal.returns
returns c = of_its_sender
