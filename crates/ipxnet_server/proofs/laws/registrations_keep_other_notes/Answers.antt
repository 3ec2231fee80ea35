use Rattle.ipxnet_server.proofs.Notes.{others_stay}
use Rattle.ipxnet_server.proofs.laws.registrations_keep_other_notes.Goals as goal

pub returns : goal.returns
returns c = others_stay
