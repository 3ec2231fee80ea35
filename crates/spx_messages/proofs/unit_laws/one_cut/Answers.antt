use Rattle.spx_messages.proofs.Pieces.{cut_is, is_cut}
use Rattle.spx_messages.proofs.unit_laws.one_cut.Goals as goal

pub returns : goal.returns
returns c = λ m units. (is_cut m units, cut_is m units)
