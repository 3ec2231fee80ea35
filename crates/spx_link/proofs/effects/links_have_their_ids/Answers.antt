use Rattle.spx_link.proofs.Found.{own_of_found}
use Rattle.spx_link.proofs.effects.links_have_their_ids.Goals as goal

pub returns : goal.returns
returns c = λ s id l e. own_of_found s.links id l e
