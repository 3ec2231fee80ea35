use Rattle.spx_link.proofs.Keeping.{opening_requests}
use Rattle.spx_link.proofs.effects.opening_gives_requests.Goals as goal

pub returns : goal.returns
returns c = opening_requests
