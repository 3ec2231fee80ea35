use Rattle.std.proofs.Common.{[], ◌∷◌}
use Rattle.spx_link.specs.Offer.{the_end}
use Rattle.spx_link.proofs.Reading.{units_joined}
use Rattle.spx_link.proofs.effects.units_queue_in_order.Goals as goal

pub returns-clause-offered : goal.returns-clause-offered
returns-clause-offered c = λ l us. units_joined l.queue us

pub returns-clause-end : goal.returns-clause-end
returns-clause-end c = λ l. units_joined l.queue (the_end ∷ [])
