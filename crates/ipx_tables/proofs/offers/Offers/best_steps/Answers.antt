use Rattle.std.proofs.Common.{◌∙◌, sym, Some, None}
use Rattle.ipx_tables.proofs.Best.{scanned}
use Rattle.ipx_tables.proofs.offers.Offers.best_steps.Goals as goal

pub returns-in-None-clause-none : goal.returns-in-None-clause-none
returns-in-None-clause-none g c =
    rw (← c.self.view_is) (scanned g.met.K.Ord.total g.met.M.Metric.strict c.args.key.now c.args.now _ c.self.invariant.0.apart None (sym c.in-None.is ∙ c.best_in-best.ensures.best)).1

pub returns-in-Some-clause-least : goal.returns-in-Some-clause-least
returns-in-Some-clause-least g c =
    rw (← c.self.view_is) (scanned g.met.K.Ord.total g.met.M.Metric.strict c.args.key.now c.args.now _ c.self.invariant.0.apart (Some c.in-Some.best) (sym c.in-Some.is ∙ c.best_in-best.ensures.best)).0
