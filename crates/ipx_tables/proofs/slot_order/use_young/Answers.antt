use Rattle.std.proofs.Common.{rules}
use Rattle.std.proofs.lemmas.Fn.{filter_same}
use Rattle.ipx_tables.specs.SlotOrder.{is_young_in}
use Rattle.ipx_tables.proofs.slot_order.use_young.Goals as goal

pub returns-clause-items : goal.returns-clause-items
returns-clause-items g c =
    filter_same _ (is_young_in g.T.Timed.moment c.args.now c.args.slots.now) _ (λ x b f' k. search rules) _ _ c.retain.ensures.filtered
