use Rattle.std.proofs.Common.{sym, ◌∙◌}
use Rattle.ipx_config.proofs.WireEnds.{nowhere}
use Rattle.ipx_config.proofs.ethernet_values.place_written.Goals as goal

pub returns-else-is_somewhere : goal.returns-else-is_somewhere
returns-else-is_somewhere c =
    nowhere c.args.text.now c.in-Ok.place c.in-Ok.ensures.value (sym c.is_somewhere.ensures ∙ c.if-is_somewhere.false)

pub returns-in-Err : goal.returns-in-Err
returns-in-Err c = λ p (writes, some). c.in-Err.ensures.value p writes
