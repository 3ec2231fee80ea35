use Rattle.std.proofs.Common.{Some, inr, sym, ap, ◌∙◌}
use Rattle.ipx_config.proofs.fields.refuse_unknown.Goals as goal

pub returns-in_ok-unknown-in-Some-clause-unknown : goal.returns-in_ok-unknown-in-Some-clause-unknown
returns-in_ok-unknown-in-Some-clause-unknown c =
    let (copy, is, same) = c.in_ok-unknown-in-Some.ensures in inr (copy, is, sym c.in-Some.ensures ∙ ap Some (sym same))
