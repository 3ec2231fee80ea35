use Rattle.std.proofs.Common.{◌∙◌}
use Rattle.ipx_inspect.specs.Check.{outcome}
use Rattle.ipx_inspect.specs.Decoded.{decoded_view}
use Rattle.ipx_inspect.proofs.Tallies.{failed_where}
use Rattle.ipx_inspect.proofs.check.verdict_on.Goals as goal

pub returns : goal.returns
returns c =
    let r = decoded_view c.in_ok-reading.reading in
    (r, c.in_ok-reading.ensures, failed_where (outcome r) c.args.number (λ e. c.if-outcome_of-number.false (c.outcome_of.ensures ∙ e)))
