use Rattle.std.proofs.Common.{◌≡◌, ◌∙◌, sym, ap, arith, rules}
use Rattle.std.proofs.lemmas.Grind.{common_steps}
use Rattle.ipx_host.specs.AckedBytes.{units_in}
use Rattle.ipx_host.proofs.Counting.{cut_counted}
use Rattle.ipx_host.proofs.acked_bytes.units_of.Goals as goal

pub returns-clause-cut : goal.returns-clause-cut
returns-clause-cut c =
    let value : c.max.result ≡ units_in c.args.bytes = first_of (search rules, grind (arith, common_steps)) in
    λ body same. cut_counted body ∙ ap units_in same ∙ sym value
