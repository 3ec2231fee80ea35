use Rattle.std.proofs.Common.{◌≡◌, None, Some, arith}
use Rattle.std.proofs.lemmas.Grind.{common_steps}
use Rattle.ipx_host.proofs.paced_host_core.PacedHostCore.bars.Goals as goal

pub returns-in-None : goal.returns-in-None
returns-in-None c = (
  λ no. absurd (cc),
  λ rejected.
      let none : None ≡ Some rejected.0 = c.in-None.ensures.only rejected.0 rejected.1 in absurd (cc),
)

pub returns-in-Some : goal.returns-in-Some
returns-in-Some c = (
  λ is. (c.in-Some.from, c.in-Some.ensures.asks, grind (arith, common_steps, is)),
  λ rejected.
      let same : Some c.in-Some.from ≡ Some rejected.0 = c.in-Some.ensures.only rejected.0 rejected.1 in grind (arith, common_steps, rejected.2, same),
)
