use Rattle.std.proofs.Common.{ℕ}
use Rattle.std.specs.Prelude.{◌==◌}
use Rattle.ipx_config.proofs.Printed.{all_before_first, take_to_first}
use Rattle.ipx_config.proofs.escaped.before_zero.Goals as goal

pub returns-in-Some : goal.returns-in-Some
returns-in-Some c = take_to_first (λ (b : ℕ). b == 0) c.args.bytes.now c.in-Some.end c.in-Some.ensures.place

pub returns-in-None : goal.returns-in-None
returns-in-None c = all_before_first (λ (b : ℕ). b == 0) c.args.bytes.now c.in-None.ensures.place
