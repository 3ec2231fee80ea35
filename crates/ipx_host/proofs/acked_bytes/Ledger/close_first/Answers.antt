use Rattle.std.proofs.Common.{◌≡◌, ◌∷◌, arith, rules}
use Rattle.std.proofs.lemmas.Grind.{common_steps}
use Rattle.ipx_host.proofs.acked_bytes.Ledger.close_first.Goals as goal

pub returns-clause-closed : goal.returns-clause-closed
returns-clause-closed c =
    let is : c.args.self.now.messages.items ≡ c.in-Some.bytes ∷ c.pop_front.new.self.items = first_of (search rules, grind (arith, common_steps)) in
    λ yes. (c.in-Some.bytes, is, omega (arith, c.units_of-units.ensures.value), c.saturating_add-self.ensures)
