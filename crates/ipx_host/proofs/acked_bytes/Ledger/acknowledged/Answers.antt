use Rattle.std.proofs.Common.{◌≡◌, ◌<◌, [], length, get_or, arith, rules}
use Rattle.std.proofs.lemmas.Grind.{common_steps}
use Rattle.ipx_host.proofs.Acknowledged.{exact_none, exact_some}
use Rattle.ipx_host.proofs.acked_bytes.Ledger.acknowledged.Goals as goal
use Rattle.ipx_host.proofs.acked_bytes.Ledger.acknowledged.Goals.{in-Some, in-None}

pub returns-clause-exact : goal.returns-clause-exact
returns-clause-exact c =
    let self = c.args.self.now in
    let left = self.messages.items in
    λ given units counts unclosed. elim c.match-front.branch [
      | in-Some w ↦
          let first = w.in-Some.bytes.now in
          let some : 0 < length left = first_of (search rules, grind (arith, common_steps)) in
          let is : first ≡ get_or left 0 first = first_of (search rules, grind (arith, common_steps)) in
          omega (arith, exact_some given units left self.units self.whole first counts unclosed some is)
      | in-None w ↦
          let none : left ≡ [] = first_of (search rules, grind (arith, common_steps)) in
          omega (arith, exact_none given units left self.units self.whole counts none)
    ]
