use Rattle.std.proofs.Common.{arith, refl, rules}
use Rattle.std.proofs.lemmas.Grind.{common_steps}
use Rattle.ipx_host.proofs.sending.SendingHost.open.Goals as goal

pub returns-clause-dialing : goal.returns-clause-dialing
returns-clause-dialing g c = λ known. record {
  network = first_of (search rules, grind (arith, common_steps));
  node = first_of (search rules, grind (arith, common_steps));
  router = first_of (search rules, grind (arith, common_steps));
  among = first_of (search rules, grind (arith, common_steps));
  link = first_of (search rules, grind (arith, common_steps));
  range = first_of (search rules, grind (arith, common_steps));
  last = first_of (search rules, grind (arith, common_steps));
  count = first_of (search rules, grind (arith, common_steps));
  alone = λ q other. first_of (search rules, grind (arith, common_steps));
  no_listener = λ s. first_of (search rules, grind (arith, common_steps));
  paced = first_of (search rules, grind (arith, common_steps));
  unseen = refl;
  unread = first_of (search rules, grind (arith, common_steps));
  unended = first_of (search rules, grind (arith, common_steps));
  unused = record {
    base = first_of (search rules, grind (arith, common_steps));
    ahead = first_of (search rules, grind (arith, common_steps));
    given = first_of (search rules, grind (arith, common_steps));
    says = first_of (search rules, grind (arith, common_steps));
    first = first_of (search rules, grind (arith, common_steps));
  };
}
