use Rattle.std.proofs.Common.{arith}
use Rattle.std.proofs.lemmas.Grind.{common_steps}
use Rattle.ipx_table_dump.proofs.valid_offers.offers_at.Goals as goal

pub returns : goal.returns
returns g c = record {
  all = c.offers-offer-items.result;
  inventory = c.offers-offer-items.ensures.inventory;
  counting = grind (arith, common_steps);
}
