use Rattle.std.proofs.Common.{arith}
use Rattle.ipx_router.proofs.KeptTables.{tables_empty}
use Rattle.ipx_router.proofs.router.Router.new.Goals as goal

pub invariant_of-result : goal.invariant_of-result
invariant_of-result c = record {
  some = grind arith;
  count = omega arith;
  networks = c.requires;
  routes_from = λ p v h. (let none = rw c.route_table.ensures.empty at h in cc);
  services_from = λ p v h. (let none = rw c.service_table.ensures.empty at h in cc);
  tables = tables_empty c.route_table.result c.service_table.result c.route_table.ensures.empty c.service_table.ensures.empty c.route_table.ensures.capacity c.service_table.ensures.capacity;
}
