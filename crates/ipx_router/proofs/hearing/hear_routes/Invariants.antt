use Rattle.std.proofs.Common.{◌≡◌, ◌≤◌, ◌++◌, ℕ, length, take}
use Rattle.std.specs.Prelude.{count_by}
use Rattle.ipx_tables.specs.Content.{IsTable}
use Rattle.ipx_tables.specs.Route.{network_cmp}
use Rattle.ipx_router.specs.Knowledge.{routes_in}
use Rattle.ipx_router.specs.Hearing.{HeardRoutes, is_heard}
use Rattle.ipx_router.specs.Ports.{AreFromPorts, IsPortNumber}
use Rattle.ipx_router.proofs.hearing.hear_routes.Given as goal

abbrev pub invariant-loop-entry : goal.invariant-loop-entry
invariant-loop-entry l = record {
  all : l.yielded ++ l.entry-iterator ≡ l.fn.entries;
  count : l.heard ≡ count_by (is_heard l.ports) (take (length l.yielded) l.fn.entries);
  few : l.heard ≤ length l.yielded;
  heard : HeardRoutes l.ports l.source l.now l.fn.entries (routes_in l.fn.routes) (length l.yielded) l.routes;
  capacity : l.routes.capacity ≡ l.fn.routes.capacity;
  valid : IsTable network_cmp l.routes;
  sources : (count : ℕ) → IsPortNumber count l.source.port → AreFromPorts count (routes_in l.fn.routes) → AreFromPorts count (routes_in l.routes);
}
