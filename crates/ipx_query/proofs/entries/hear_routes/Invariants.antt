use Rattle.std.proofs.Common.{◌≡◌, ◌++◌, length}
use Rattle.ipx_tables.specs.Content.{IsTable}
use Rattle.ipx_tables.specs.Route.{network_cmp}
use Rattle.ipx_router.specs.Knowledge.{routes_in}
use Rattle.ipx_router.specs.Hearing.{HeardRoutes}
use Rattle.ipx_query.specs.QueryAnswers.{lone_port}
use Rattle.ipx_query.proofs.entries.hear_routes.Given as goal

abbrev pub invariant-loop-entry : goal.invariant-loop-entry
invariant-loop-entry l = record {
  all : l.yielded ++ l.entry-iterator ≡ l.fn.entries;
  heard : HeardRoutes (lone_port l.own) l.source l.now l.fn.entries (routes_in l.fn.routes) (length l.yielded) l.routes;
  capacity : l.routes.capacity ≡ l.fn.routes.capacity;
  valid : IsTable network_cmp l.routes;
}
