use Rattle.std.proofs.Common.{◌≡◌, ◌++◌, length}
use Rattle.ipx_tables.specs.Content.{IsTable}
use Rattle.ipx_tables.specs.Service.{service_key_cmp}
use Rattle.ipx_router.specs.Knowledge.{services_in}
use Rattle.ipx_router.specs.Hearing.{HeardServices}
use Rattle.ipx_query.proofs.entries.hear_services.Given as goal

abbrev pub invariant-loop-entry : goal.invariant-loop-entry
invariant-loop-entry l = record {
  all : l.yielded ++ l.entry-iterator ≡ l.fn.entries;
  heard : HeardServices l.source l.now l.fn.entries (services_in l.fn.services) (length l.yielded) l.services;
  capacity : l.services.capacity ≡ l.fn.services.capacity;
  valid : IsTable service_key_cmp l.services;
}
