use Rattle.std.proofs.Common.{◌≡◌, ◌++◌, ℕ, length}
use Rattle.ipx_tables.specs.Content.{IsTable}
use Rattle.ipx_tables.specs.Service.{service_key_cmp}
use Rattle.ipx_router.specs.Knowledge.{services_in}
use Rattle.ipx_router.specs.Hearing.{HeardServices}
use Rattle.ipx_router.specs.Ports.{AreFromPorts, IsPortNumber}
use Rattle.ipx_router.proofs.hearing.hear_services.Given as goal

abbrev pub invariant-loop-entry : goal.invariant-loop-entry
invariant-loop-entry l = record {
  all : l.yielded ++ l.entry-iterator ≡ l.fn.entries;
  count : l.heard ≡ length l.yielded;
  heard : HeardServices l.source l.now l.fn.entries (services_in l.fn.services) (length l.yielded) l.services;
  capacity : l.services.capacity ≡ l.fn.services.capacity;
  valid : IsTable service_key_cmp l.services;
  sources : (count : ℕ) → IsPortNumber count l.source.port → AreFromPorts count (services_in l.fn.services) → AreFromPorts count (services_in l.services);
}
