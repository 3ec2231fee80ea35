use Rattle.std.proofs.Common.{◌≡◌, map, take}
use Rattle.ipx_table_dump.specs.TableRead.{service_spelled}
use Rattle.ipx_query_cmd.specs.KnownLines.{services_of_type}
use Rattle.ipx_query_cmd.proofs.known_service_lines.services_of_type.Given as goal

abbrev pub invariant-loop-service : goal.invariant-loop-service
invariant-loop-service l = map service_spelled l.found.items ≡ services_of_type l.kind (map service_spelled (take l.service-index l.services))
