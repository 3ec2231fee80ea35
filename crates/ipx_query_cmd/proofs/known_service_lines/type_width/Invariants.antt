use Rattle.std.proofs.Common.{◌≡◌, map, take}
use Rattle.ipx_table_dump.specs.TableRead.{service_spelled}
use Rattle.ipx_query_cmd.specs.KnownLines.{kind_of_known}
use Rattle.ipx_query_cmd.specs.OperatorLines.{widest}
use Rattle.ipx_query_cmd.proofs.known_service_lines.type_width.Given as goal

abbrev pub invariant-loop-service : goal.invariant-loop-service
invariant-loop-service l = l.width ≡ widest kind_of_known (map service_spelled (take l.service-index l.services))
