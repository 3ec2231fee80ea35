use Rattle.std.proofs.Common.{◌≡◌, map, string_bytes, take}
use Rattle.std.specs.List.{flat_map}
use Rattle.ipx_table_dump.specs.TableRead.{service_spelled}
use Rattle.ipx_query_cmd.specs.KnownLines.{known_service_row}
use Rattle.ipx_query_cmd.proofs.known_service_lines.knowns_to_rows.Given as goal

abbrev pub invariant-loop-service : goal.invariant-loop-service
invariant-loop-service l = string_bytes l.rows ≡ flat_map (known_service_row l.kinds l.names) (map service_spelled (take l.service-index l.services))
