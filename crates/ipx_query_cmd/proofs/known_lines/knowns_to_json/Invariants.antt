use Rattle.std.proofs.Common.{◌≡◌, map, string_bytes, take}
use Rattle.std.specs.List.{flat_map}
use Rattle.ipx_table_dump.specs.TableRead.{network_spelled}
use Rattle.ipx_query_cmd.specs.KnownLines.{known_network_json}
use Rattle.ipx_query_cmd.proofs.known_lines.knowns_to_json.Given as goal

abbrev pub invariant-loop-best : goal.invariant-loop-best
invariant-loop-best l = string_bytes l.lines ≡ flat_map known_network_json (map network_spelled (take l.best-index l.bests))
