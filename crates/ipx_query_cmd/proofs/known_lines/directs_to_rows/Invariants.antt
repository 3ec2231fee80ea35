use Rattle.std.proofs.Common.{◌≡◌, map, string_bytes, take}
use Rattle.std.specs.List.{flat_map}
use Rattle.ipx_table_dump.specs.TableParts.{own_spelled}
use Rattle.ipx_query_cmd.specs.KnownLines.{direct_network_row}
use Rattle.ipx_query_cmd.proofs.known_lines.directs_to_rows.Given as goal

abbrev pub invariant-loop-own : goal.invariant-loop-own
invariant-loop-own l = string_bytes l.rows ≡ flat_map direct_network_row (map own_spelled (take l.own-index l.owns))
