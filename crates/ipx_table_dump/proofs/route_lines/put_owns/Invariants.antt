use Rattle.std.proofs.Common.{◌≡◌, ◌+◌, ◌++◌, string_bytes, take}
use Rattle.ipx_table_dump.specs.TableText.{own_lines}
use Rattle.ipx_table_dump.proofs.route_lines.put_owns.Given as goal

abbrev pub invariant-loop-port : goal.invariant-loop-port
invariant-loop-port l = record {
  text : string_bytes l.text ≡ string_bytes l.fn.text ++ own_lines 1 (take l.port-index l.ports);
  many : l.number ≡ 1 + l.port-index;
}
