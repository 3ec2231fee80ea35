use Rattle.std.proofs.Common.{◌≡◌, map, take}
use Rattle.std.specs.List.{filter_map}
use Rattle.ipx_table_dump.specs.TableRead.{best_network_in, network_spelled, parts_view, words_in}
use Rattle.ipx_table_dump.proofs.reading.networks_in_lines.Given as goal

abbrev pub invariant-loop-line : goal.invariant-loop-line
invariant-loop-line l = map network_spelled l.networks.items ≡ filter_map (λ line. best_network_in (words_in line)) (take l.line-index (parts_view l.lines))
