use Rattle.std.proofs.Common.{◌≡◌, map, take}
use Rattle.std.specs.List.{filter_map}
use Rattle.ipx_table_dump.specs.TableRead.{best_service_in, service_spelled, parts_view, words_in}
use Rattle.ipx_table_dump.proofs.reading.services_in_lines.Given as goal

abbrev pub invariant-loop-line : goal.invariant-loop-line
invariant-loop-line l = map service_spelled l.services.items ≡ filter_map (λ line. best_service_in (words_in line)) (take l.line-index (parts_view l.lines))
