use Rattle.std.proofs.Common.{◌≡◌, take}
use Rattle.std.specs.List.{filter_map}
use Rattle.ipx_table_dump.specs.TableRead.{parts_view, words_in}
use Rattle.ipx_table_dump.specs.TableParts.{title_in}
use Rattle.ipx_table_dump.proofs.section_headers.titles_in_lines.Given as goal

abbrev pub invariant-loop-line : goal.invariant-loop-line
invariant-loop-line l = parts_view l.titles.items ≡ filter_map (λ line. title_in (words_in line)) (take l.line-index (parts_view l.lines))
