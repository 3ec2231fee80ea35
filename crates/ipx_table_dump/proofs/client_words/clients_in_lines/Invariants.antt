use Rattle.std.proofs.Common.{◌≡◌, map, take}
use Rattle.std.specs.List.{filter_map}
use Rattle.ipx_table_dump.specs.TableRead.{parts_view, words_in}
use Rattle.ipx_table_dump.specs.ClientsText.{client_words_in, client_spelled}
use Rattle.ipx_table_dump.proofs.client_words.clients_in_lines.Given as goal

abbrev pub invariant-loop-line : goal.invariant-loop-line
invariant-loop-line l = map client_spelled l.clients.items ≡ filter_map (λ line. client_words_in (words_in line)) (take l.line-index (parts_view l.lines))
