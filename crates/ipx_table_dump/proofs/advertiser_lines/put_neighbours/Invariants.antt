use Rattle.std.proofs.Common.{◌≡◌, ◌++◌, string_bytes}
use Rattle.std.specs.List.{flat_map}
use Rattle.ipx_table_dump.specs.TableText.{advertiser_line}
use Rattle.ipx_table_dump.proofs.advertiser_lines.put_neighbours.Given as goal

-- with the lines of the remaining neighbours they are all lines, after the text before
abbrev pub invariant-loop-source : goal.invariant-loop-source
invariant-loop-source l =
    string_bytes l.text ++ flat_map (advertiser_line l.now) l.source-iterator ≡ string_bytes l.fn.text ++ flat_map (advertiser_line l.now) l.advertisers.entries
