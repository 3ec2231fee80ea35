use Rattle.std.proofs.Common.{◌≡◌, ◌++◌, ◌-◌, length, take}
use Rattle.ipx_table_dump.proofs.neighbours.first_of.Given as goal

-- with the first of those that are left they are the first of all
abbrev pub invariant-loop-source : goal.invariant-loop-source
invariant-loop-source l = l.first.items ++ take (256 - length l.first.items) l.source-iterator ≡ take 256 l.advertisers.entries
