use Rattle.std.proofs.Common.{◌≡◌, take}
use Rattle.std.specs.BTreeMap as tree
use Rattle.ipx_tables.specs.declared.source.Source.{Source}
use Rattle.ipx_tables.specs.Content.{source_cmp}
use Rattle.ipx_table_dump.specs.Advertisers.{advertiser_of}
use Rattle.ipx_table_dump.proofs.advertisers.advertisers_of.Given as goal

-- each neighbour has its counts so far
abbrev pub invariant-loop-saying : goal.invariant-loop-saying
invariant-loop-saying l = (s : Source) → tree.get source_cmp l.advertisers s ≡ advertiser_of (take l.saying-index l.said) s
