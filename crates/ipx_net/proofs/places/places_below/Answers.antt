use Rattle.std.proofs.Common.{ltb, rules}
use Rattle.std.proofs.lemmas.List.Sorted.{IsPartitionPoint-from_clause}
use Rattle.ipx_net.proofs.Counting.{found_below, is_parted}
use Rattle.ipx_net.proofs.places.places_below.Goals as goal

pub returns : goal.returns
returns c = λ sent e is.
    let parted = is_parted c.args.list.now sent e c.args.place is in
    let point = IsPartitionPoint-from_clause (λ p. ltb p c.args.place) _ _ c.partition_point.ensures.partitioned parted (λ a r q k. search rules) in
    found_below c.args.list.now sent e c.args.place c.partition_point.result is c.partition_point.ensures.bound point
