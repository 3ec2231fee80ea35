use Rattle.std.proofs.Common.{not, rules}
use Rattle.std.proofs.lemmas.List.Sorted.{IsPartitionPoint-from_clause}
use Rattle.ipx_tables.specs.Content.{is_young}
use Rattle.ipx_tables.proofs.Marked.{not_false, not_true, old_are_first}
use Rattle.ipx_tables.proofs.marks.old_marks.Goals as goal

pub returns-clause-old : goal.returns-clause-old
returns-clause-old c = λ k d low lt.
    let point = IsPartitionPoint-from_clause (λ m. not (is_young c.args.now m.moment)) _ _ c.partition_point.ensures.partitioned (old_are_first c.args.marks.now.items c.args.now c.requires) (λ a r q f. search rules) in
    not_true _ (point.0 k d low lt)

pub returns-clause-young : goal.returns-clause-young
returns-clause-young c = λ k d low lt.
    let point = IsPartitionPoint-from_clause (λ m. not (is_young c.args.now m.moment)) _ _ c.partition_point.ensures.partitioned (old_are_first c.args.marks.now.items c.args.now c.requires) (λ a r q f. search rules) in
    not_false _ (point.1 k d low lt)
