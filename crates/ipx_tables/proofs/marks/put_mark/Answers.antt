use Rattle.std.proofs.Common.{◌≡◌, ◌≤◌, ◌∙◌, length, leb, sym, rules, arith}
use Rattle.std.specs.List.{insert}
use Rattle.std.proofs.lemmas.Bool.{leb-false, leb-true}
use Rattle.std.proofs.lemmas.List.Sorted.{IsNonDecreasingBy-insert, IsNonDecreasingBy-push, IsPartitionPoint-from_clause, IsPartitionedBy-leb, IsPermutation-insert, IsPermutation-sym, IsPermutation-to_front}
use Rattle.ipx_tables.specs.declared.marks.Mark.{Mark}
use Rattle.ipx_tables.proofs.Marked.{came}
use Rattle.ipx_tables.proofs.marks.put_mark.Goals as goal

pub returns-then-none_later-clause-by_time : goal.returns-then-none_later-clause-by_time
returns-then-none_later-clause-by_time c =
    let marks = c.args.marks.now.items in
    rw c.push_back_reserved.ensures.items (IsNonDecreasingBy-push (λ (m : Mark). m.moment) marks c.args.mark c.requires.by_time (λ d some. leb-true _ _ (sym (c.none_later.ensures.last d some) ∙ c.if-none_later.true)))

pub returns-then-none_later-clause-put : goal.returns-then-none_later-clause-put
returns-then-none_later-clause-put c =
    let marks = c.args.marks.now.items in
    rw c.push_back_reserved.ensures.items (IsPermutation-sym _ _ (IsPermutation-to_front marks c.args.mark))

pub returns-clause-by_time : goal.returns-clause-by_time
returns-clause-by_time c =
    let marks = c.args.marks.now.items in
    let at = c.partition_point-at.result in
    let items : c.insert-put.new.self.items ≡ insert marks at c.args.mark = came c.insert-put.result c.insert-put.ensures.items c.insert-put.ensures.full (λ full. omega (arith, full, c.requires.room)) in
    let bound : at ≤ length marks = omega (arith, c.partition_point-at.ensures.bound, c.args.marks.now.ok.0) in
    let point = IsPartitionPoint-from_clause (λ (m : Mark). leb m.moment c.args.mark.moment) marks at c.partition_point-at.ensures.partitioned (IsPartitionedBy-leb (λ (m : Mark). m.moment) marks c.args.mark.moment c.requires.by_time) (λ a r q f. search rules) in
    rw items (IsNonDecreasingBy-insert (λ (m : Mark). m.moment) marks at c.args.mark c.requires.by_time bound (λ k d lt. leb-true _ _ (point.0 k d (omega arith) lt)) (λ k d le lt. omega (arith, leb-false _ _ (point.1 k d le lt))))

pub returns-clause-put : goal.returns-clause-put
returns-clause-put c =
    let marks = c.args.marks.now.items in
    let at = c.partition_point-at.result in
    let items : c.insert-put.new.self.items ≡ insert marks at c.args.mark = came c.insert-put.result c.insert-put.ensures.items c.insert-put.ensures.full (λ full. omega (arith, full, c.requires.room)) in
    rw items (IsPermutation-insert marks at c.args.mark)
