use Rattle.std.proofs.Common.{◌≡◌, ◌*◌, drop}
use Rattle.std.specs.Cmp.Lexicographic.{slice_cmp}
use Rattle.std.specs.Ordering.{nat_cmp}
use Rattle.ipx_tables.proofs.by_number.name_order.Given as goal

-- the words so far are equal
abbrev pub invariant-loop-word : goal.invariant-loop-word
invariant-loop-word l = slice_cmp nat_cmp (drop (8 * l.word) l.a) (drop (8 * l.word) l.b) ≡ slice_cmp nat_cmp l.a l.b
