use Rattle.std.proofs.Common.{◌≡◌, ◌++◌, map, take, drop}
use Rattle.ipx_tables.specs.Marks.{right_mark}
use Rattle.ipx_tables.proofs.marks.put_right.Given as goal

-- the marks before the index are corrected
abbrev pub invariant-loop-mark : goal.invariant-loop-mark
invariant-loop-mark g l = l.marks ≡ map (right_mark g.T.Timed.moment l.slots) (take l.mark-index l.fn.marks) ++ drop l.mark-index l.fn.marks
