use Rattle.std.proofs.Common.{◌≡◌, ◌++◌, length}
use Rattle.spx_messages.specs.Cut.{cut_of}
use Rattle.spx_messages.proofs.cutting.cut_bytes.Given as goal

abbrev pub invariant-loop-rest : goal.invariant-loop-rest
invariant-loop-rest l = l.units.items ++ cut_of (record { stream = l.stream; body = l.rest }) ≡ cut_of (record { stream = l.stream; body = l.bytes })

abbrev pub decreases-loop-rest : goal.decreases-loop-rest
decreases-loop-rest l = length l.rest
