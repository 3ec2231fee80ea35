use Rattle.std.proofs.Common.{ℕ, ◌<◌, ◌^◌, ◌↔◌}
use Rattle.ipx_sockets.specs.Moments.{counts_of, IsOneDueOf, IsReached}
use Rattle.ipx_sockets.proofs.warning.next_of.Given as goal

abbrev pub invariant-loop-place : goal.invariant-loop-place
invariant-loop-place l = (t : ℕ) → t < 2 ^ 64 → IsReached l.first t ↔ IsOneDueOf l.place l.causes (counts_of l.warnings) t
