use Rattle.std.proofs.Common.{take}
use Rattle.std.specs.Prelude.{All}
use Rattle.ipx_host.specs.Tending.{JustStays}
use Rattle.ipx_host.proofs.idle.first_to_tend.Given as goal

-- no action is due for those before
abbrev pub invariant-loop-place : goal.invariant-loop-place
invariant-loop-place l = All (JustStays l.core) (take l.place l.sessions)
