use Rattle.ipx_host.proofs.Slept.{StayUpTo}
use Rattle.ipx_host.proofs.idle.rest_of.Given as goal

-- for so long no action is due for those before
abbrev pub invariant-loop-session : goal.invariant-loop-session
invariant-loop-session l = StayUpTo l.core l.sessions l.session-index l.least
