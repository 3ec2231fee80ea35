use Rattle.std.proofs.Common.{◌≡◌, ◌++◌, drop, map, take}
use Rattle.ipx_host.specs.Sessions.{heard_by}
use Rattle.ipx_host.proofs.sessions.hear_one.Given as goal

-- the connections up to here are heard, if they are to be
abbrev pub invariant-loop-session : goal.invariant-loop-session
invariant-loop-session l =
    l.sessions ≡ map (heard_by l.heard l.moment) (take l.session-index l.fn.sessions) ++ drop l.session-index l.fn.sessions
