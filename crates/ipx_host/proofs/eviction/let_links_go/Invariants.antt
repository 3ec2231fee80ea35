use Rattle.std.proofs.Common.{take}
use Rattle.ipx_host.specs.Sessions.{LetsLinksGo}
use Rattle.ipx_host.proofs.eviction.let_links_go.Given as goal

-- the links of those before went
abbrev pub invariant-loop-session : goal.invariant-loop-session
invariant-loop-session l = LetsLinksGo (take l.session-index l.sessions) l.fn.endpoint l.endpoint
