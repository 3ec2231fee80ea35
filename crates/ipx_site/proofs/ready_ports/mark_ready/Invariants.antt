use Rattle.std.proofs.Common.{map}
use Rattle.mio.specs.Event.{event_token}
use Rattle.ipx_carrier.specs.ReadySet.{AreMarked}
use Rattle.ipx_site.specs.SiteMarks.{DifferInMarks, marks_in}
use Rattle.ipx_site.proofs.ready_ports.mark_ready.Given as goal

-- the ports are marked at which something came, by the events so far
abbrev pub invariant-loop-event : goal.invariant-loop-event
invariant-loop-event l = AreMarked (map (λ e. (event_token e.now).0) l.yielded) (marks_in l.fn.ports) (marks_in l.ports)
    × DifferInMarks l.fn.ports l.ports
