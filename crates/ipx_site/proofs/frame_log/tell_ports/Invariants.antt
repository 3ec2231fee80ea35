use Rattle.std.proofs.Common.{◌≡◌, ◌<◌, ◌≤◌, ℕ, get_or}
use Rattle.ipx_site.specs.FrameLog.{mistakes}
use Rattle.ipx_sockets.specs.Moments.{IsLoggedIfDue, never_logged}
use Rattle.ipx_site.proofs.frame_log.tell_ports.Given as goal

-- the ports before this index are logged if they are due, and the others are unchanged
abbrev pub invariant-loop-place : goal.invariant-loop-place
invariant-loop-place g l =
    ((k : ℕ) → k < l.place → IsLoggedIfDue (get_or (mistakes l.mistake l.ports.ethernet.switches.items l.ports.port_indices.items) k 0) l.now (get_or l.fn.causes k never_logged) (get_or l.causes k never_logged))
    × ((k : ℕ) → l.place ≤ k → get_or l.causes k never_logged ≡ get_or l.fn.causes k never_logged)
