use Rattle.std.proofs.Common.{◌≡◌, ◌<◌, ◌≤◌, ℕ, get_or}
use Rattle.ipx_sockets.specs.Moments.{counts_of, IsLoggedIfDue, never_logged}
use Rattle.ipx_sockets.proofs.warning.tell_each.Given as goal

-- the causes before this index are logged if they are due, and the others are unchanged
abbrev pub invariant-loop-place : goal.invariant-loop-place
invariant-loop-place g l =
    ((k : ℕ) → k < l.place → IsLoggedIfDue (get_or (counts_of l.warnings) k 0) l.now (get_or l.fn.causes k never_logged) (get_or l.causes k never_logged))
    × ((k : ℕ) → l.place ≤ k → get_or l.causes k never_logged ≡ get_or l.fn.causes k never_logged)
