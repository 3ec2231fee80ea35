-- What a listening host counts, and what it logs of that. The entry points are `CountsNoted` and `LogsCounts`.
-- Nothing here is from a public standard.
use Rattle.std.specs.Prelude.{◌≡◌, ℕ, Bool, true, false, List}
use Rattle.ipx_sockets.specs.Moments.{IsLoggedIfDue, never_logged}
use Rattle.ipx_sockets.specs.declared.throttled_log.ThrottledLog.{ThrottledLog}
use Rattle.ipx_host.specs.SessionActions.{is_unheard}
use Rattle.ipx_host.specs.Sessions.{CountsRequest, evicted_for, is_heard_one, is_unheard_one, raised_if}
use Rattle.ipx_host.specs.declared.paced_host_core.PacedHostCore.{PacedHostCore}
use Rattle.ipx_host.specs.declared.sessions.Session.{Session}

-- how often it ran out of memory, how many connections never sent data, how many were evicted, how many
-- requests were turned away, and when each of the last three was logged
pub record ListenerCounts : Type 0 where
  pub refused : ℕ
  pub never_heard : ℕ
  pub evicted : ℕ
  pub turned_away : ℕ
  pub of_never_heard : ThrottledLog
  pub of_evicted : ThrottledLog
  pub of_turned_away : ThrottledLog

abbrev pub listener_counts : (refused never_heard evicted turned_away : ℕ) (of_never_heard of_evicted of_turned_away : ThrottledLog) → ListenerCounts
listener_counts refused never_heard evicted turned_away of_never_heard of_evicted of_turned_away = record {
  refused = refused;
  never_heard = never_heard;
  evicted = evicted;
  turned_away = turned_away;
  of_never_heard = of_never_heard;
  of_evicted = of_evicted;
  of_turned_away = of_turned_away;
}

-- nothing was counted or logged yet
abbrev pub nothing_counted : ListenerCounts
nothing_counted = listener_counts 0 0 0 0 never_logged never_logged never_logged

-- how many connections never sent data, how many were evicted, and how many requests were turned away. Each
-- count is logged at this time exactly if it is due
abbrev pub LogsCounts : ListenerCounts → ListenerCounts → ℕ → Type 0
LogsCounts old new now = IsLoggedIfDue old.never_heard now old.of_never_heard new.of_never_heard
    × IsLoggedIfDue old.evicted now old.of_evicted new.of_evicted
    × IsLoggedIfDue old.turned_away now old.of_turned_away new.of_turned_away

-- what is counted of the datagram that a core noted last: a connection that is evicted for it, and a request
-- that gets no slot
pub record CountsNoted (once : Bool) (core : PacedHostCore) (sessions : List Session)
    (old new : ListenerCounts) : Type 0 where
  pub never_heard : new.never_heard ≡ raised_if (is_unheard_one
      (evicted_for once core.came core.endpoint.network core.endpoint core.moment sessions)) old.never_heard
  pub evicted : new.evicted ≡ raised_if (is_heard_one
      (evicted_for once core.came core.endpoint.network core.endpoint core.moment sessions)) old.evicted
  pub turned_away : CountsRequest once core.came core.endpoint.network core.endpoint core.moment sessions
      old.turned_away new.turned_away

-- the same if a datagram was received. Otherwise nothing is counted
abbrev pub CountsIf : Bool → Bool → PacedHostCore → List Session → ListenerCounts → ListenerCounts → Type 0
CountsIf true once core sessions old new = CountsNoted once core sessions old new
CountsIf false once core sessions old new = (new.never_heard ≡ old.never_heard)
    × (new.evicted ≡ old.evicted) × (new.turned_away ≡ old.turned_away)

-- a connection that goes is counted if it was never heard from
abbrev pub with_gone : Session → ListenerCounts → ListenerCounts
with_gone c counts = record counts {
  never_heard = raised_if (is_unheard c.phase) counts.never_heard;
}

-- memory that is refused is counted
abbrev pub with_refused : Bool → ListenerCounts → ListenerCounts
with_refused refused counts = record counts { refused = raised_if refused counts.refused }
