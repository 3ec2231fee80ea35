-- How a listening host tends the connections that it holds. Nothing here is from a public standard.
use Rattle.std.specs.Prelude.{◌≡◌, ◌≤◌, ◌<◌, ◌-◌, ℕ, zero, suc, Bool, List, All, take, remove, slice_get, slice_set, Option, Some, None}
use Rattle.spx_messages.specs.EndpointView.{EndpointView}
use Rattle.ipx_host.specs.Sessions.{Asks, IsAskedUnless, LetsLinkGo}
use Rattle.ipx_host.specs.SessionLogs.{ListenerCounts, with_gone, with_refused}
use Rattle.ipx_host.specs.SessionActions.{IsSessionAction}
use Rattle.ipx_host.specs.ListenOutcomes.{parted}
use Rattle.ipx_host.specs.Transfer.{state_at}
use Rattle.ipx_host.specs.declared.sessions.Session.{Session}
use Rattle.ipx_host.specs.declared.sessions.SessionAction.{SessionAction}
use Rattle.ipx_host.specs.declared.sessions.SessionAction.TheVariants as ActionsOfSessions
use Rattle.ipx_host.specs.declared.paced_host_core.PacedHostCore.{PacedHostCore}
use Rattle.ipx_host.specs.declared.listening.ListenOutcome.{ListenOutcome}

-- the action that is due for a connection of a host, by its link and its silence
abbrev pub IsActionFor : PacedHostCore → Session → SessionAction → Type 0
IsActionFor core c fate =
    IsSessionAction fate c.phase (state_at core.endpoint c.id) (core.moment - c.heard)

-- no action is due for a connection
abbrev pub JustStays : PacedHostCore → Session → Type 0
JustStays core c = IsActionFor core c ActionsOfSessions.Stays

-- the connection at a place is removed, and its link is released. If it was never heard from, that is counted.
-- Its action determines whether the host then stops
abbrev pub Parts : Bool → Session → ℕ → SessionAction → EndpointView → EndpointView → List Session → List Session → ListenerCounts → ListenerCounts → Option ListenOutcome → Type 0
Parts once c place fate old new sessions sessions' counts counts' stop = LetsLinkGo old new c.id
    × (sessions' ≡ remove sessions place) × (stop ≡ parted once fate c.phase) × (counts' ≡ with_gone c counts)

-- what is done with the connection at a place, by its action. One that is to be asked is asked if its link takes
-- messages, unless memory is refused. That is counted, and nothing else is. Only if it is not asked, its silence
-- starts again
abbrev pub DoesAction : Bool → ℕ → Session → ℕ → SessionAction → EndpointView → EndpointView → List Session → List Session → ListenerCounts → ListenerCounts → Option ListenOutcome → Type 0
DoesAction once now c place ActionsOfSessions.Stays old new sessions sessions' counts counts' stop =
    (new ≡ old) × (sessions' ≡ sessions) × (stop ≡ None) × (counts' ≡ counts)
DoesAction once now c place ActionsOfSessions.Asks old new sessions sessions' counts counts' stop = (c' : Session)
    × Asks now old new c c' × (sessions' ≡ slice_set sessions place c') × (stop ≡ None)
    × (refused : Bool) × IsAskedUnless refused old new c c' × (counts' ≡ with_refused refused counts)
DoesAction once now c place ActionsOfSessions.Over old new sessions sessions' counts counts' stop =
    Parts once c place ActionsOfSessions.Over old new sessions sessions' counts counts' stop
DoesAction once now c place ActionsOfSessions.GivenUp old new sessions sessions' counts counts' stop =
    Parts once c place ActionsOfSessions.GivenUp old new sessions sessions' counts counts' stop

abbrev pub Tends : Bool → PacedHostCore → Session → ℕ → EndpointView → List Session → List Session → ListenerCounts → ListenerCounts → Option ListenOutcome → Type 0
Tends once core c place new sessions sessions' counts counts' stop = (fate : SessionAction) × IsActionFor core c fate
    × DoesAction once core.moment c place fate core.endpoint new sessions sessions' counts counts' stop

-- one step of tending, for the first connection for which an action is due
pub record TendsFirst (once : Bool) (old new : PacedHostCore) (sessions sessions' : List Session)
    (counts counts' : ListenerCounts) (stop : Option ListenOutcome) : Type 0 where
  pub place : ℕ
  pub session : Session
  pub there : slice_get sessions place ≡ Some session
  pub first : All (JustStays old) (take place sessions)
  pub something : JustStays old session → ⊥
  pub tends : Tends once old session place new.endpoint sessions sessions' counts counts' stop
  pub core : new ≡ record old { endpoint = new.endpoint }

-- this many steps of tending, one after another, none of which stops the host
abbrev pub TendsOn : ℕ → Bool → PacedHostCore → PacedHostCore → List Session → List Session → ListenerCounts → ListenerCounts → Type 0
TendsOn zero once old new sessions sessions' counts counts' =
    (new ≡ old) × (sessions' ≡ sessions) × (counts' ≡ counts)
TendsOn (suc n) once old new sessions sessions' counts counts' = (mid : PacedHostCore) × (among : List Session)
    × (between : ListenerCounts) × TendsOn n once old mid sessions among counts between
    × TendsFirst once mid new among sessions' between counts' None

-- steps of tending until no action is due, until 16 were done, or until one stops the host
abbrev pub Tidies : Bool → PacedHostCore → PacedHostCore → List Session → List Session → ListenerCounts → ListenerCounts → Option ListenOutcome → Type 0
Tidies once old new sessions sessions' counts counts' None = (count : ℕ) × (count ≤ 16)
    × TendsOn count once old new sessions sessions' counts counts' × (count < 16 → All (JustStays new) sessions')
Tidies once old new sessions sessions' counts counts' (Some stop) = (count : ℕ) × (count < 16)
    × (mid : PacedHostCore) × (among : List Session) × (between : ListenerCounts)
    × TendsOn count once old mid sessions among counts between
    × TendsFirst once mid new among sessions' between counts' (Some stop)
