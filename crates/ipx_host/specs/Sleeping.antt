-- How long a host waits. Until then, its links have nothing to do by themselves, and its connections need no
-- action because of their silence. Nothing here is from a public standard.
use Rattle.std.specs.Prelude.{◌≡◌, ◌≤◌, ◌<◌, ◌⊎◌, ◌^◌, ◌-◌, ◌+◌, ℕ, Bool, List, Option, Some, All, IfSome, IsSomeAnd, is_some, slice_get, if◌then◌else◌}
use Rattle.spx_link.specs.Due.{IsQuiet}
use Rattle.spx_link.specs.LinkView.{LinkView}
use Rattle.spx_link.specs.Links.{LinksView, link_at}
use Rattle.ipx_host.specs.SessionActions.{IsSessionAction}
use Rattle.ipx_host.specs.Paced.{HoldsBack, IsAwake, paced_due}
use Rattle.ipx_sockets.specs.Polling.{WaitsOnce}
use Rattle.ipx_host.specs.Transfer.{state_at}
use Rattle.ipx_sockets.specs.declared.poller.Poller.{Poller}
use Rattle.ipx_host.specs.declared.sessions.Session.{Session}
use Rattle.ipx_host.specs.declared.sessions.SessionAction.TheVariants.{Stays}
use Rattle.ipx_host.specs.declared.paced_host_core.PacedHostCore.{PacedHostCore}

-- from this time on, the polls of some link send something or give the link up
abbrev pub IsDueFrom : LinksView → ℕ → Type 0
IsDueFrom links moment = (id : ℕ) × (l : LinkView) × (link_at links id ≡ Some l)
    × ((t : ℕ) → moment ≤ t → IsQuiet l t → ⊥)

-- a time that a host may wait, at most the time that was asked for. Until then no poll of any link, as it is
-- now, sends anything or gives the link up, at any time that the clock can show. The wait ends no later than
-- the plan for the paced connection, if there is one, may change. If it is less than was asked for, the polls
-- of some link do so from then on, or the plan may change then. The wait is at most a millisecond if the pacer
-- holds something back, and at most a minute if units are outstanding
pub record IsSleep (core : PacedHostCore) (most time : ℕ) : Type 0 where
  pub few : time ≤ most
  pub quiet : (id t : ℕ) (l : LinkView) → link_at core.endpoint.links id ≡ Some l
      → core.moment ≤ t → t < core.moment + time → t < 2 ^ 64 → IsQuiet l t
  pub planned : IfSome (paced_due core.paced core.moment) (λ at. time ≤ at - core.moment)
  pub due : time < most
      → IsDueFrom core.endpoint.links (core.moment + time)
      ⊎ IsSomeAnd (paced_due core.paced core.moment) (λ at. time ≡ at - core.moment)
  pub soon : HoldsBack core.paced → time ≤ 1
  pub awake : IsAwake core.paced → time ≤ 60000

-- no action is due for a connection at this time, if nothing was received and its link is unchanged
abbrev pub JustStaysAt : PacedHostCore → ℕ → Session → Type 0
JustStaysAt core t c = IsSessionAction Stays c.phase (state_at core.endpoint c.id) (t - c.heard)

-- no action is due for a connection for this long, which is at most ten seconds. If it is less, one is due then
pub record StaysFor (core : PacedHostCore) (c : Session) (time : ℕ) : Type 0 where
  pub most : time ≤ 10000
  pub stays : (t : ℕ) → core.moment ≤ t → t < core.moment + time → t < 2 ^ 64 → JustStaysAt core t c
  pub over : time < 10000 → JustStaysAt core (core.moment + time) c → ⊥

-- no action is due for any of these connections for this long, which is at most ten seconds. If it is less, one
-- is due then. So it is 0 if one is due now
pub record AllStayFor (core : PacedHostCore) (sessions : List Session) (time : ℕ) : Type 0 where
  pub most : time ≤ 10000
  pub stay : (t : ℕ) → core.moment ≤ t → t < core.moment + time → t < 2 ^ 64
      → All (JustStaysAt core t) sessions
  pub over : time < 10000 → (place : ℕ) × (c : Session) × (slice_get sessions place ≡ Some c)
      × (JustStaysAt core (core.moment + time) c → ⊥)

-- the longest wait of a sending host. It is a second if the host prints the progress, or if its peer's end
-- was seen. Otherwise it is ten seconds
abbrev pub longest_wait : Bool → Option ℕ → ℕ
longest_wait shows left = if shows then 1000 else (if is_some left then 1000 else 10000)

-- after a step a sending host waits this long, once, or not at all
abbrev pub MayWait : Bool → Option ℕ → PacedHostCore → Poller → Poller → Type 0
MayWait shows left core old new = (new ≡ old)
    ⊎ ((time : ℕ) × IsSleep core (longest_wait shows left) time × WaitsOnce time old new)

-- after a step a listening host waits this long, once, or not at all. It waits only while no action is due for
-- any connection and no link has anything to do, and at most ten seconds
abbrev pub MayRest : PacedHostCore → List Session → Poller → Poller → Type 0
MayRest core sessions old new = (new ≡ old)
    ⊎ ((rest time : ℕ) × AllStayFor core sessions rest × IsSleep core rest time × WaitsOnce time old new)
