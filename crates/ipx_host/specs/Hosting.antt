-- The steps of a listening host, one after another. In each step it takes a turn and notes what was received.
-- Then it writes what is left, takes data from its connections, and tends them. The entry points are
-- `Serves`, of a whole run, `ListensWell`, of a run that ends well, and `ListensUntil`, of any other. Nothing here
-- is from a public standard.
use Rattle.std.specs.Prelude.{◌≡◌, ◌≢◌, ◌⊎◌, ◌-◌, ◌^◌, ℕ, zero, suc, Bool, true, false, IsTrue, All, List, [], ◌∷◌, ◌++◌, length, Option, Some, None, Ok}
use Rattle.std.specs.Io.KnownBytes.{Appends}
use Rattle.ipx_carrier.specs.Mapping.{node_at}
use Rattle.ipx_carrier.specs.Turns.{Peers, Turn}
use Rattle.ipx_config.specs.AllowedPeers.{named_in}
use Rattle.ipx_config.specs.declared.host.HostConfig.{HostConfig}
use Rattle.ipx_wire.specs.declared.address.Address.{Address}
use Rattle.ipx_wire.specs.declared.address.Socket.{Socket}
use Rattle.spx_messages.specs.EndpointView.{buffers_at, held_at}
use Rattle.spx_messages.specs.Taking.{PeerEnd}
use Rattle.ipx_host.specs.Sessions.{NotesHeard, has_spoken}
use Rattle.ipx_host.specs.SessionLogs.{CountsIf, ListenerCounts, LogsCounts, nothing_counted}
use Rattle.ipx_host.specs.HostOutput.{Writes}
use Rattle.ipx_host.specs.Passing.{PassesEach, Take, bodies_of, takes_each}
use Rattle.ipx_host.specs.Tending.{Tidies}
use Rattle.ipx_host.specs.Turning.{TakesHostTurn, refused_after}
use Rattle.ipx_host.specs.declared.sessions.Session.{Session}
use Rattle.ipx_host.specs.declared.paced_host_core.PacedHostCore.{PacedHostCore}
use Rattle.ipx_host.specs.declared.listening.ListenOutcome.{ListenOutcome}
use Rattle.ipx_host.specs.declared.listening.ListenOutcome.TheVariants.{Ended, Lost, Unwritten, Unwaited}
use Rattle.ipx_host.specs.declared.running_host.Activity.{Activity}

-- the state of a host between two steps: its clock, its port and its core, its connections, what is left to
-- write, what its writer took, if known, and what it counted
pub record Host (K : Type 0) : Type 0 where
  pub around : K
  pub core : PacedHostCore
  pub sessions : List Session
  pub left : List ℕ
  pub written : Option (List ℕ)
  pub counts : ListenerCounts

abbrev pub host : {K : Type 0} → K → PacedHostCore → List Session → List ℕ → Option (List ℕ) → ListenerCounts → Host K
host around core sessions left written counts = record {
  around = around;
  core = core;
  sessions = sessions;
  left = left;
  written = written;
  counts = counts;
}

-- if a datagram was received, it is noted. Otherwise nothing changes
abbrev pub NotesIf : Bool → Bool → PacedHostCore → PacedHostCore → List Session → List Session → Type 0
NotesIf true once old new sessions sessions' = NotesHeard once old new sessions sessions'
NotesIf false once old new sessions sessions' = (new ≡ old) × (sessions' ≡ sessions)

-- a turn, what is noted of it, and what is counted. What was counted before is logged, if it is due
pub record HearsAndNotesAll {K : Type 0} (around around' : K) (old new : PacedHostCore) (sessions sessions' : List Session)
    (counts counts' : ListenerCounts) (once : Bool) (drives : K → Turn → K → Type 0) (peers : Peers) : Type 0 where
  pub seen : PacedHostCore
  pub turn : Activity
  pub turned : TakesHostTurn around around' drives peers old seen turn
  pub noted : NotesIf turn.heard once seen new sessions sessions'
  pub refused : counts'.refused ≡ refused_after turned counts.refused
  pub logs : LogsCounts counts counts' seen.moment
  pub counted : CountsIf turn.heard once seen sessions counts counts'

-- what was left is written, and then each connection passes on what it holds, in these takes
pub record WritesAndPasses (old new : PacedHostCore) (sessions sessions' : List Session) (waiting left : List ℕ)
    (written writes : Option (List ℕ)) (takes : List Take) : Type 0 where
  pub between : List ℕ
  pub writing : Option (List ℕ)
  pub first : Writes waiting between written writing
  pub passes : PassesEach old.endpoint new.endpoint between left writing writes sessions sessions'
  pub made : takes ≡ takes_each old.endpoint new.endpoint between left writing writes sessions sessions' passes
  pub core : new ≡ record old { endpoint = new.endpoint }

-- the same for the first connections, which move to the end of the list. The others are unchanged
pub record MovesSome (old new : PacedHostCore) (sessions sessions' : List Session) (waiting left : List ℕ)
    (written writes : Option (List ℕ)) (takes : List Take) : Type 0 where
  pub front : List Session
  pub front' : List Session
  pub rest : List Session
  pub before : sessions ≡ front ++ rest
  pub after : sessions' ≡ rest ++ front'
  pub moves : WritesAndPasses old new front front' waiting left written writes takes

-- the same for all connections, or for the first ones until something is left to write
abbrev pub MovesUntilFull : PacedHostCore → PacedHostCore → List Session → List Session → List ℕ → List ℕ → Option (List ℕ) → Option (List ℕ) → List Take → Type 0
MovesUntilFull old new sessions sessions' waiting left written writes takes =
    (some : MovesSome old new sessions sessions' waiting left written writes takes) × (some.rest ≢ [] → left ≢ [])

-- the view of a step: whether its turn did anything, the connections after it noted what was received, and the
-- takes from them
pub record StepView : Type 0 where
  pub active : Bool
  pub there : List Session
  pub takes : List Take

-- one step
pub record Steps {K : Type 0} (old new : Host K) (once : Bool) (stop : Option ListenOutcome)
    (drives : K → Turn → K → Type 0) (peers : Peers) (step : StepView) : Type 0 where
  pub heard : PacedHostCore
  pub counted : ListenerCounts
  pub hears : HearsAndNotesAll old.around new.around old.core heard old.sessions step.there old.counts counted once drives peers
  pub active : step.active ≡ hears.turn.active
  pub moved : PacedHostCore
  pub still : List Session
  pub moves : MovesUntilFull heard moved step.there still old.left new.left old.written new.written step.takes
  pub tidied : Tidies once moved new.core still new.sessions counted new.counts stop

-- a step in which the writer fails
pub record WriterBreaksOff {K : Type 0} (old new : Host K) (once : Bool) (drives : K → Turn → K → Type 0)
    (peers : Peers) (step : StepView) : Type 0 where
  pub heard : PacedHostCore
  pub hears : HearsAndNotesAll old.around new.around old.core heard old.sessions step.there old.counts new.counts once drives peers
  pub active : step.active ≡ hears.turn.active
  pub moves : MovesSome heard new.core step.there new.sessions old.left new.left old.written new.written step.takes

-- a step, by why it stops the host, if it does. The wait after a step changes nothing
abbrev pub StepsTo : {K : Type 0} → Host K → Host K → Bool → Option ListenOutcome → (K → Turn → K → Type 0) → Peers → StepView → Type 0
StepsTo old new once None drives peers step = Steps old new once None drives peers step
StepsTo old new once (Some Ended) drives peers step = Steps old new once (Some Ended) drives peers step
StepsTo old new once (Some Lost) drives peers step = Steps old new once (Some Lost) drives peers step
StepsTo old new once (Some Unwritten) drives peers step = WriterBreaksOff old new once drives peers step
StepsTo old new once (Some Unwaited) drives peers step = Steps old new once None drives peers step

-- this many steps, one after another, none of which stops the host
abbrev pub StepsWithoutStop : {K : Type 0} → ℕ → Host K → Host K → Bool → (K → Turn → K → Type 0) → Peers → List StepView → Type 0
StepsWithoutStop zero old new once drives peers steps = (new ≡ old) × (steps ≡ [])
StepsWithoutStop {K} (suc n) old new once drives peers steps = (last : Host K) × (before : List StepView)
    × (now : StepView) × (steps ≡ before ++ now ∷ [])
    × StepsWithoutStop n old last once drives peers before × Steps last new once None drives peers now

-- a whole run: steps, and one step that stops the host. The outcome is also Lost if none of 2^64 - 1 steps
-- did
abbrev pub Serves : {K : Type 0} → Host K → Host K → Bool → ListenOutcome → (K → Turn → K → Type 0) → Peers → List StepView → Type 0
Serves {K} old new once stop drives peers steps =
    ((count : ℕ) × (last : Host K) × (before : List StepView) × (now : StepView)
    × (steps ≡ before ++ now ∷ []) × StepsWithoutStop count old last once drives peers before
    × StepsTo last new once (Some stop) drives peers now)
    ⊎ ((stop ≡ Lost) × (count : ℕ) × (count ≡ 2 ^ 64 - 1)
    × StepsWithoutStop count old new once drives peers steps)

-- the takes of all steps, one after another, and the bodies of their messages
abbrev pub takes_of : List StepView → List Take
takes_of [] = []
takes_of (s ∷ ss) = s.takes ++ takes_of ss

abbrev pub bytes_of : List StepView → List ℕ
bytes_of steps = bodies_of (takes_of steps)

-- a run that ends well. Its writer took what was left to write, and then the bodies of the messages of its
-- takes, and nothing is left
abbrev pub ServesWell : {K : Type 0} → Host K → Bool → Option (List ℕ) → (K → Turn → K → Type 0) → Peers → List StepView → Type 0
ServesWell {K} old once writes drives peers steps = (new : Host K)
    × Serves old new once Ended drives peers steps × (new.left ≡ []) × (new.written ≡ writes)
    × Appends old.written writes (old.left ++ bytes_of steps)

-- a run that ends for this reason. Its writer took the first of what was left to write and then of the bodies of
-- the messages of its takes, and the rest is left
abbrev pub ServesUntil : {K : Type 0} → Host K → Bool → ListenOutcome → Option (List ℕ) → (K → Turn → K → Type 0) → Peers → List StepView → Type 0
ServesUntil {K} old once stop writes drives peers steps = (new : Host K)
    × Serves old new once stop drives peers steps × (new.written ≡ writes)
    × Writes (old.left ++ bytes_of steps) new.left old.written writes

-- if a connection was heard from, it has this id and this address
abbrev pub IsOneIfHeard : ℕ → Address → Session → Type 0
IsOneIfHeard id from c = has_spoken c ≡ true → (c.id ≡ id) × (c.from ≡ from)

-- the take that gives the end of the peer
abbrev pub end_of : ℕ → Take
end_of id = record { id = id; gave = Ok PeerEnd }

-- in all steps no connection but this one was heard from, and all takes are from it. The last take gives the
-- end of its peer, and no earlier one does
pub record HearsOneOut (steps : List StepView) (id : ℕ) (from : Address) : Type 0 where
  pub only : All (λ s. All (IsOneIfHeard id from) s.there) steps
  pub of_it : All (λ t. t.id ≡ id) (takes_of steps)
  pub earlier : List Take
  pub last : takes_of steps ≡ earlier ++ end_of id ∷ []
  pub no_other : All (λ t. t.gave ≢ Ok PeerEnd) earlier

-- a host as its file describes it, which listens at the socket of the file and nowhere else. It paces no
-- connection, holds none yet, has nothing to write, and counted nothing
pub record BeginsListening {K : Type 0} (file : HostConfig) (start : Host K) (peers : Peers)
    (written : Option (List ℕ)) : Type 0 where
  pub network : start.core.endpoint.network ≡ file.network
  pub node : start.core.endpoint.node ≡ node_at file.address
  pub router : start.core.endpoint.router ≡ node_at file.router
  pub among : peers ≡ (file.router ∷ []) ∷ []
  pub listens : buffers_at start.core.endpoint file.socket ≡ Some file.buffers
  pub alone : (s : Socket) → s.0 ≢ file.socket.0 → buffers_at start.core.endpoint s ≡ None
  pub unlinked : (id : ℕ) → held_at start.core.endpoint id ≡ None
  pub unasked : start.core.came ≡ None
  pub unpaced : start.core.paced ≡ None
  pub from : named_in start.core.from ≡ named_in file.from
  pub own : start.core.network ≡ file.network
  pub nobody : start.sessions ≡ []
  pub nothing : start.left ≡ []
  pub known : start.written ≡ written
  pub uncounted : start.counts ≡ nothing_counted

-- such a host has run until it ended well. It heard from one connection only, and took the end of that
-- connection last. Its writer took the bodies of the messages of that connection, one after another, and
-- nothing else
pub record ListensWell {K : Type 0} (file : HostConfig) (once : Bool)
    (written writes : Option (List ℕ)) (drives : K → Turn → K → Type 0) : Type 0 where
  pub start : Host K
  pub peers : Peers
  pub steps : List StepView
  pub begins : BeginsListening file start peers written
  pub serves : ServesWell start once writes drives peers steps
  pub id : ℕ
  pub from : Address
  pub one : HearsOneOut steps id from
  pub took : Appends written writes (bytes_of steps)

-- such a host has run until it ended for this reason. A connection ends it only with `once`. Its writer took the
-- first of the bodies of the messages that it took, one after another, and the rest is left to write
pub record ListensUntil {K : Type 0} (file : HostConfig) (once : Bool) (stop : ListenOutcome)
    (written writes : Option (List ℕ)) (drives : K → Turn → K → Type 0) : Type 0 where
  pub start : Host K
  pub peers : Peers
  pub steps : List StepView
  pub begins : BeginsListening file start peers written
  pub serves : ServesUntil start once stop writes drives peers steps
  pub lost : stop ≡ Lost → IsTrue once ⊎ (length steps ≡ 2 ^ 64 - 1)
  pub took : Writes (bytes_of steps) serves.0.left written writes
