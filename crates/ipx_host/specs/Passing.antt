-- What passes from a connection to an outlet, by takes one after another. Nothing here is from a public
-- standard.
use Rattle.std.specs.Prelude.{◌≡◌, ◌≢◌, ◌⊎◌, ℕ, zero, suc, true, List, [], ◌∷◌, ◌++◌, length, Option, Some, None, Result, Ok, Err}
use Rattle.spx_link.specs.Links.{count_of}
use Rattle.spx_messages.specs.Changes.{ChangesEnd, SameBut, SameSelf}
use Rattle.spx_messages.specs.EndpointView.{EndpointView, Held, held_at}
use Rattle.spx_messages.specs.Taking.{IsPushed, TakenView, Nothing, Part, PeerEnd, Whole, take_end}
use Rattle.spx_messages.specs.declared.fault.EndFault.{EndFault}
use Rattle.ipx_host.specs.SessionActions.{is_unheard}
use Rattle.ipx_host.specs.HostOutput.{Writes, left_of}
use Rattle.ipx_host.specs.declared.sessions.Session.{Session}
use Rattle.ipx_host.specs.declared.sessions.Phase.{Phase}
use Rattle.ipx_host.specs.declared.sessions.Phase.TheVariants as Standings
use Rattle.ipx_host.specs.declared.output.Outlet.{Outlet}

-- what is left to write after a take with this result: the body of the message that its unit ended, or what
-- was left before
abbrev pub left_with : Result TakenView EndFault → List ℕ → List ℕ
left_with (Ok Nothing) left = left
left_with (Ok Part) left = left
left_with (Ok (Whole m)) left = m.body
left_with (Ok PeerEnd) left = left
left_with (Err f) left = left

-- the phase of a connection after a take with this result. Only the end of its peer ends it
abbrev pub phase_with : Result TakenView EndFault → Phase → Phase
phase_with (Ok Nothing) phase = phase
phase_with (Ok Part) phase = phase
phase_with (Ok (Whole m)) phase = phase
phase_with (Ok PeerEnd) phase = Standings.Ended
phase_with (Err f) phase = phase

-- one take from a connection, whose id holds this. What it gave is to be written, and an end is noted
pub record Takes (h : Held) (old new : EndpointView) (output output' : Outlet)
    (session session' : Session) : Type 0 where
  pub held : ChangesEnd old new session.id (take_end h).1
  pub something : (take_end h).0 ≢ Ok Nothing
  pub left : left_of output' ≡ left_with (take_end h).0 (left_of output)
  pub noted : session' ≡ record session {
    phase = phase_with (take_end h).0 session.phase;
  }

-- nothing was taken from a connection, and nothing changes
pub record TakesNothing (old new : EndpointView) (output output' : Outlet)
    (session session' : Session) : Type 0 where
  pub held : SameBut old new
  pub kept : output' ≡ output
  pub same : session' ≡ session

-- what is held under an id after this many takes
abbrev pub held_after : ℕ → Held → Held
held_after zero h = h
held_after (suc n) h = (take_end (held_after n h)).1

-- the bodies of the messages that this many takes end, one after another
abbrev pub bodies_after : ℕ → Held → List ℕ
bodies_after zero h = []
bodies_after (suc n) h = bodies_after n h ++ left_with (take_end (held_after n h)).0 []

-- a writer took the first of these bytes, and the rest is left to write: what was left before, and then the
-- bodies that this many takes give. What is held after the takes is what they leave
abbrev pub PassesHeld : Held → Option Held → List ℕ → List ℕ → Option (List ℕ) → Option (List ℕ) → Type 0
PassesHeld h after waiting left written writes = (count : ℕ) × (after ≡ Some (held_after count h))
    × Writes (waiting ++ bodies_after count h) left written writes

-- the phase of a connection after this many takes
abbrev pub phase_after : ℕ → Held → Phase → Phase
phase_after zero h phase = phase
phase_after (suc n) h phase =
    phase_with (take_end (held_after n h)).0 (phase_after n h phase)

-- this many takes, none of which gave nothing. None comes after the peer's end was taken, before them or by one
-- of them
abbrev pub TakesWhileOpen : ℕ → Held → Phase → Type 0
TakesWhileOpen zero h phase = Unit {0}
TakesWhileOpen (suc n) h phase = TakesWhileOpen n h phase
    × (phase_after n h phase ≢ Standings.Ended) × ((take_end (held_after n h)).0 ≢ Ok Nothing)

-- what passes from a connection whose id holds this, if anything. Its takes pass to the outlet and the
-- writer, and determine its phase. Nothing is taken after the end of its peer, or if its link is gone
abbrev pub PassesFrom : Option Held → Option Held → List ℕ → List ℕ → Option (List ℕ) → Option (List ℕ) → Session → Session → Type 0
PassesFrom None after waiting left written writes session session' =
    (after ≡ None) × Writes waiting left written writes × (session' ≡ session)
PassesFrom (Some h) after waiting left written writes session session' = (count : ℕ)
    × (after ≡ Some (held_after count h))
    × Writes (waiting ++ bodies_after count h) left written writes
    × (session' ≡ record session { phase = phase_after count h session.phase })
    × TakesWhileOpen count h session.phase

-- one take: the id of its connection, and what the take gave
pub record Take : Type 0 where
  pub id : ℕ
  pub gave : Result TakenView EndFault

-- the bodies of the messages that takes gave, one after another
abbrev pub bodies_of : List Take → List ℕ
bodies_of [] = []
bodies_of (t ∷ ts) = left_with t.gave [] ++ bodies_of ts

-- this many takes of what is held under an id
abbrev pub takes_after : ℕ → ℕ → Held → List Take
takes_after id zero h = []
takes_after id (suc n) h =
    takes_after id n h ++ record { id = id; gave = (take_end (held_after n h)).0 } ∷ []

-- the takes from one connection
abbrev pub takes_from : (before after : Option Held) (waiting left : List ℕ) (written writes : Option (List ℕ)) (session session' : Session)
    → PassesFrom before after waiting left written writes session session' → List Take
takes_from None after waiting left written writes session session' p = []
takes_from (Some h) after waiting left written writes session session' p = takes_after session.id p.0 h

-- the most units that are taken from a connection in one turn
abbrev pub max_takes : ℕ
max_takes = 256

-- nothing more can be taken: the link is gone, or no unit is held. Or the first unit that is held is one of a
-- message, for which memory may be refused; no clause can say that it was
abbrev pub GivesNoMore : Option Held → Type 0
GivesNoMore None = Unit {0}
GivesNoMore (Some h) = ((take_end h).0 ≡ Ok Nothing) ⊎ IsPushed h

-- the turn of a connection ends only if it was not heard from, its end was taken, something is left to write,
-- the most units were taken in this turn, or nothing more can be taken
abbrev pub TurnEnds : (after : Option Held) (left : List ℕ) (session session' : Session) (takes : List Take) → Type 0
TurnEnds after left session session' takes = (is_unheard session.phase ≡ true)
    ⊎ ((session'.phase ≡ Standings.Ended)
    ⊎ ((left ≢ [])
    ⊎ ((length takes ≡ max_takes)
    ⊎ GivesNoMore after)))

-- what is held under any other id, the number of links, the id assigned last, and the listening sockets are
-- unchanged
pub record SameOthers (old new : EndpointView) (id : ℕ) : Type 0 where
  pub others : (q : ℕ) → q ≢ id → held_at new q ≡ held_at old q
  pub last : new.links.last ≡ old.links.last
  pub count : count_of new.links ≡ count_of old.links
  pub self : SameSelf old new
  pub heard : new.heard ≡ old.heard

-- what passes from one connection of a host in its turn, until the turn ends. Nothing is taken if it was not
-- heard from. If its end is taken in this pass, nothing is left to write. The same holds if its end was taken
-- before and nothing was left then
pub record PassesOne (old new : EndpointView) (waiting left : List ℕ)
    (written writes : Option (List ℕ)) (session session' : Session) : Type 0 where
  pub from : PassesFrom (held_at old session.id) (held_at new session.id) waiting left written writes session session'
  pub others : SameOthers old new session.id
  pub unheard : is_unheard session.phase ≡ true → (new ≡ old) × (session' ≡ session)
      × (takes_from (held_at old session.id) (held_at new session.id) waiting left written writes session session' from ≡ [])
  pub behind : (session.phase ≡ Standings.Ended → waiting ≡ [])
      → session'.phase ≡ Standings.Ended → left ≡ []
  pub ends : TurnEnds (held_at new session.id) left session session'
      (takes_from (held_at old session.id) (held_at new session.id) waiting left written writes session session' from)

-- what passes from connections, one after another, while nothing is left to write
abbrev pub PassesEach : EndpointView → EndpointView → List ℕ → List ℕ → Option (List ℕ) → Option (List ℕ) → List Session → List Session → Type 0
PassesEach old new waiting left written writes [] sessions =
    (sessions ≡ []) × (new ≡ old) × (left ≡ waiting) × (writes ≡ written)
PassesEach old new waiting left written writes (c ∷ cs) sessions = (mid : EndpointView)
    × (between : List ℕ) × (writing : Option (List ℕ)) × (c' : Session) × (cs' : List Session)
    × (sessions ≡ c' ∷ cs') × PassesOne old mid waiting between written writing c c'
    × PassesEach mid new between left writing writes cs cs' × (waiting ≡ [])

-- what passes from the first connection while nothing is left to write. It then moves to the end of the list
abbrev pub PassesFirst : EndpointView → EndpointView → List ℕ → List ℕ → Option (List ℕ) → Option (List ℕ) → List Session → List Session → Type 0
PassesFirst old new waiting left written writes sessions sessions' =
    (c c' : Session) × (rest : List Session) × (sessions ≡ c ∷ rest) × (sessions' ≡ rest ++ c' ∷ [])
    × PassesOne old new waiting left written writes c c' × (waiting ≡ [])

-- the same for the first connections, one after another, which move to the end. The others are unchanged
abbrev pub PassesSome : EndpointView → EndpointView → List ℕ → List ℕ → Option (List ℕ) → Option (List ℕ) → List Session → List Session → Type 0
PassesSome old new waiting left written writes sessions sessions' =
    (first first' rest : List Session) × (sessions ≡ first ++ rest) × (sessions' ≡ rest ++ first')
    × PassesEach old new waiting left written writes first first'

-- the same for all connections, or for the first ones until something is left to write. The next turn begins
-- with the connection after them
abbrev pub PassesUntilFull : EndpointView → EndpointView → List ℕ → List ℕ → Option (List ℕ) → Option (List ℕ) → List Session → List Session → Type 0
PassesUntilFull old new waiting left written writes sessions sessions' =
    (some : PassesSome old new waiting left written writes sessions sessions') × (some.2 ≢ [] → left ≢ [])

-- the takes from connections, one after another
abbrev pub takes_each : (old new : EndpointView) (waiting left : List ℕ) (written writes : Option (List ℕ)) (sessions sessions' : List Session)
    → PassesEach old new waiting left written writes sessions sessions' → List Take
takes_each old new waiting left written writes [] sessions' p = []
takes_each old new waiting left written writes (c ∷ cs) sessions' p =
    takes_from (held_at old c.id) (held_at p.0 c.id) waiting p.1 written p.2 c p.3 p.6.from
    ++ takes_each p.0 new p.1 left p.2 writes cs p.4 p.7
