-- The connections that a listening host holds, as they are accepted, heard from and released. Nothing here is
-- from a public standard.
use Rattle.std.specs.Prelude.{◌≡◌, ◌≢◌, ◌≤◌, ◌↔◌, ◌⊎◌, ◌==◌, ◌&&◌, ◌||◌, ◌+◌, ◌-◌, ℕ, Bool, true, false, not, IsTrue, List, [], ◌∷◌, ◌++◌, length, map, filter, position, remove, count_by, slice_get, slice_set, nat_eq, nat_le, nat_lt, is_some, Option, Some, None, IfSome, MatchOption, if◌then◌else◌}
use Rattle.std.specs.List.{list_any}
use Rattle.std.specs.Cmp.Lexicographic.{pointwise}
use Rattle.std.specs.Coded.{Unit-prop}
use Rattle.std.proofs.Props.{props}
use Rattle.spx_link.specs.Offer.{offer_link}
use Rattle.spx_link.specs.declared.state.State.{State}
use Rattle.spx_link.specs.declared.state.State.TheVariants as States
use Rattle.spx_messages.specs.Cut.{cut_of}
use Rattle.spx_messages.specs.Changes.{ChangesEnd, ReleasesEnd, SameBut}
use Rattle.spx_messages.specs.EndpointView.{EndpointView, Held, held_at}
use Rattle.ipx_carrier.specs.Counting.{counted, raised}
use Rattle.ipx_config.specs.AllowedPeers.{home_network}
use Rattle.ipx_wire.specs.declared.address.Address.{Address}
use Rattle.ipx_wire.specs.declared.address.Network.{Network}
use Rattle.ipx_host.specs.Transfer.{state_at}
use Rattle.ipx_host.specs.SessionActions.{ends, is_unheard, phase_asked, phase_heard}
use Rattle.ipx_host.specs.declared.sessions.Session.{Session}
use Rattle.ipx_host.specs.declared.sessions.Phase.TheVariants as Standings
use Rattle.ipx_host.specs.declared.paced_host_core.Accepted.{Accepted}
use Rattle.ipx_host.specs.declared.paced_host_core.Arrival.{Arrival}
use Rattle.ipx_host.specs.declared.paced_host_core.Arrival.TheVariants as Cames
use Rattle.ipx_host.specs.declared.paced_host_core.PacedHostCore.{PacedHostCore}

-- a connection on which a datagram is received at this time
abbrev pub once_heard : ℕ → Session → Session
once_heard now c = record c { heard = now; phase = phase_heard c.phase }

-- a datagram with an id is received: the connection with that id notes it, and no other
abbrev pub heard_by : ℕ → ℕ → Session → Session
heard_by id now c = if c.id == id then once_heard now c else c

-- a connection that was accepted at this time
abbrev pub session_of : Accepted → ℕ → Session
session_of a now = record { id = a.id; from = a.from; heard = now; phase = Standings.New }

-- the link of an id is there and is released, with its partial message, and nothing else changes. If there is
-- none, nothing changes
pub record LetsLinkGo (old new : EndpointView) (id : ℕ) : Type 0 where
  pub goes : ((held_at old id ≢ None) × ReleasesEnd old new id) ⊎ ((held_at old id ≡ None) × SameBut old new)
  pub said : new.said ≡ old.said
  pub heard : new.heard ≡ old.heard

-- two addresses belong to one node of one network, for a host on this network
abbrev pub is_same_node : Network → Address → Address → Bool
is_same_node own a b = home_network own a == home_network own b && pointwise nat_eq a.node.0 b.node.0

abbrev pub has_spoken : Session → Bool
has_spoken c = not (is_unheard c.phase)

abbrev pub is_ended : Session → Bool
is_ended c = ends c.phase

-- a connection belongs to the node of an address
abbrev pub is_of_node : Network → Address → Session → Bool
is_of_node own from c = is_same_node own c.from from

-- a connection was not heard from, and belongs to the node of an address
abbrev pub is_unheard_of : Network → Address → Session → Bool
is_unheard_of own from c = is_unheard c.phase && is_of_node own from c

-- a host has no slot for one more connection from an address: with `once` if one was heard from, or if 16
-- are held, or 8 of its node, or 4 of its node that were not heard from
abbrev pub HasNoPlaceFor : Bool → Network → Address → List Session → Type 0
HasNoPlaceFor once own from sessions = (IsTrue once × (list_any has_spoken sessions ≡ true))
    ⊎ (16 ≤ length sessions) ⊎ (8 ≤ count_by (is_of_node own from) sessions)
    ⊎ (4 ≤ count_by (is_unheard_of own from) sessions)

-- a connection is accepted: if there is a slot, it is added last, otherwise its link is released
abbrev pub Admits : Bool → Session → EndpointView → EndpointView → List Session → List Session → Type 0
Admits once c old new sessions sessions' =
    ((HasNoPlaceFor once old.network c.from sessions → ⊥) × (sessions' ≡ sessions ++ c ∷ []) × (new ≡ old))
    ⊎ (HasNoPlaceFor once old.network c.from sessions × (sessions' ≡ sessions) × LetsLinkGo old new c.id)

-- the links of connections are released, one after another
abbrev pub LetsLinksGo : List Session → EndpointView → EndpointView → Type 0
LetsLinksGo [] old new = new ≡ old
LetsLinksGo (c ∷ cs) old new = (mid : EndpointView) × LetsLinkGo old mid c.id × LetsLinksGo cs mid new

-- with `once` only the first connection that was heard from, if there is one, is kept: the others are
-- released
abbrev pub KeepsHeard : Bool → EndpointView → EndpointView → List Session → List Session → Type 0
KeepsHeard false old new sessions sessions' = (sessions' ≡ sessions) × (new ≡ old)
KeepsHeard true old new sessions sessions' = MatchOption (position has_spoken sessions)
    ((sessions' ≡ sessions) × (new ≡ old))
    (λ place. IfSome (slice_get sessions place) (λ c. sessions' ≡ c ∷ [])
    × LetsLinksGo (remove sessions place) old new)

-- a connection was not heard from, and was accepted, or could not be probed, 1.5 seconds ago or longer. So it
-- had half a second to answer a probe
abbrev pub is_unanswered : ℕ → Session → Bool
is_unanswered now c = is_unheard c.phase && nat_le 1500 (now - c.heard)

-- nothing was received on a connection for ten seconds, or it could not be probed so long ago
abbrev pub is_silent : ℕ → Session → Bool
is_silent now c = nat_le 10000 (now - c.heard)

-- a link in this state is Live: its peer has not ended
abbrev pub is_live : Option State → Bool
is_live None = false
is_live (Some States.Opening) = false
is_live (Some States.Live) = true
is_live (Some States.Ending) = false
is_live (Some States.PeerEnded) = false
is_live (Some States.Confirmed) = false
is_live (Some States.Lost) = false

-- a connection may be evicted if it is silent and its peer has not ended
abbrev pub may_go : EndpointView → ℕ → Session → Bool
may_go e now c = is_silent now c && is_live (state_at e c.id)

-- the node of one address has more connections than the node of another
abbrev pub has_more : Network → List Session → Address → Address → Bool
has_more own sessions a b =
    nat_lt (count_by (is_of_node own b) sessions) (count_by (is_of_node own a) sessions)

-- a connection that was not heard from yet keeps another from being evicted for a request, if it is of the
-- node that asks, or of another node than that connection
abbrev pub protects : Network → Address → Session → Session → Bool
protects own asker c d =
    is_unheard d.phase && (is_of_node own asker d || not (is_of_node own c.from d))

-- it may be evicted for a request from an address: it is of the node of that address, or its node has more
-- connections than that node, and no connection that was not heard from yet protects it
abbrev pub may_go_for : Network → EndpointView → ℕ → Address → List Session → Session → Bool
may_go_for own e now asker sessions c =
    may_go e now c && (is_of_node own asker c || has_more own sessions c.from asker)
    && not (list_any (protects own asker c) sessions)

-- a connection goes before another if it may be evicted for that request, and its node has more connections,
-- or as many and it was silent for longer
abbrev pub goes_before : Network → EndpointView → ℕ → Address → List Session → Session → Session → Bool
goes_before own e now asker sessions d c = may_go_for own e now asker sessions d
    && (has_more own sessions d.from c.from
    || (not (has_more own sessions c.from d.from) && nat_lt d.heard c.heard))

-- the connection that is evicted for a request from an address: it may be, and no other goes before it
abbrev pub is_to_go : Network → EndpointView → ℕ → Address → List Session → Session → Bool
is_to_go own e now asker sessions c = may_go_for own e now asker sessions c
    && not (list_any (λ d. goes_before own e now asker sessions d c) sessions)

-- the connection that is evicted for a request of a node that is below its limit: the first unanswered one, or
-- if there is none, and without `once`, a silent one of that node or of a node that has more connections
abbrev pub place_of_any : Bool → Network → EndpointView → ℕ → Address → List Session → Option ℕ
place_of_any once own e now asker sessions =
    let unanswered = position (is_unanswered now) sessions in
    if once || is_some unanswered then unanswered
    else position (is_to_go own e now asker sessions) sessions

-- a connection of the node of an address may be evicted, and of those none was silent for longer
abbrev pub is_own_silent : Network → EndpointView → ℕ → Address → Session → Bool
is_own_silent own e now from c = may_go e now c && is_of_node own from c

abbrev pub is_first_own : Network → EndpointView → ℕ → Address → List Session → Session → Bool
is_first_own own e now from sessions c = is_own_silent own e now from c
    && not (list_any (λ d. is_own_silent own e now from d && nat_lt d.heard c.heard) sessions)

-- the node of an address has 8 connections, or 4 that were not heard from
abbrev pub is_at_limit : Network → Address → List Session → Bool
is_at_limit own from sessions = nat_le 8 (count_by (is_of_node own from) sessions)
    || nat_le 4 (count_by (is_unheard_of own from) sessions)

-- the first unanswered connection of that node
abbrev pub place_of_own_unanswered : Network → ℕ → Address → List Session → Option ℕ
place_of_own_unanswered own now from sessions =
    position (λ c. is_unanswered now c && is_of_node own from c) sessions

-- the connection that is evicted for another one of its own node, if the node has as many as it may have: the
-- first unanswered one, or if each was heard from, and without `once`, a silent one
abbrev pub place_of_own : Bool → Network → EndpointView → ℕ → Address → List Session → Option ℕ
place_of_own once own e now from sessions =
    let unanswered = place_of_own_unanswered own now from sessions in
    if not (is_at_limit own from sessions) then None
    else (if once || is_some unanswered then unanswered
    else (if list_any (is_unheard_of own from) sessions then None
    else position (is_first_own own e now from sessions) sessions))

-- the connection that is evicted for a request that found no link: a node that is at its limit evicts only its
-- own connections
abbrev pub place_to_free : Bool → Network → EndpointView → ℕ → Address → List Session → Option ℕ
place_to_free once own e now asker sessions =
    if is_at_limit own asker sessions then place_of_own once own e now asker sessions
    else place_of_any once own e now asker sessions

-- the connection at a place is evicted and its link released, if there is such a place
abbrev pub Evicts : Option ℕ → EndpointView → EndpointView → List Session → List Session → Type 0
Evicts found old new sessions sessions' = MatchOption found ((sessions' ≡ sessions) × (new ≡ old))
    (λ place. (sessions' ≡ remove sessions place)
    × IfSome (slice_get sessions place) (λ c. LetsLinkGo old new c.id))

-- there was no link for a request: a connection is evicted, if there is one to evict
abbrev pub MakesSpace : Bool → ℕ → Address → EndpointView → EndpointView → List Session → List Session → Type 0
MakesSpace once now asker old new sessions sessions' =
    Evicts (place_to_free once old.network old now asker sessions) old new sessions sessions'

-- the connections of other nodes than that of an address
abbrev pub of_others : Network → Address → List Session → List Session
of_others own from sessions = filter (λ c. not (is_of_node own from c)) sessions

-- a request of a node that is at its limit evicts only connections of that node: those of other nodes stay
abbrev pub SparesOthers : Network → Address → List Session → List Session → Type 0
SparesOthers own asker sessions sessions' = IsTrue (is_at_limit own asker sessions)
    → of_others own asker sessions' ≡ of_others own asker sessions

-- the sessions without the one at a place, if there is such a place
abbrev pub without : Option ℕ → List Session → List Session
without None sessions = sessions
without (Some place) sessions = remove sessions place

-- a connection was accepted at this time: if its node has as many as it may have, an unanswered or silent one
-- of these may be evicted. Then it is added if there is a slot
abbrev pub AdmitsRequest : Bool → ℕ → Accepted → EndpointView → EndpointView → List Session → List Session → Type 0
AdmitsRequest once now a old new sessions sessions' = (mid : EndpointView) × (between : List Session)
    × Evicts (place_of_own once old.network old now a.from sessions) old mid sessions between
    × Admits once (session_of a now) mid new between sessions'

-- a count, raised by one if this holds
abbrev pub raised_if : Bool → ℕ → ℕ
raised_if more n = if more then raised n else n

-- the connection at a place, if there is such a place
abbrev pub session_at : Option ℕ → List Session → Option Session
session_at None sessions = None
session_at (Some place) sessions = slice_get sessions place

-- there is a connection, and it was heard from
abbrev pub is_heard_one : Option Session → Bool
is_heard_one None = false
is_heard_one (Some c) = has_spoken c

-- there is a connection, and it was never heard from
abbrev pub is_unheard_one : Option Session → Bool
is_unheard_one None = false
is_unheard_one (Some c) = is_unheard c.phase

-- how many of these connections were never heard from
abbrev pub unheard_in : List Session → ℕ
unheard_in sessions = count_by (λ c. is_unheard c.phase) sessions

-- of these connections so many go that were never heard from, and the count rises by as many
abbrev pub CountsUnheard : List Session → List Session → ℕ → ℕ → Type 0
CountsUnheard sessions sessions' count count' = (gone : ℕ)
    × (unheard_in sessions ≡ unheard_in sessions' + gone)
    × (((gone ≡ 0) × (count' ≡ count)) ⊎ (count' ≡ counted (count + gone)))

-- a request is counted exactly if there is no slot for its connection
abbrev pub CountsTurnedAway : Bool → Network → Address → List Session → ℕ → ℕ → Type 0
CountsTurnedAway once own from sessions count count' = (is : Bool)
    × (IsTrue is ↔ HasNoPlaceFor once own from sessions) × (count' ≡ raised_if is count)

-- how a host handles what its core noted: a connection is heard from, or one is accepted, or one is evicted
abbrev pub DoesNoted : Bool → Option Arrival → ℕ → EndpointView → EndpointView → List Session → List Session → Type 0
DoesNoted once None now old new sessions sessions' = (sessions' ≡ sessions) × (new ≡ old)
DoesNoted once (Some (Cames.Heard id)) now old new sessions sessions' =
    KeepsHeard once old new (map (heard_by id now) sessions) sessions'
DoesNoted once (Some (Cames.Accepted a)) now old new sessions sessions' =
    AdmitsRequest once now a old new sessions sessions'
DoesNoted once (Some (Cames.NoRoom asker)) now old new sessions sessions' =
    MakesSpace once now asker old new sessions sessions'

-- requests that get no slot are counted: one whose connection is not held, and one that found no link
abbrev pub CountsRequest : Bool → Option Arrival → Network → EndpointView → ℕ → List Session → ℕ → ℕ → Type 0
CountsRequest once None own e now sessions count count' = count' ≡ count
CountsRequest once (Some (Cames.Heard id)) own e now sessions count count' = count' ≡ count
CountsRequest once (Some (Cames.Accepted a)) own e now sessions count count' = CountsTurnedAway once own
    a.from (without (place_of_own once own e now a.from sessions) sessions) count count'
CountsRequest once (Some (Cames.NoRoom asker)) own e now sessions count count' = count' ≡ raised count

-- the address that asks for a connection in what the core noted
abbrev pub asker_of : Option Arrival → Option Address
asker_of None = None
asker_of (Some (Cames.Heard id)) = None
asker_of (Some (Cames.Accepted a)) = Some a.from
asker_of (Some (Cames.NoRoom asker)) = Some asker

-- the connection that is evicted for what the core noted: a request of a node at its limit, or one that found
-- no link
abbrev pub evicted_for : Bool → Option Arrival → Network → EndpointView → ℕ → List Session → Option Session
evicted_for once None own e now sessions = None
evicted_for once (Some (Cames.Heard id)) own e now sessions = None
evicted_for once (Some (Cames.Accepted a)) own e now sessions =
    session_at (place_of_own once own e now a.from sessions) sessions
evicted_for once (Some (Cames.NoRoom asker)) own e now sessions =
    session_at (place_to_free once own e now asker sessions) sessions

-- a host handles what its core noted last, once
abbrev pub NotesHeard : Bool → PacedHostCore → PacedHostCore → List Session → List Session → Type 0
NotesHeard once old new sessions sessions' =
    (new ≡ record old { endpoint = new.endpoint; came = None })
    × DoesNoted once old.came old.moment old.endpoint new.endpoint sessions sessions'

-- a connection is probed: a message of no bytes is queued on its link, which is Live
abbrev pub QueuesNothing : EndpointView → EndpointView → Session → Session → Type 0
QueuesNothing old new c c' =
    (h : Held) × (held_at old c.id ≡ Some h) × (h.link.state ≡ States.Live)
    × ChangesEnd old new c.id
    (record h { link = offer_link h.link (cut_of (record { stream = 0; body = [] })) })
    × (c' ≡ record c { phase = phase_asked c.phase })

-- it is probed, or that is refused, and its silence starts again
abbrev pub Asks : ℕ → EndpointView → EndpointView → Session → Session → Type 0
Asks now old new c c' =
    QueuesNothing old new c c' ⊎ (SameBut old new × (c' ≡ record c { heard = now }))

-- the link of an id is Live, the only state in which it takes messages
abbrev pub TakesMessages : EndpointView → ℕ → Type 0
TakesMessages e id = (h : Held) × (held_at e id ≡ Some h) × (h.link.state ≡ States.Live)

-- whether memory was refused for the message to a connection. If so, its link takes messages, and nothing was
-- queued. If not, it is probed if its link takes messages
abbrev pub IsAskedUnless : Bool → EndpointView → EndpointView → Session → Session → Type 0
IsAskedUnless true old new c c' = TakesMessages old c.id × SameBut old new × (c'.phase ≡ c.phase)
IsAskedUnless false old new c c' = TakesMessages old c.id → QueuesNothing old new c c'

-- the same for the connection at a place. If memory was refused, that is counted
abbrev pub AsksOrCounts : EndpointView → EndpointView → Session → ℕ → List Session → List Session → ℕ → ℕ → Type 0
AsksOrCounts old new c place sessions sessions' count count' = (refused : Bool) × (c' : Session)
    × (sessions' ≡ slice_set sessions place c') × IsAskedUnless refused old new c c'
    × (count' ≡ raised_if refused count)

-- with `once` a connection that was heard from is the only one. If its end was taken, nothing is left to
-- write
abbrev pub KeepsOne : Bool → List Session → List ℕ → Type 0
KeepsOne false sessions left = Unit {0}
KeepsOne true sessions left = (list_any has_spoken sessions ≡ true → length sessions ≡ 1)
    × (list_any is_ended sessions ≡ true → left ≡ [])

-- there is one connection, and its end was taken
abbrev pub OnlyEnded : List Session → Type 0
OnlyEnded sessions = (c : Session) × (sessions ≡ c ∷ []) × (c.phase ≡ Standings.Ended)

pub keeps_one_prop : (once : Bool) (sessions : List Session) (left : List ℕ) → IsProp (KeepsOne once sessions left)
keeps_one_prop false sessions left = Unit-prop
keeps_one_prop true sessions left = hlevel props
