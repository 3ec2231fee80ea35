-- A queue of packets that a router is to send, what is put into it, and what a router starts and advertises
-- with. `RouterCore` and `PriorityRouterCore` both use these.
use Rattle.std.specs.Prelude.{◌≡◌, ◌<◌, ◌≤◌, ◌⊎◌, ℕ, ◌+◌, ◌-◌, Bool, true, List, [], ◌∷◌, ◌++◌, All, length, nat_le, if◌then◌else◌, MatchBool}
use Rattle.ipx_wire.specs.declared.address.Node.{Node}
use Rattle.ipx_router.specs.RouterView.{RouterView}
use Rattle.ipx_router.specs.RouterPackets.{SendingView}
use Rattle.ipx_router.specs.Ports.{IsPortNumber}
use Rattle.ipx_router.specs.OutOfMemoryCases.{RunsOutOfMemory}
use Rattle.ipx_router.specs.Starting.{AreStarts}
use Rattle.ipx_router.specs.Knowledge.{HoldsKnown, KeepsAllButOffers, known_at, tables}
use Rattle.ipx_router.specs.Advertisements as advertisements
use Rattle.ipx_carrier.specs.Counting.{counted}
use Rattle.ipx_carrier.specs.Turns.{Given}

-- how many packets wait in a queue at most
abbrev pub max_queued : ℕ
max_queued = 16384

-- packets go after those that wait, if all of them fit; otherwise none does
abbrev pub put_after : List SendingView → List SendingView → List SendingView
put_after queue sent =
    if nat_le (length queue + length sent) max_queued then queue ++ sent else queue

-- packets that don't fit are counted as dropped, up to the greatest of 64 bits
abbrev pub dropped_if_full : List SendingView → List SendingView → ℕ → ℕ
dropped_if_full queue sent dropped =
    if nat_le (length queue + length sent) max_queued
    then dropped
    else counted (dropped + length sent)

-- the one packet that is forwarded
abbrev pub one_forwarded : ℕ → Node → List ℕ → List SendingView
one_forwarded port next bytes = record { port = port; next = next; bytes = bytes } ∷ []

-- the router's port numbers are one more than the device's
abbrev pub given_of : SendingView → Given
given_of s = record { port = s.port - 1; node = s.next; bytes = s.bytes }

-- a packet leaves by a port that exists, and fits the buffer
abbrev pub CanBeSent : ℕ → SendingView → Type 0
CanBeSent ports s = IsPortNumber ports s.port × (length s.bytes ≤ 1500)

abbrev pub AreGivable : ℕ → List SendingView → Type 0
AreGivable ports = All (CanBeSent ports)

-- the packets of a router's start, unless it has started: it is asked for them once
abbrev pub AreFirst : Bool → RouterView → List SendingView → Type 0
AreFirst started router sent = MatchBool started (sent ≡ []) (AreStarts 1 router.ports sent)

-- what a router advertises if it is due, and the router after
abbrev pub TellsNow : RouterView → ℕ → List SendingView → RouterView → Type 0
TellsNow old now sent new = advertisements.TellsIfDue (known_at old now) old.advertised_at now sent new.advertised_at
    × HoldsKnown (known_at old now) (tables new) × KeepsAllButOffers old new

-- ---- out of memory

-- there are packets to put into a queue, and all of them fit
abbrev pub IsSpaceFor : List SendingView → List SendingView → Type 0
IsSpaceFor queue sent = (0 < length sent) × (length queue + length sent ≤ max_queued)

-- a router runs out of memory for what it receives
abbrev pub ReceivesInVain : RouterView → ℕ → List ℕ → ℕ → RouterView → Type 0
ReceivesInVain old port bytes now new =
    RunsOutOfMemory old port bytes now new × KeepsAllButOffers old new × (new.advertised_at ≡ old.advertised_at)

-- a router runs out of memory as it is to advertise, and the advertisement is still due
abbrev pub TellsInVain : RouterView → ℕ → RouterView → Type 0
TellsInVain old now new = (advertisements.is_due old.advertised_at now ≡ true)
    × advertisements.HasToTell (known_at old now) now × (new.advertised_at ≡ old.advertised_at)
    × HoldsKnown (known_at old now) (tables new) × KeepsAllButOffers old new

-- the same, or the queue runs out of memory for the advertisements, which are lost
abbrev pub IsNotAdvertised : RouterView → ℕ → List SendingView → RouterView → Type 0
IsNotAdvertised old now queue new = TellsInVain old now new
    ⊎ ((told : List SendingView) × TellsNow old now told new × IsSpaceFor queue told)
