-- When a server pings its silent clients. Defined by this project.
use Rattle.std.specs.Prelude.{◌≡◌, ◌≤◌, ◌<◌, ◌^◌, ℕ, ◌+◌, ◌-◌, ◌/◌, List, [], ◌∷◌, ◌++◌, AllPairs, Bool, true, false, nat_le, nat_lt, Option, Some, None, if◌then◌else◌}
use Rattle.std.specs.List.{list_any}
use Rattle.ipxnet_server.specs.declared.clients.Client.{Client}
use Rattle.ipxnet_server.specs.declared.noted.Noted.{Noted}
use Rattle.ipxnet_server.specs.declared.pings.PingTurn.{PingTurn}
use Rattle.ipxnet_server.specs.AskTimes.{first_ask_of, second_ask_of}

-- a silent client is pinged each time that so many more ms have passed
abbrev pub ping_period : ℕ
ping_period = 25000

-- how many pings its silence is worth: one for each whole period; if the clock went back, no time has passed
abbrev pub pings_by : ℕ → Client → ℕ
pings_by now c = (now - c.heard) / ping_period

-- a turn pings a client: its silence is worth more pings than at the turn before
abbrev pub is_pinged : PingTurn → Client → Bool
is_pinged turn c = nat_lt (pings_by turn.before c) (pings_by turn.now c)

-- a turn at this time, after one at `before`, pings one of them
abbrev pub is_one_pinged : ℕ → List Client → ℕ → Bool
is_one_pinged before clients now = list_any (is_pinged (record { before = before; now = now })) clients

-- an address that is noted is due two pings, of which one or both have come after this time
abbrev pub asks_in : ℕ → ℕ → ℕ → ℕ
asks_in first second time = (if nat_le first time then 1 else 0) + (if nat_le second time then 1 else 0)

-- how many pings it is due; if the clock went back, no time has passed
abbrev pub asks_by : ℕ → Noted → ℕ
asks_by now n = asks_in (first_ask_of n.cause) (second_ask_of n.cause) (now - n.since)

-- a turn pings it
abbrev pub is_asked : PingTurn → Noted → Bool
is_asked turn n = nat_lt (asks_by turn.before n) (asks_by turn.now n)

-- a turn at this time, after one at `before`, pings one of them
abbrev pub is_one_asked : ℕ → List Noted → ℕ → Bool
is_one_asked before noted now = list_any (is_asked (record { before = before; now = now })) noted

-- the earlier of two times, if there is any
abbrev pub earlier : Option ℕ → Option ℕ → Option ℕ
earlier None b = b
earlier (Some a) None = Some a
earlier (Some a) (Some b) = Some (if nat_le a b then a else b)

-- from this time on somebody is pinged, at any time that a clock can show, while none of them is heard; or never
abbrev pub IsNextPing : (ℕ → Bool) → Option ℕ → Type 0
IsNextPing pings None = (now : ℕ) → now < 2 ^ 64 → pings now ≡ false
IsNextPing pings (Some time) = (now : ℕ) → now < 2 ^ 64 → pings now ≡ nat_le time now

-- ---- what follows

-- who is pinged was silent for 25 seconds
abbrev pub OnlySilentArePinged : Type 0
OnlySilentArePinged =
    (turn : PingTurn) (c : Client) → is_pinged turn c ≡ true → ping_period ≤ turn.now - c.heard

-- none of these times is before an earlier one
abbrev pub AreInOrder : List ℕ → Type 0
AreInOrder times = AllPairs (λ a b. a ≤ b) times

-- how many turns at these times ping a client that stays silent
abbrev pub turns_that_ping : ℕ → List ℕ → Client → ℕ
turns_that_ping before [] c = 0
turns_that_ping before (time ∷ times) c =
    (if is_pinged (record { before = before; now = time }) c then 1 else 0) + turns_that_ping time times c

-- however often there is a turn, a silent client gets at most one ping for each whole period of its silence
abbrev pub PingsAreSeldom : Type 0
PingsAreSeldom = (c : Client) (before now : ℕ) (times : List ℕ) → AreInOrder (before ∷ times ++ now ∷ [])
    → turns_that_ping before times c + pings_by before c ≤ pings_by now c

-- how many turns at these times ping a place that is noted and shows nothing
abbrev pub turns_that_ask : ℕ → List ℕ → Noted → ℕ
turns_that_ask before [] n = 0
turns_that_ask before (time ∷ times) n =
    (if is_asked (record { before = before; now = time }) n then 1 else 0) + turns_that_ask time times n

-- however often there is a turn, it gets at most two pings for each time that it is noted, and none earlier than
-- 5.5 s after the registration that it is noted by, or 1 s after the restart
abbrev pub AsksAreTwo : Type 0
AsksAreTwo = (n : Noted) (before now : ℕ) (times : List ℕ) → AreInOrder (before ∷ times ++ now ∷ [])
    → turns_that_ask before times n ≤ 2

abbrev pub AsksAreLate : Type 0
AsksAreLate = (turn : PingTurn) (n : Noted) → is_asked turn n ≡ true → first_ask_of n.cause ≤ turn.now - n.since
