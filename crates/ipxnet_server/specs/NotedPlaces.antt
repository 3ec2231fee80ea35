-- The addresses that registered at an ipxnet server, or were those of its clients before a restart, have not yet
-- shown their node, and are still to be pinged. Defined by this project.
use Rattle.std.specs.Prelude.{◌≡◌, ◌≤◌, ◌&&◌, ℕ, ◌+◌, ◌-◌, List, [], ◌∷◌, ◌++◌, All, length, drop, filter, find, Bool, true, not, nat_le, nat_lt, Option, Some, None, if◌then◌else◌}
use Rattle.std.specs.List.{list_any}
use Rattle.std.specs.Net.Addr.{ipv4_octets}
use Rattle.std.specs.Net.Socket.{v4_ip}
use Rattle.std.specs.Str.{bytes_eq}
use Rattle.std.specs.declared.net.socket_addr.SocketAddrV4.{SocketAddrV4}
use Rattle.ipxnet_server.specs.declared.ask_times.NoteCause.TheVariants.{Registration, Restart}
use Rattle.ipxnet_server.specs.declared.noted.Noted.{Noted}
use Rattle.ipxnet_server.specs.AskTimes.{second_ask_of}
use Rattle.ipxnet_server.specs.ServerClients.{are_one_place}

-- how many are noted at most
abbrev pub max_noted : ℕ
max_noted = 64

-- how many of one IP address are noted at most
abbrev pub max_address_noted : ℕ
max_address_noted = 16

abbrev pub is_noted_at : SocketAddrV4 → Noted → Bool
is_noted_at place n = are_one_place n.place place

abbrev pub is_noted : SocketAddrV4 → List Noted → Bool
is_noted place noted = list_any (is_noted_at place) noted

-- an address is not noted any more
abbrev pub noted_without : SocketAddrV4 → List Noted → List Noted
noted_without place noted = filter (λ n. not (is_noted_at place n)) noted

-- those that are still to be pinged: the last turn of pings, at this time, came before the second ping was due.
-- If the clock went back, no time has passed
abbrev pub is_to_be_asked : ℕ → Noted → Bool
is_to_be_asked pinged n = nat_lt (pinged - n.since) (second_ask_of n.cause)

abbrev pub noted_left : ℕ → List Noted → List Noted
noted_left pinged noted = filter (is_to_be_asked pinged) noted

-- the notes that have the IP address of a place, and the others; at most 16 have that of any
abbrev pub is_note_of_ip : SocketAddrV4 → Noted → Bool
is_note_of_ip place n = bytes_eq (ipv4_octets (v4_ip n.place)) (ipv4_octets (v4_ip place))

abbrev pub notes_of_ip : SocketAddrV4 → List Noted → List Noted
notes_of_ip place noted = filter (is_note_of_ip place) noted

abbrev pub notes_of_other_ips : SocketAddrV4 → List Noted → List Noted
notes_of_other_ips place noted = filter (λ n. not (is_note_of_ip place n)) noted

abbrev pub AreFewNotesOfEachIp : List Noted → Type 0
AreFewNotesOfEachIp noted = (place : SocketAddrV4) → length (notes_of_ip place noted) ≤ max_address_noted

-- the note that goes if its IP address gets one more: none if there is room for that, otherwise the one that
-- registered before the others in the order of calls
abbrev pub note_that_goes : SocketAddrV4 → List Noted → Option Noted
note_that_goes place noted =
    if nat_le max_address_noted (length (notes_of_ip place noted))
    then find (is_note_of_ip place) noted else None

-- the notes without this one
abbrev pub noted_but : Option Noted → List Noted → List Noted
noted_but None noted = noted
noted_but (Some n) noted = noted_without n.place noted

-- an address that is not noted is noted as the last one. One of its IP address goes if that has too many, and then
-- the first one if there are too many
abbrev pub noted_with : SocketAddrV4 → ℕ → List Noted → List Noted
noted_with place now noted =
    drop (length (noted_but (note_that_goes place noted) noted) + 1 - max_noted)
    (noted_but (note_that_goes place noted) noted)
    ++ record { place = place; since = now; cause = Registration } ∷ []

-- an address registered. If it is noted already, nothing changes, so that nobody puts off its pings
abbrev pub places_noted : SocketAddrV4 → ℕ → List Noted → List Noted
places_noted place now noted = if is_noted place noted then noted else noted_with place now noted

-- the same for one registration after another, each from an address and at a time
abbrev pub all_noted : List Noted → List Noted → List Noted
all_noted [] noted = noted
all_noted (r ∷ rest) noted = all_noted rest (places_noted r.place r.since noted)

-- ---- after a restart

-- there is room for one more note without removing another
abbrev pub has_note_room : SocketAddrV4 → List Noted → Bool
has_note_room place noted =
    nat_lt (length noted) max_noted && nat_lt (length (notes_of_ip place noted)) max_address_noted

abbrev pub noted_again : SocketAddrV4 → ℕ → List Noted → List Noted
noted_again place now noted = noted ++ record { place = place; since = now; cause = Restart (length noted) } ∷ []

-- an address that was that of a client before a restart is noted as the last one, unless it is noted already, or
-- there is no room for it
abbrev pub places_noted_again : SocketAddrV4 → ℕ → List Noted → List Noted
places_noted_again place now noted =
    if not (is_noted place noted) && has_note_room place noted then noted_again place now noted else noted

-- ---- what follows

-- registrations from one IP address, however many and whenever, keep the notes of all others as they are, while
-- there are at most 48 of these: then one host alone removes nobody's note
abbrev pub RegistrationsKeepOtherNotes : Type 0
RegistrationsKeepOtherNotes = (place : SocketAddrV4) (registrations noted : List Noted)
    → All (λ r. is_note_of_ip place r ≡ true) registrations
    → AreFewNotesOfEachIp noted
    → length (notes_of_other_ips place noted) + max_address_noted ≤ max_noted
    → notes_of_other_ips place (all_noted registrations noted) ≡ notes_of_other_ips place noted
