-- IP addresses that register again and again, and of which nobody becomes a client. Defined by this project.
use Rattle.std.specs.Prelude.{ℕ, ◌+◌, ◌-◌, List, [], ◌∷◌, ◌++◌, length, drop, filter, Bool, not, nat_le, nat_lt, Some, None, if◌then◌else◌}
use Rattle.std.specs.Net.Addr.{ipv4_octets}
use Rattle.std.specs.Net.Socket.{v4_ip}
use Rattle.std.specs.Str.{bytes_eq}
use Rattle.std.specs.declared.net.socket_addr.SocketAddrV4.{SocketAddrV4}
use Rattle.ipxnet_server.specs.declared.attempts.Attempt.{Attempt}
use Rattle.ipxnet_server.specs.declared.attempts.Repeats.{Repeats}
use Rattle.ipxnet_server.specs.ServerCounted.{drops_raised}

-- a registration is logged if so many others came from its IP address, within so many ms before it
abbrev pub attempts_before : ℕ
attempts_before = 2

abbrev pub attempt_time : ℕ
attempt_time = 60000

-- how many registrations are remembered at most
abbrev pub max_attempts : ℕ
max_attempts = 64

-- the registrations that are remembered, in their order, and how often an IP address was to be logged
pub record AttemptsView : Type 0 where
  pub recent : List Attempt
  pub repeats : Repeats

-- those of the last minute. If the clock went back, no time has passed
abbrev pub is_recent_attempt : ℕ → Attempt → Bool
is_recent_attempt now a = nat_lt (now - a.at) attempt_time

abbrev pub attempts_left : ℕ → List Attempt → List Attempt
attempts_left now attempts = filter (is_recent_attempt now) attempts

-- those that have the IP address of a place, and the others
abbrev pub is_attempt_of_ip : SocketAddrV4 → Attempt → Bool
is_attempt_of_ip place a = bytes_eq (ipv4_octets (v4_ip a.place)) (ipv4_octets (v4_ip place))

abbrev pub attempts_of_ip : SocketAddrV4 → List Attempt → List Attempt
attempts_of_ip place attempts = filter (is_attempt_of_ip place) attempts

abbrev pub attempts_of_other_ips : SocketAddrV4 → List Attempt → List Attempt
attempts_of_other_ips place attempts = filter (λ a. not (is_attempt_of_ip place a)) attempts

-- one more is remembered as the last one. If there are too many, the first one goes
abbrev pub attempts_with : Attempt → List Attempt → List Attempt
attempts_with a attempts = drop (length attempts + 1 - max_attempts) attempts ++ a ∷ []

-- it was never so yet
abbrev pub no_repeats : Repeats
no_repeats = record { count = 0; last = None }

-- an IP address is to be logged once more, and this was its last registration
abbrev pub repeats_raised : SocketAddrV4 → Repeats → Repeats
repeats_raised place r = record { count = drops_raised r.count; last = Some place }

-- a registration from a place: it is the third of its IP address within a minute, or one of the first two. After the
-- third the IP address begins anew
abbrev pub is_logged_attempt : SocketAddrV4 → ℕ → AttemptsView → Bool
is_logged_attempt place now s =
    nat_le attempts_before (length (attempts_of_ip place (attempts_left now s.recent)))

abbrev pub attempts_after : SocketAddrV4 → ℕ → AttemptsView → AttemptsView
attempts_after place now s =
    if is_logged_attempt place now s then record {
      recent = attempts_of_other_ips place (attempts_left now s.recent);
      repeats = repeats_raised place s.repeats;
    } else record s {
      recent = attempts_with (record { place = place; at = now }) (attempts_left now s.recent);
    }
