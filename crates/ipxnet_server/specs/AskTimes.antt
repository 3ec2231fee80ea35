-- When an address that is noted is pinged, in ms after its note. Defined by this project.
use Rattle.std.specs.Prelude.{ℕ, ◌+◌, ◌*◌, min}
use Rattle.ipxnet_server.specs.declared.ask_times.NoteCause.{NoteCause}
use Rattle.ipxnet_server.specs.declared.ask_times.NoteCause.TheVariants.{Registration, Restart}

-- who registered, and has shown nothing yet, is pinged at these two times after the registration that it is
-- noted by: not before DOSBox has given up to wait for the answer, which it does after 5 s. To register again before
-- the second of them puts off neither
abbrev pub first_ask : ℕ
first_ask = 5500

abbrev pub second_ask : ℕ
second_ask = 8500

-- who was a client before a restart has its answer, and is pinged sooner after that. Each is pinged 20 ms after the
-- one that was noted before it. At most 64 are noted, so at most 63 before the last
abbrev pub first_restart_ask : ℕ
first_restart_ask = 1000

abbrev pub second_restart_ask : ℕ
second_restart_ask = 4000

abbrev pub restart_step : ℕ
restart_step = 20

abbrev pub restart_delay : ℕ → ℕ
restart_delay before = restart_step * min before 63

abbrev pub first_ask_of : NoteCause → ℕ
first_ask_of Registration = first_ask
first_ask_of (Restart before) = first_restart_ask + restart_delay before

abbrev pub second_ask_of : NoteCause → ℕ
second_ask_of Registration = second_ask
second_ask_of (Restart before) = second_restart_ask + restart_delay before
