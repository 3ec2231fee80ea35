-- How often `ipx farewell` sends its packets, and when it pauses, in milliseconds. Defined by this project.
use Rattle.std.specs.Prelude.{ℕ, ◌%◌, ◌==◌, Option, Some, None, if◌then◌else◌}

-- after each sixteenth packet of a port, a tick
abbrev pub pause_after_packet : ℕ → Option ℕ
pause_after_packet number = if number % 16 == 0 then Some 55 else None

-- how often all packets are sent
abbrev pub rounds : ℕ
rounds = 3
