-- What a line of a script must give the network, and an input that is too long for a script.
use Rattle.std.specs.Prelude.{ℕ, ◌<◌, List, length, codes}
use Rattle.ipx_inspect.specs.Text.{max_input}
use Rattle.ipx_sim.specs.Act.{IsActOwed}
use Rattle.ipx_sim.specs.declared.line.ScriptLine.{ScriptLine}
use Rattle.ipx_sim.specs.declared.line.ScriptLine.TheVariants as Lines

-- a line that is an event meets what `act` needs
abbrev pub IsLineOwed : ScriptLine → Type 0
IsLineOwed (Lines.Act event) = IsActOwed event
IsLineOwed (Lines.Tick milliseconds) = Unit {0}
IsLineOwed (Lines.Fill end count) = Unit {0}
IsLineOwed (Lines.Take end) = Unit {0}
IsLineOwed (Lines.Run rounds) = Unit {0}
IsLineOwed (Lines.Pump rounds) = Unit {0}

-- an input of over 1,000,000 bytes is no script: its line 0 is bad, and nothing runs
abbrev pub IsTooLong : List ℕ → Type 0
IsTooLong input = max_input < length input

abbrev pub too_long_line : List ℕ
too_long_line = codes "line 0 bad\n"
