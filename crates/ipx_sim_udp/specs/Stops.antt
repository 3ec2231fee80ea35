-- Why a line of a script stops, and what it prints then. Defined by this project.
use Rattle.std.specs.Prelude.{ℕ, Bool, true, false, List, ◌++◌, codes, Option, Some, None, Result, Ok, Err}
use Rattle.std.specs.Fmt.{decimal}
use Rattle.ipx_carrier.specs.declared.fault.RunFault.{RunFault}
use Rattle.ipx_carrier.specs.declared.fault.RunFault.TheVariants as Faults
use Rattle.ipx_sim.specs.ActLine.{refused_line}
use Rattle.ipx_sim.specs.declared.script_fault.ScriptFault.{ScriptFault}
use Rattle.ipx_sim.specs.declared.script_fault.ScriptFault.TheVariants as Halts
use Rattle.ipx_sim_udp.specs.declared.stop.UdpScriptFault.{UdpScriptFault}
use Rattle.ipx_sim_udp.specs.declared.stop.UdpScriptFault.TheVariants as Stops

-- from the fault of a turn
abbrev pub turn_stop : RunFault → UdpScriptFault
turn_stop Faults.OutOfMemory = Stops.Memory
turn_stop Faults.Device = Stops.Device

-- from a fault of reading a line
abbrev pub halt_stop : ScriptFault → UdpScriptFault
halt_stop Halts.Bad = Stops.Bad
halt_stop Halts.Memory = Stops.Memory
halt_stop Halts.Ended = Stops.Write

abbrev pub no_such_end_line : List ℕ
no_such_end_line = codes "fault (34) NoSuchEnd\n"

abbrev pub ok_line : List ℕ
ok_line = codes "ok\n"

-- the text for a bad line, with its number
abbrev pub bad_script_line : ℕ → List ℕ
bad_script_line number = codes "line " ++ (decimal number ++ codes " bad\n")

-- what a line after the layout prints, and its status. That is `ok` if it is done and says so, or what
-- refused it if an end did or does not exist. At any other stop the script ends, and its end says why
abbrev pub line_and_status : Result Bool UdpScriptFault → Option (List ℕ × ℕ)
line_and_status (Ok true) = Some (ok_line, 0)
line_and_status (Ok false) = Some (codes "", 0)
line_and_status (Err (Stops.Refused f)) = Some (refused_line f, 1)
line_and_status (Err Stops.NoSuchEnd) = Some (no_such_end_line, 1)
line_and_status (Err Stops.Bad) = None
line_and_status (Err Stops.Memory) = None
line_and_status (Err Stops.Device) = None
line_and_status (Err Stops.Write) = None
