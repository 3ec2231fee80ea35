-- The lines that are printed.
use Rattle.std.specs.Prelude.{ℕ, List, [], ◌∷◌, ◌++◌, codes}
use Rattle.std.specs.List.{flat_map}
use Rattle.std.specs.Fmt.{decimal}
use Rattle.hex.specs.Hex.{encode_lower}
use Rattle.std.specs.Int.{w32, to_be_bytes}
use Rattle.ipx_wire.specs.declared.ipx.fault.IpxFault.{IpxFault}
use Rattle.ipx_wire.specs.declared.ipx.fault.IpxFault.TheVariants.{Short, Checksummed, LengthShort, Truncated, TooLong}
use Rattle.ipx_wire.specs.declared.address.Network.{Network}
use Rattle.ipx_wire.specs.Ipx.{ipx_fault_number}
use Rattle.ipx_wire.specs.Spx.{spx_fault_number}
use Rattle.ipx_wire.specs.declared.spx.fault.SpxFault.{SpxFault}
use Rattle.ipx_wire.specs.declared.spx.fault.SpxFault.TheVariants.{SpxShort, OverSize}
use Rattle.ipx_control.specs.declared.fault.ControlFault.{ControlFault}
use Rattle.ipx_control.specs.declared.fault.ControlFault.TheVariants as control
use Rattle.ipx_control.specs.ControlFaults.{control_fault_number}
use Rattle.ipx_router.specs.declared.reason.Reason.{Reason}
use Rattle.ipx_router.specs.declared.reason.Reason.TheVariants.{Bad, Propagated, NotOurs, NoRoute, HopLimit, BadControl, TableFull}
use Rattle.ipx_router.specs.RouterPackets.{SendingView}
use Rattle.ipx_router.specs.Reason.{reason_number}
use Rattle.ipx_router.specs.OutcomeView.{OutcomeView, Forward, Replies, Heard, Dropped}

-- a number in brackets, and its name
abbrev pub numbered : ℕ → List ℕ → List ℕ
numbered number name = codes "(" ++ (decimal number ++ (codes ") " ++ name))

-- a fault's name and its values
abbrev pub fault_name : IpxFault → List ℕ
fault_name (Short have) = codes "Short " ++ decimal have
fault_name (Checksummed value) = codes "Checksummed " ++ decimal value
fault_name (LengthShort value) = codes "LengthShort " ++ decimal value
fault_name (Truncated said have) =
    codes "Truncated " ++ (decimal said ++ (codes " " ++ decimal have))
fault_name (TooLong value) = codes "TooLong " ++ decimal value

abbrev pub spx_fault_name : SpxFault → List ℕ
spx_fault_name (SpxShort have) = codes "SpxShort " ++ decimal have
spx_fault_name (OverSize have) = codes "OverSize " ++ decimal have

abbrev pub control_fault_name : ControlFault → List ℕ
control_fault_name control.NoOperation = codes "NoOperation"
control_fault_name (control.UnknownOperation operation) =
    codes "UnknownOperation " ++ decimal operation
control_fault_name (control.TooManyEntries count) = codes "TooManyEntries " ++ decimal count
control_fault_name (control.QueryShort have) = codes "QueryShort " ++ decimal have
control_fault_name control.OutOfMemory = codes "OutOfMemory"

-- a fault with its number
abbrev pub fault_text : IpxFault → List ℕ
fault_text fault = numbered (ipx_fault_number fault) (fault_name fault)

abbrev pub spx_fault_text : SpxFault → List ℕ
spx_fault_text fault = numbered (spx_fault_number fault) (spx_fault_name fault)

abbrev pub control_fault_text : ControlFault → List ℕ
control_fault_text fault = numbered (control_fault_number fault) (control_fault_name fault)

abbrev pub no_route_name : Network → List ℕ
no_route_name network = codes "NoRoute " ++ encode_lower (to_be_bytes w32 network.0)

-- a reason is printed with its number; one that holds a fault is printed as that fault
abbrev pub reason_text : Reason → List ℕ
reason_text (Bad fault) = fault_text fault
reason_text Propagated = numbered (reason_number Propagated) (codes "Propagated")
reason_text NotOurs = numbered (reason_number NotOurs) (codes "NotOurs")
reason_text (NoRoute network) =
    numbered (reason_number (NoRoute network)) (no_route_name network)
reason_text HopLimit = numbered (reason_number HopLimit) (codes "HopLimit")
reason_text (BadControl fault) = control_fault_text fault
reason_text TableFull = numbered (reason_number TableFull) (codes "TableFull")

-- a packet that is sent: its port, the next node and its bytes
abbrev pub sending_text : SendingView → List ℕ
sending_text s =
    decimal s.port ++ (codes " " ++ (encode_lower s.next.0 ++ (codes " " ++ encode_lower s.bytes)))

abbrev pub sending_line : SendingView → List ℕ
sending_line s = codes "reply " ++ (sending_text s ++ 10 ∷ [])

-- the lines of an answer: one for each reply
abbrev pub lines_of : OutcomeView → List ℕ
lines_of (Forward port next bytes) =
    codes "forward "
    ++ (sending_text (record { port = port; next = next; bytes = bytes }) ++ 10 ∷ [])
lines_of (Replies sent) = flat_map sending_line sent
lines_of (Heard count) = codes "heard " ++ (decimal count ++ 10 ∷ [])
lines_of (Dropped reason) = codes "dropped " ++ (reason_text reason ++ 10 ∷ [])

abbrev pub status_of : OutcomeView → ℕ
status_of (Forward port next bytes) = 0
status_of (Replies sent) = 0
status_of (Heard count) = 0
status_of (Dropped reason) = 1

-- the line if the first line of the input is not in hex
abbrev pub bad_line : List ℕ
bad_line = codes "line 1 bad" ++ 10 ∷ []
