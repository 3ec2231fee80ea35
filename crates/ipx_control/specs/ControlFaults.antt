-- The numbers of the faults of RIP and SAP packets.
use Rattle.std.specs.Prelude.{ℕ}
use Rattle.ipx_control.specs.declared.fault.ControlFault.{ControlFault}
use Rattle.ipx_control.specs.declared.fault.ControlFault.TheVariants.{NoOperation, UnknownOperation, TooManyEntries, QueryShort, OutOfMemory}

-- the number of a fault
abbrev pub control_fault_number : ControlFault → ℕ
control_fault_number NoOperation = 8
control_fault_number (UnknownOperation n) = 9
control_fault_number (TooManyEntries n) = 10
control_fault_number (QueryShort have) = 11
control_fault_number OutOfMemory = 12
