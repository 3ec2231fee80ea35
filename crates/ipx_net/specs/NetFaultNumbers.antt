-- The numbers of a network's faults, as programs print them. Defined by this project.
use Rattle.std.specs.Prelude.{ℕ}
use Rattle.ipx_net.specs.declared.fault.NetFault.{NetFault}
use Rattle.ipx_net.specs.declared.fault.NetFault.TheVariants.{NoSuchParcel, NotOnSegment, NoSuchEnd, Full, OutOfMemory, Spent}

abbrev pub net_fault_number : NetFault → ℕ
net_fault_number NoSuchParcel = 32
net_fault_number NotOnSegment = 33
net_fault_number NoSuchEnd = 34
net_fault_number Full = 35
net_fault_number OutOfMemory = 36
net_fault_number Spent = 37
