-- The numbers of faults, and how a device counts its failures.
use Rattle.std.specs.Prelude.{ℕ, ◌+◌, Result, Ok, Err}
use Rattle.ipx_carrier.specs.declared.fault.CarrierFault.{CarrierFault}
use Rattle.ipx_carrier.specs.declared.fault.CarrierFault.TheVariants.{NotMapped}
use Rattle.ipx_carrier.specs.declared.fault.RunFault.{RunFault}
use Rattle.ipx_carrier.specs.declared.fault.RunFault.TheVariants.{Device, OutOfMemory}

abbrev pub carrier_fault_number : CarrierFault → ℕ
carrier_fault_number NotMapped = 38

abbrev pub run_fault_number : RunFault → ℕ
run_fault_number OutOfMemory = 14
run_fault_number Device = 39

-- the count of a device's failures after a call, from the count before: one more if the device failed, and
-- the same at any other end
abbrev pub failures_after : {T : Type 0} → Result T RunFault → ℕ → ℕ
failures_after (Ok x) before = before
failures_after (Err OutOfMemory) before = before
failures_after (Err Device) before = before + 1

-- the same for a call of the device itself, whose only error is its failure
abbrev pub device_failures : {T E : Type 0} → Result T E → ℕ → ℕ
device_failures (Ok x) before = before
device_failures (Err e) before = before + 1
