-- The numbers of the faults of links.
use Rattle.std.specs.Prelude.{ℕ}
use Rattle.spx_link.specs.declared.fault.LinksFault.{LinksFault}
use Rattle.spx_link.specs.declared.fault.LinksFault.TheVariants as LinksFaults
use Rattle.spx_link.specs.declared.fault.OfferFault.{OfferFault}
use Rattle.spx_link.specs.declared.fault.OfferFault.TheVariants as OfferFaults

abbrev pub offer_fault_number : OfferFault → ℕ
offer_fault_number OfferFaults.NotLive = 25
offer_fault_number OfferFaults.Ended = 26
offer_fault_number OfferFaults.OutOfMemory = 27

abbrev pub links_fault_number : LinksFault → ℕ
links_fault_number LinksFaults.OutOfMemory = 27
links_fault_number LinksFaults.TooMany = 28
