-- The numbers of the faults of an endpoint's calls. Defined by this project.
use Rattle.std.specs.Prelude.{ℕ}
use Rattle.spx_link.specs.LinkFaults.{links_fault_number, offer_fault_number}
use Rattle.spx_messages.specs.Message.{message_fault_number}
use Rattle.spx_messages.specs.declared.fault.EndFault.{EndFault}
use Rattle.spx_messages.specs.declared.fault.EndFault.TheVariants.{Links, Message, NoSuchEnd, Offer}

-- the numbers of the faults, as programs print them
abbrev pub end_fault_number : EndFault → ℕ
end_fault_number (Offer f) = offer_fault_number f
end_fault_number (Message f) = message_fault_number f
end_fault_number (Links f) = links_fault_number f
end_fault_number NoSuchEnd = 34
