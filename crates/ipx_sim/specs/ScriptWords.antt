-- The names of the faults of ends and of networks, of a link's answers, and of the states of a link.
use Rattle.std.specs.Prelude.{ℕ, List, ◌++◌, codes, Option, Some, None}
use Rattle.std.specs.Fmt.{decimal}
use Rattle.spx_link.specs.declared.fault.LinksFault.{LinksFault}
use Rattle.spx_link.specs.declared.fault.LinksFault.TheVariants as LinksFaults
use Rattle.spx_link.specs.declared.fault.OfferFault.{OfferFault}
use Rattle.spx_link.specs.declared.fault.OfferFault.TheVariants as OfferFaults
use Rattle.spx_link.specs.declared.received.Received.{Received}
use Rattle.spx_link.specs.declared.received.Received.TheVariants as Receiveds
use Rattle.spx_link.specs.declared.state.State.{State}
use Rattle.spx_link.specs.declared.state.State.TheVariants as States
use Rattle.spx_messages.specs.declared.message_fault.MessageFault.{MessageFault}
use Rattle.spx_messages.specs.declared.message_fault.MessageFault.TheVariants as MessageFaults
use Rattle.spx_messages.specs.declared.fault.EndFault.{EndFault}
use Rattle.spx_messages.specs.declared.fault.EndFault.TheVariants as EndFaults
use Rattle.ipx_net.specs.declared.fault.NetFault.{NetFault}
use Rattle.ipx_net.specs.declared.fault.NetFault.TheVariants as NetFaults

-- a fault's name and its values
abbrev pub offer_fault_name : OfferFault → List ℕ
offer_fault_name OfferFaults.NotLive = codes "NotLive"
offer_fault_name OfferFaults.Ended = codes "Ended"
offer_fault_name OfferFaults.OutOfMemory = codes "OutOfMemory"

abbrev pub links_fault_name : LinksFault → List ℕ
links_fault_name LinksFaults.OutOfMemory = codes "OutOfMemory"
links_fault_name LinksFaults.TooMany = codes "TooMany"

abbrev pub message_fault_name : MessageFault → List ℕ
message_fault_name MessageFaults.OutOfMemory = codes "OutOfMemory"
message_fault_name (MessageFaults.TooLong bytes) = codes "TooLong " ++ decimal bytes
message_fault_name (MessageFaults.BadStream stream) = codes "BadStream " ++ decimal stream
message_fault_name MessageFaults.Overlong = codes "Overlong"

abbrev pub end_fault_name : EndFault → List ℕ
end_fault_name (EndFaults.Offer f) = offer_fault_name f
end_fault_name (EndFaults.Message f) = message_fault_name f
end_fault_name (EndFaults.Links f) = links_fault_name f
end_fault_name EndFaults.NoSuchEnd = codes "NoSuchEnd"

abbrev pub net_fault_name : NetFault → List ℕ
net_fault_name NetFaults.NoSuchParcel = codes "NoSuchParcel"
net_fault_name NetFaults.NotOnSegment = codes "NotOnSegment"
net_fault_name NetFaults.NoSuchEnd = codes "NoSuchEnd"
net_fault_name NetFaults.Full = codes "Full"
net_fault_name NetFaults.OutOfMemory = codes "OutOfMemory"
net_fault_name NetFaults.Spent = codes "Spent"

abbrev pub received_word : Received → List ℕ
received_word Receiveds.Joined = codes "joined"
received_word Receiveds.Kept = codes "kept"
received_word Receiveds.Repeat = codes "repeat"
received_word Receiveds.Ahead = codes "ahead"
received_word Receiveds.OverAllocation = codes "over"
received_word Receiveds.System = codes "system"
received_word Receiveds.PeerEnded = codes "peer-ended"
received_word Receiveds.Confirmed = codes "confirmed"
received_word Receiveds.Stranger = codes "stranger"

-- an end without a link was released
abbrev pub state_word : Option State → List ℕ
state_word None = codes "Released"
state_word (Some States.Opening) = codes "Opening"
state_word (Some States.Live) = codes "Live"
state_word (Some States.Ending) = codes "Ending"
state_word (Some States.PeerEnded) = codes "PeerEnded"
state_word (Some States.Confirmed) = codes "Confirmed"
state_word (Some States.Lost) = codes "Lost"
