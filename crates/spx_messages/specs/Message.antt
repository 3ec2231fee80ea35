-- Messages (what a user of Novell SPX sends and receives), and which of them can be sent.
use Rattle.std.specs.Prelude.{ℕ, nat_lt, nat_le, List, length, Option, Some, None, if◌then◌else◌}
use Rattle.spx_link.specs.Limits.{end_stream}
use Rattle.spx_messages.specs.declared.message.Message.{Message}
use Rattle.spx_messages.specs.declared.message_fault.MessageFault.{MessageFault}
use Rattle.spx_messages.specs.declared.message_fault.MessageFault.TheVariants.{OutOfMemory, TooLong, BadStream, Overlong}

-- a message without its place in memory
pub record MessageView : Type 0 where
  pub stream : ℕ
  pub body : List ℕ

abbrev pub message_view : Message → MessageView
message_view m = record { stream = m.stream; body = m.body.items }

-- the number of bytes of a partial message
abbrev pub length_of : Option MessageView → ℕ
length_of None = 0
length_of (Some m) = length m.body

-- the most bytes of a message
abbrev pub most_bytes : ℕ
most_bytes = 65535

-- why a message is not split: it is too long, or its stream is that of the end of a connection or of its
-- confirmation
abbrev pub cut_fault : MessageView → Option MessageFault
cut_fault m =
    if nat_lt most_bytes (length m.body) then Some (TooLong (length m.body))
    else if nat_le end_stream m.stream then Some (BadStream m.stream)
    else None

-- the numbers of the faults, as programs print them
abbrev pub message_fault_number : MessageFault → ℕ
message_fault_number OutOfMemory = 27
message_fault_number (TooLong bytes) = 29
message_fault_number (BadStream stream) = 30
message_fault_number Overlong = 31
