-- Which fault a call on a host or on an end causes, by the state before it, and how it is refused: with that
-- fault, or as out of memory.
use Rattle.std.specs.Prelude.{ℕ, ◌≡◌, ◌⊎◌, ◌==◌, if◌then◌else◌, List, Option, Some, None, Err, option_map, slice_get}
use Rattle.std.specs.Option.{option_or}
use Rattle.spx_link.specs.Limits.{most_links}
use Rattle.spx_link.specs.Links.{LinksView, count_of}
use Rattle.spx_link.specs.Offer.{refusal}
use Rattle.spx_link.specs.declared.fault.LinksFault.TheVariants as LinksFaults
use Rattle.spx_link.specs.declared.fault.OfferFault.TheVariants as OfferFaults
use Rattle.spx_messages.specs.Message.{MessageView, cut_fault}
use Rattle.spx_messages.specs.declared.message_fault.MessageFault.TheVariants as MessageFaults
use Rattle.spx_messages.specs.EndpointView.{Held}
use Rattle.spx_messages.specs.Taking.{IsPushed, overlong, take_end}
use Rattle.spx_messages.specs.declared.fault.EndFault.{EndFault}
use Rattle.spx_messages.specs.declared.fault.EndFault.TheVariants as EndFaults
use Rattle.spx_theory.specs.World.{EndNow, HostState, held_of}
use Rattle.ipx_net_hosts.specs.declared.refusal.Refusal.{Refusal}
use Rattle.ipx_net_hosts.specs.declared.refusal.Refusal.TheVariants as Refusals

-- what is held under the number of an end: nothing once it is released
abbrev pub held_by : List HostState → Option EndNow → Option Held
held_by hosts None = None
held_by hosts (Some e) = held_of hosts e

abbrev pub end_held : List HostState → List EndNow → ℕ → Option Held
end_held hosts ends who = held_by hosts (slice_get ends who)

-- the out-of-memory faults, by what the memory is for: a link, a message that is cut or joined, and units
-- that are queued
abbrev pub no_memory_for_link : EndFault
no_memory_for_link = EndFaults.Links LinksFaults.OutOfMemory

abbrev pub want : EndFault
want = EndFaults.Message MessageFaults.OutOfMemory

abbrev pub no_memory_for_queue : EndFault
no_memory_for_queue = EndFaults.Offer OfferFaults.OutOfMemory

-- ---- dial: refused exactly if 16 links are live

abbrev pub too_many : EndFault
too_many = EndFaults.Links LinksFaults.TooMany

abbrev pub full_fault : LinksView → Option EndFault
full_fault s = if count_of s == most_links then Some too_many else None

-- no end refuses a call on a host that does not exist
abbrev pub dial_fault : Option HostState → Option EndFault
dial_fault None = None
dial_fault (Some s) = full_fault s.endpoint.links

abbrev pub DialIsRefused : Option HostState → EndFault → Type 0
DialIsRefused s f = (dial_fault s ≡ Some f) ⊎ ((f ≡ no_memory_for_link) × (dial_fault s ≡ None))

-- the same, if memory may be refused outside of the endpoint
abbrev pub DialIsLeft : Option HostState → Refusal → Type 0
DialIsLeft s (Refusals.ByEnd f) = DialIsRefused s f
DialIsLeft s Refusals.OutOfMemory = dial_fault s ≡ None

-- ---- close: by the state of the link

abbrev pub close_fault : Option Held → Option EndFault
close_fault None = Some EndFaults.NoSuchEnd
close_fault (Some h) = option_map EndFaults.Offer (refusal h.link.state)

abbrev pub CloseIsRefused : Option Held → EndFault → Type 0
CloseIsRefused h f = (close_fault h ≡ Some f) ⊎ ((f ≡ no_memory_for_queue) × (close_fault h ≡ None))

-- ---- send: by the message, else by the state of the link

abbrev pub message_fault : Option Held → MessageView → Option EndFault
message_fault None m = Some EndFaults.NoSuchEnd
message_fault (Some h) m = option_map EndFaults.Message (cut_fault m)

abbrev pub send_fault : Option Held → MessageView → Option EndFault
send_fault h m = option_or (message_fault h m) (close_fault h)

-- the message is cut before the state is checked, so out of memory for that may replace the fault of the
-- state
abbrev pub SendIsRefused : Option Held → MessageView → EndFault → Type 0
SendIsRefused h m f = (send_fault h m ≡ Some f)
    ⊎ ((f ≡ want) × (message_fault h m ≡ None))
    ⊎ ((f ≡ no_memory_for_queue) × (send_fault h m ≡ None))

-- ---- take: if a message grew too long; and as out of memory, if a unit joins a message

abbrev pub Overruns : Option Held → Type 0
Overruns None = ⊥
Overruns (Some h) = (take_end h).0 ≡ Err overlong

abbrev pub PushesTo : Option Held → Type 0
PushesTo None = ⊥
PushesTo (Some h) = IsPushed h

abbrev pub TakeIsRefused : EndFault → Type 0
TakeIsRefused f = (f ≡ overlong) ⊎ (f ≡ want)
