-- What a take gives, and what its id holds after it.
use Rattle.std.specs.Prelude.{◌≡◌, ◌⊎◌, Option, Some, None, if◌then◌else◌}
use Rattle.std.specs.Prelude.{Result, Ok, Err}
use Rattle.spx_link.specs.declared.unit.Unit.{Unit}
use Rattle.spx_link.specs.LinkView.{is_end}
use Rattle.spx_link.specs.Offer.{first_of, lose_link, take_link}
use Rattle.spx_messages.specs.declared.message_fault.MessageFault.TheVariants as MessageFaults
use Rattle.spx_messages.specs.Joining.{added, is_overlong}
use Rattle.spx_messages.specs.Message.{MessageView, message_view}
use Rattle.spx_messages.specs.declared.fault.EndFault.{EndFault}
use Rattle.spx_messages.specs.declared.fault.EndFault.TheVariants as EndFaults
use Rattle.spx_messages.specs.declared.taken.Taken.{Taken}
use Rattle.spx_messages.specs.declared.taken.Taken.TheVariants as takens
use Rattle.spx_messages.specs.EndpointView.{Held}

-- what is taken, without its place in memory
pub data TakenView : Type 0 where
  Nothing : TakenView
  Part : TakenView
  Whole : MessageView → TakenView
  PeerEnd : TakenView

abbrev pub taken_view : Taken → TakenView
taken_view takens.Nothing = Nothing
taken_view takens.Part = Part
taken_view (takens.Whole m) = Whole (message_view m)
taken_view takens.PeerEnd = PeerEnd

-- the first unit was taken from the link
abbrev pub taken_held : Held → Held
taken_held h = record h { link = (take_link h.link).1 }

-- a message grew too long: the link becomes lost, and the partial message is removed
abbrev pub overrun : Held → Held
overrun h = record { link = lose_link (take_link h.link).1; rest = None }

abbrev pub overlong : EndFault
overlong = EndFaults.Message MessageFaults.Overlong

abbrev pub joins_on : Held → Unit → Result TakenView EndFault × Held
joins_on h u =
    if u.last
    then (Ok (Whole (added h.rest u)), record (taken_held h) { rest = None })
    else (Ok Part, record (taken_held h) { rest = Some (added h.rest u) })

abbrev pub takes_data : Held → Unit → Result TakenView EndFault × Held
takes_data h u = if is_overlong h.rest u then (Err overlong, overrun h) else joins_on h u

abbrev pub takes_unit : Held → Unit → Result TakenView EndFault × Held
takes_unit h u = if is_end u then (Ok PeerEnd, taken_held h) else takes_data h u

abbrev pub takes_first : Held → Option Unit → Result TakenView EndFault × Held
takes_first h None = (Ok Nothing, h)
takes_first h (Some u) = takes_unit h u

-- what a take gives if there is enough memory, and what the id holds after it
abbrev pub take_end : Held → Result TakenView EndFault × Held
take_end h = takes_first h (first_of h.link.held)

-- the answer of a take, without its place in memory
abbrev pub result_view : Result Taken EndFault → Result TakenView EndFault
result_view (Ok t) = Ok (taken_view t)
result_view (Err f) = Err f

-- a take adds a unit to a message: only then it needs memory
abbrev pub IsPushed : Held → Type 0
IsPushed h = ((take_end h).0 ≡ Ok Part) ⊎ ((m : MessageView) × ((take_end h).0 ≡ Ok (Whole m)))
