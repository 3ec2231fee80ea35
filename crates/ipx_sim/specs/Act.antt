-- One event at a network, as the network's own contract has it.
use Rattle.std.specs.Prelude.{◌≡◌, ◌≢◌, true, false, None, Some, Result, Ok, Err}
use Rattle.ipx_net.specs.AnswerView.{AnswerView, answer_view}
use Rattle.ipx_net.specs.NetEvents.{Happens, IsOwed}
use Rattle.ipx_net.specs.NetFaults.{first_fault}
use Rattle.ipx_net.specs.NetView.{NetView}
use Rattle.ipx_net.specs.declared.answer.Answer.{Answer}
use Rattle.ipx_net.specs.declared.event.Event.{Event}
use Rattle.ipx_net.specs.declared.event.Event.TheVariants as Events
use Rattle.ipx_net.specs.declared.fault.NetFault.{NetFault}
use Rattle.ipx_net.specs.declared.fault.NetFault.TheVariants as NetFaults

-- what a step answered, apart from where it is in memory
abbrev pub outcome_view : Result Answer NetFault → Result AnswerView NetFault
outcome_view (Ok a) = Ok (answer_view a)
outcome_view (Err f) = Err f

-- a fault of the event leaves all as it was; if out of memory, log and parcels stay
pub record IsFaulted (old : NetView) (e : Event) (f : NetFault) (new : NetView) : Type 0 where
  pub fault : f ≢ NetFaults.OutOfMemory → (first_fault old e ≡ Some f) × (new ≡ old)
  pub memory : f ≡ NetFaults.OutOfMemory → (first_fault old e ≡ None) × (new.spent ≡ true)
  pub log : f ≡ NetFaults.OutOfMemory → new.now.world.log ≡ old.now.world.log
  pub parcels : f ≡ NetFaults.OutOfMemory → new.now.world.parcels ≡ old.now.world.parcels

pub record IsAnswered (old : NetView) (e : Event) (a : AnswerView) (new : NetView) : Type 0 where
  pub sound : first_fault old e ≡ None
  pub happens : Happens e a old.now new.now
  pub going : new.spent ≡ false

-- the event was answered so, or refused by that fault
abbrev pub Stepped : NetView → Event → Result AnswerView NetFault → NetView → Type 0
Stepped old e (Ok a) new = IsAnswered old e a new
Stepped old e (Err f) new = IsFaulted old e f new

-- an event whose answer has lines of its own: all but a take
abbrev pub HasLines : Event → Type 0
HasLines (Events.Dial host socket to buffers) = Unit {0}
HasLines (Events.Send who message) = Unit {0}
HasLines (Events.Take who) = ⊥
HasLines (Events.Close who) = Unit {0}
HasLines (Events.Pace who window manual) = Unit {0}
HasLines (Events.Again who place) = Unit {0}
HasLines (Events.Release who) = Unit {0}
HasLines (Events.Tick now) = Unit {0}
HasLines (Events.Poll member) = Unit {0}
HasLines (Events.Deliver parcel place) = Unit {0}
HasLines (Events.Inject segment next bytes) = Unit {0}

-- what the caller must pass: what a step needs, and an event with lines
abbrev pub IsActOwed : Event → Type 0
IsActOwed e = IsOwed e × HasLines e
