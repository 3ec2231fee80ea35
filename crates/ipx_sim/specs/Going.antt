-- What `fill`, `take`, `run` and `pump` do to a network, step by step. Defined by this project.
use Rattle.std.specs.Prelude.{ℕ, ◌≡◌, ◌%◌, ◌==◌, ◌⊎◌, Bool, true, false, not, MatchBool, List, [], ◌∷◌, length, MatchOption, Result, Ok, Err}
use Rattle.std.specs.List.{range_with_len}
use Rattle.spx_messages.specs.Message.{message_view}
use Rattle.spx_messages.specs.declared.message.Message.{Message}
use Rattle.spx_messages.specs.Taking.{TakenView, Nothing, Part, PeerEnd, Whole, taken_view}
use Rattle.spx_messages.specs.declared.taken.Taken as code
use Rattle.ipx_net.specs.AnswerView.{AnswerView, ArrivedAt, Done, Dropped, End, Heard, Parcels, Refused, Taken}
use Rattle.ipx_net.specs.Ends.{TellsEnds, told_of}
use Rattle.ipx_net.specs.NetView.{NetView}
use Rattle.ipx_net.specs.declared.endinfo.EndInfo.{EndInfo}
use Rattle.ipx_net.specs.declared.event.Event.TheVariants as Events
use Rattle.ipx_net.specs.declared.event.Member.{Member}
use Rattle.ipx_net.specs.declared.fault.NetFault.{NetFault}
use Rattle.ipx_sim.specs.Delivering.{DeliversAll, Stage}
use Rattle.ipx_sim.specs.ScriptDoing.{DoesEach, Repeats, DoesNothing, TakesEvent, Then}
use Rattle.ipx_sim.specs.declared.names.ScriptTarget.{ScriptTarget}
use Rattle.ipx_sim.specs.declared.stop.LineFault.{LineFault}
use Rattle.ipx_sim.specs.declared.stop.LineFault.TheVariants as Stops

-- how often a loop repeats at most
abbrev pub most_times : ℕ
most_times = 18446744073709551615

-- ---- taking

-- what was taken, or why nothing could be
abbrev pub take_result : Result AnswerView NetFault → Result TakenView LineFault
take_result (Ok (Taken t)) = Ok t
take_result (Ok (Refused f)) = Err (Stops.Refused f)
take_result (Ok (End who)) = Ok Nothing
take_result (Ok Done) = Ok Nothing
take_result (Ok (Parcels numbers)) = Ok Nothing
take_result (Ok (ArrivedAt who a)) = Ok Nothing
take_result (Ok (Heard n)) = Ok Nothing
take_result (Ok (Dropped reason)) = Ok Nothing
take_result (Err f) = Err (Stops.Fault f)

abbrev pub taken_result : Result code.Taken LineFault → Result TakenView LineFault
taken_result (Ok t) = Ok (taken_view t)
taken_result (Err stop) = Err stop

-- whether that is a unit
abbrev pub is_unit : TakenView → Bool
is_unit Nothing = false
is_unit Part = true
is_unit (Whole message) = true
is_unit PeerEnd = true

abbrev pub is_unit_taken : Result TakenView LineFault → Result Bool LineFault
is_unit_taken (Ok t) = Ok (is_unit t)
is_unit_taken (Err stop) = Err stop

abbrev pub TakesOnce : ℕ → NetView → Result Bool LineFault → NetView → Type 0
TakesOnce end = TakesEvent (λ outcome. is_unit_taken (take_result outcome)) (Events.Take end)

-- until nothing is held there
abbrev pub Drains : ℕ → NetView → Result Bool LineFault → NetView → Type 0
Drains end = Repeats most_times (TakesOnce end)

-- if the end has a state, which a released one has not
abbrev pub DrainsPresent : ℕ → NetView → Result Bool LineFault → NetView → Type 0
DrainsPresent end old result new =
    (infos : List EndInfo) × TellsEnds old infos
    × MatchOption (told_of infos end).state (DoesNothing old result new)
    (λ state. Drains end old result new)

-- each end that exists
abbrev pub DrainsAll : NetView → Result Bool LineFault → NetView → Type 0
DrainsAll old result new =
    (infos : List EndInfo) × TellsEnds old infos
    × DoesEach DrainsPresent (range_with_len 0 (length infos)) old result new

abbrev pub DrainsIf : Bool → NetView → Result Bool LineFault → NetView → Type 0
DrainsIf takes old result new =
    MatchBool takes (DrainsAll old result new) (DoesNothing old result new)

-- ---- queueing messages

abbrev pub hand_in_result : Result AnswerView NetFault → Result Bool LineFault
hand_in_result (Ok (Refused f)) = Err (Stops.Refused f)
hand_in_result (Ok (Taken t)) = Ok true
hand_in_result (Ok (End who)) = Ok true
hand_in_result (Ok Done) = Ok true
hand_in_result (Ok (Parcels numbers)) = Ok true
hand_in_result (Ok (ArrivedAt who a)) = Ok true
hand_in_result (Ok (Heard n)) = Ok true
hand_in_result (Ok (Dropped reason)) = Ok true
hand_in_result (Err f) = Err (Stops.Fault f)

-- the message of this number: stream 0, and one byte, the number modulo 256. If memory for it is refused,
-- nothing happens
abbrev pub SendsNumber : ℕ → ℕ → NetView → Result Bool LineFault → NetView → Type 0
SendsNumber end number old result new =
    ((message : Message)
    × (message_view message ≡ record { stream = 0; body = number % 256 ∷ [] })
    × TakesEvent hand_in_result (Events.Send end message) old result new)
    ⊎ ((result ≡ Err Stops.Memory) × (new ≡ old))

-- this many of them, from number 0 on
abbrev pub FillsEnd : ℕ → ℕ → NetView → Result Bool LineFault → NetView → Type 0
FillsEnd end count = DoesEach (SendsNumber end) (range_with_len 0 count)

-- ---- polling

-- whether a parcel was made
abbrev pub made_of : Result AnswerView NetFault → Result Bool LineFault
made_of (Ok (Parcels numbers)) = Ok (not (length numbers == 0))
made_of (Ok (Taken t)) = Ok false
made_of (Ok (Refused f)) = Ok false
made_of (Ok (End who)) = Ok false
made_of (Ok Done) = Ok false
made_of (Ok (ArrivedAt who a)) = Ok false
made_of (Ok (Heard n)) = Ok false
made_of (Ok (Dropped reason)) = Ok false
made_of (Err f) = Err (Stops.Fault f)

abbrev pub PollsOnce : Member → NetView → Result Bool LineFault → NetView → Type 0
PollsOnce member = TakesEvent made_of (Events.Poll member)

-- until it is quiet
abbrev pub PollsOut : Member → NetView → Result Bool LineFault → NetView → Type 0
PollsOut member = Repeats most_times (PollsOnce member)

-- ---- rounds

-- what changes only the network
abbrev pub OnNet : (NetView → Result Bool LineFault → NetView → Type 0)
    → Stage → Result Bool LineFault → Stage → Type 0
OnNet Does old result new = Does old.net result new.net × (new.delivered ≡ old.delivered)

-- each member is polled until it is quiet, all is delivered, and, if the round takes, each end is taken from
abbrev pub RunRound : List Member → List ScriptTarget → Bool → Stage → Result Bool LineFault → Stage → Type 0
RunRound members spots takes =
    Then (Then (OnNet (DoesEach PollsOut members)) (DeliversAll spots)) (OnNet (DrainsIf takes))

-- at most this many: one in which nothing happens is the last
abbrev pub RunRounds : ℕ → List Member → List ScriptTarget → Bool
    → Stage → Result Bool LineFault → Stage → Type 0
RunRounds count members spots takes = Repeats count (RunRound members spots takes)
