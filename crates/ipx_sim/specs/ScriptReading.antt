-- What the lines of a script after the layout mean. Defined by this project.
use Rattle.std.specs.Prelude.{ℕ, ◌≡◌, ◌==◌, ◌||◌, Bool, false, true, if◌then◌else◌, List, [], ◌∷◌, codes, length, slice_index_or, Option, Some, None, option_map, Result, Ok, Err}
use Rattle.std.specs.Str.{bytes_eq}
use Rattle.spx_messages.specs.Message.{MessageView, message_view}
use Rattle.ipx_wire.specs.AddressText.{spelled_node, spelled_socket}
use Rattle.ipx_wire.specs.declared.address.Address.{Address}
use Rattle.ipx_wire.specs.declared.address.Network.{Network}
use Rattle.ipx_wire.specs.declared.address.Node.{Node}
use Rattle.ipx_wire.specs.declared.address.Socket.{Socket}
use Rattle.ipx_net.specs.declared.event.Event as code
use Rattle.ipx_net.specs.declared.event.Event.TheVariants as Events
use Rattle.ipx_net.specs.declared.event.Member.{Member}
use Rattle.ipx_net.specs.declared.place.Place.{Place}
use Rattle.ipx_sim.specs.ScriptFields.{address_in, buffers_field, bytes_in, network_in, number_in, stream_in}
use Rattle.ipx_sim.specs.ScriptPlaces.{NamesView, host_in, member_in, place_in}
use Rattle.ipx_sim.specs.declared.script_fault.ScriptFault.{ScriptFault}
use Rattle.ipx_sim.specs.declared.script_fault.ScriptFault.TheVariants as Halts
use Rattle.ipx_sim.specs.declared.line.ScriptLine.{ScriptLine}
use Rattle.ipx_sim.specs.declared.line.ScriptLine.TheVariants as Lines

-- an event, apart from where its bytes are in memory
pub data EventView : Type 0 where
  Dial : ℕ → Socket → Address → ℕ → EventView
  Send : ℕ → MessageView → EventView
  TakeOne : ℕ → EventView
  Close : ℕ → EventView
  Pace : ℕ → ℕ → Bool → EventView
  Again : ℕ → ℕ → EventView
  Release : ℕ → EventView
  Now : ℕ → EventView
  Poll : Member → EventView
  Deliver : ℕ → Place → EventView
  Inject : Network → Node → List ℕ → EventView

abbrev pub event_view : code.Event → EventView
event_view (Events.Dial host socket to buffers) = Dial host socket to buffers
event_view (Events.Send who message) = Send who (message_view message)
event_view (Events.Take who) = TakeOne who
event_view (Events.Close who) = Close who
event_view (Events.Pace who window manual) = Pace who window manual
event_view (Events.Again who place) = Again who place
event_view (Events.Release who) = Release who
event_view (Events.Tick now) = Now now
event_view (Events.Poll member) = Poll member
event_view (Events.Deliver parcel place) = Deliver parcel place
event_view (Events.Inject segment next bytes) = Inject segment next bytes.items

-- a line, likewise
pub data ScriptLineView : Type 0 where
  Act : EventView → ScriptLineView
  Tick : ℕ → ScriptLineView
  Fill : ℕ → ℕ → ScriptLineView
  Take : ℕ → ScriptLineView
  Run : ℕ → ScriptLineView
  Pump : ℕ → ScriptLineView

abbrev pub script_line_view : ScriptLine → ScriptLineView
script_line_view (Lines.Act event) = Act (event_view event)
script_line_view (Lines.Tick milliseconds) = Tick milliseconds
script_line_view (Lines.Fill end count) = Fill end count
script_line_view (Lines.Take end) = Take end
script_line_view (Lines.Run rounds) = Run rounds
script_line_view (Lines.Pump rounds) = Pump rounds

-- the function applied to the value, if there is one
infixl 10 ◌>>=◌
abbrev pub ◌>>=◌ : {A B : Type 0} → Option A → (A → Option B) → Option B
Some x >>= f = f x
None >>= f = None

-- the field at this position, from 0
abbrev pub arg : List (List ℕ) → ℕ → List ℕ
arg args place = slice_index_or args place []

-- the fields, if there are exactly this many
abbrev pub exactly : ℕ → List (List ℕ) → Option (List (List ℕ))
exactly count args = if length args == count then Some args else None

-- the only field
abbrev pub only_in : List (List ℕ) → Option (List ℕ)
only_in args = option_map (λ fields. arg fields 0) (exactly 1 args)

-- ---- events

-- `dial HOST SOCKET NET NODE SOCKET BUFFERS`
abbrev pub dial_in : NamesView → List (List ℕ) → Option EventView
dial_in m args = do
  fields ← exactly 6 args
  host ← host_in m (arg fields 0)
  socket ← spelled_socket (arg fields 1)
  to ← address_in (arg fields 2) (arg fields 3) (arg fields 4)
  buffers ← buffers_field (arg fields 5)
  Some (Dial host socket to buffers)

-- `close E`, `release E` and `poll NAME`
abbrev pub end_in : (ℕ → EventView) → List (List ℕ) → Option EventView
end_in event args = do
  field ← only_in args
  option_map event (number_in field)

abbrev pub poll_in : NamesView → List (List ℕ) → Option EventView
poll_in m args = do
  field ← only_in args
  option_map Poll (member_in m field)

-- `deliver N PLACE`
abbrev pub deliver_in : NamesView → List (List ℕ) → Option EventView
deliver_in m args = do
  fields ← exactly 2 args
  parcel ← number_in (arg fields 0)
  place ← place_in m (arg fields 1)
  Some (Deliver parcel place)

-- by its word, an event that is read without memory
abbrev pub event_in : NamesView → List ℕ → List (List ℕ) → Option EventView
event_in m word args =
    if bytes_eq word (codes "dial") then dial_in m args
    else if bytes_eq word (codes "close") then end_in Close args
    else if bytes_eq word (codes "release") then end_in Release args
    else if bytes_eq word (codes "poll") then poll_in m args
    else if bytes_eq word (codes "deliver") then deliver_in m args
    else None

-- `send E SS HEX`
abbrev pub send_in : List (List ℕ) → Option ScriptLineView
send_in args = do
  fields ← exactly 3 args
  end ← number_in (arg fields 0)
  stream ← stream_in (arg fields 1)
  body ← bytes_in (arg fields 2)
  Some (Act (Send end (record { stream = stream; body = body })))

-- `inject NET NODE HEX`
abbrev pub inject_in : List (List ℕ) → Option ScriptLineView
inject_in args = do
  fields ← exactly 3 args
  segment ← network_in (arg fields 0)
  next ← spelled_node (arg fields 1)
  bytes ← bytes_in (arg fields 2)
  Some (Act (Inject segment next bytes))

-- ---- lines

-- `fill E N`
abbrev pub fill_in : List (List ℕ) → Option ScriptLineView
fill_in args = do
  fields ← exactly 2 args
  end ← number_in (arg fields 0)
  count ← number_in (arg fields 1)
  Some (Fill end count)

-- `take E`, `tick N`, `run N` and `pump N`
abbrev pub counted_in : (ℕ → ScriptLineView) → List (List ℕ) → Option ScriptLineView
counted_in line args = do
  field ← only_in args
  option_map line (number_in field)

-- by its word, a line that is read without memory
abbrev pub plain_in : NamesView → List ℕ → List (List ℕ) → Option ScriptLineView
plain_in m word args =
    if bytes_eq word (codes "fill") then fill_in args
    else if bytes_eq word (codes "take") then counted_in Take args
    else if bytes_eq word (codes "tick") then counted_in Tick args
    else if bytes_eq word (codes "run") then counted_in Run args
    else if bytes_eq word (codes "pump") then counted_in Pump args
    else option_map Act (event_in m word args)

-- a line by its fields, of which the first is its word
abbrev pub line_in : NamesView → List (List ℕ) → Option ScriptLineView
line_in m [] = None
line_in m (word ∷ args) =
    if bytes_eq word (codes "send") then send_in args
    else if bytes_eq word (codes "inject") then inject_in args
    else plain_in m word args

-- whether the line has bytes, which need memory to be read
abbrev pub brings_bytes : List (List ℕ) → Bool
brings_bytes [] = false
brings_bytes (word ∷ args) = bytes_eq word (codes "send") || bytes_eq word (codes "inject")

-- the result is the line that the fields name; it is bad if they name none; and only bytes can run out of
-- memory
abbrev pub ReadsScriptLine : Option ScriptLineView → Bool → Result ScriptLine ScriptFault → Type 0
ReadsScriptLine named wants (Ok line) = named ≡ Some (script_line_view line)
ReadsScriptLine named wants (Err Halts.Bad) = named ≡ None
ReadsScriptLine named wants (Err Halts.Memory) = wants ≡ true
ReadsScriptLine named wants (Err Halts.Ended) = ⊥

abbrev pub ReadsLine : NamesView → List (List ℕ) → Result ScriptLine ScriptFault → Type 0
ReadsLine m fields result = ReadsScriptLine (line_in m fields) (brings_bytes fields) result
