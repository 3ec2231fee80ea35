-- A script's network between two lines, what a delivery marks, and what lines of several steps print. Defined
-- by this project.
use Rattle.std.specs.Prelude.{ℕ, ◌≡◌, ◌==◌, Bool, true, false, MatchBool, List, [], ◌∷◌, ◌++◌, codes, Option, Some, None, Result, Ok, Err}
use Rattle.std.specs.Fmt.{decimal}
use Rattle.hex.specs.Hex.{encode_lower}
use Rattle.spx_messages.specs.Taking.{TakenView, Nothing, Part, PeerEnd, Whole}
use Rattle.ipx_net.specs.AnswerView.{AnswerView}
use Rattle.ipx_net.specs.NetView.{NetView}
use Rattle.ipx_net.specs.declared.event.Event.TheVariants as Events
use Rattle.ipx_net.specs.declared.fault.NetFault.{NetFault}
use Rattle.ipx_sim.specs.Act.{Stepped}
use Rattle.ipx_sim.specs.ActLine.{bytes_text, fault_line, refused_line}
use Rattle.ipx_sim.specs.Delivering.{DeliveredView, Marks, delivered_view}
use Rattle.ipx_sim.specs.Going.{take_result, is_unit_taken}
use Rattle.ipx_sim.specs.ScriptPlaces.{NamesView, map_view}
use Rattle.ipx_sim.specs.ScriptReading.{EventView, Again, Close, Deliver, Dial, Inject, Now, Pace, Poll, Release, Send, TakeOne}
use Rattle.ipx_sim.specs.declared.simulation.Simulation.{Simulation}
use Rattle.ipx_sim.specs.declared.stop.LineFault.{LineFault}
use Rattle.ipx_sim.specs.declared.stop.LineFault.TheVariants as Stops

-- a network, the names in it, the time in milliseconds, and which parcels were delivered
pub record SimView : Type 0 where
  pub net : NetView
  pub map : NamesView
  pub moment : ℕ
  pub delivered : DeliveredView

abbrev pub sim_view : Simulation → SimView
sim_view s =
    record {
      net = s.net;
      map = map_view s.map;
      moment = s.moment;
      delivered = delivered_view s.delivered;
    }

-- ---- events

-- the parcel that an event delivers
abbrev pub parcel_of : EventView → Option ℕ
parcel_of (Deliver parcel place) = Some parcel
parcel_of (Dial host socket to buffers) = None
parcel_of (Send who message) = None
parcel_of (TakeOne who) = None
parcel_of (Close who) = None
parcel_of (Pace who window manual) = None
parcel_of (Again who place) = None
parcel_of (Release who) = None
parcel_of (Now now) = None
parcel_of (Poll member) = None
parcel_of (Inject segment next bytes) = None

-- it counts as delivered if that took place, which status 0 says
abbrev pub MarksWhere : Option ℕ → ℕ → DeliveredView → DeliveredView → Type 0
MarksWhere None status old new = new ≡ old
MarksWhere (Some parcel) status old new =
    MatchBool (status == 0) (Marks parcel old new) (new ≡ old)

-- ---- several steps

-- what ends a line before it is done; out of memory ends the script, and has no line
abbrev pub stop_line : LineFault → List ℕ
stop_line (Stops.Fault f) = fault_line f
stop_line (Stops.Refused f) = refused_line f
stop_line Stops.Memory = []

abbrev pub stop_text : Result Bool LineFault → List ℕ
stop_text (Ok any) = []
stop_text (Err stop) = stop_line stop

abbrev pub line_fault_status : Result Bool LineFault → ℕ
line_fault_status (Ok any) = 0
line_fault_status (Err stop) = 1

-- ---- `take`

abbrev pub taken_line : ℕ → TakenView → List ℕ
taken_line end Nothing = []
taken_line end Part = []
taken_line end (Whole m) =
    codes "end " ++ (decimal end ++ (codes " got " ++ (encode_lower (m.stream ∷ [])
    ++ (codes " " ++ (bytes_text m.body ++ 10 ∷ [])))))
taken_line end PeerEnd = codes "end " ++ (decimal end ++ codes " peer-end\n")

abbrev pub taken_text : ℕ → Result TakenView LineFault → List ℕ
taken_text end (Ok t) = taken_line end t
taken_text end (Err stop) = []

-- a network, and what was printed so far
pub record Told : Type 0 where
  pub net : NetView
  pub text : List ℕ

-- one is taken and printed
abbrev pub TellsTake : ℕ → Told → Result Bool LineFault → Told → Type 0
TellsTake end old result new =
    (outcome : Result AnswerView NetFault) × Stepped old.net (Events.Take end) outcome new.net
    × (result ≡ is_unit_taken (take_result outcome))
    × (new.text ≡ old.text ++ taken_text end (take_result outcome))

-- and last that nothing was held at first, or what ended it
abbrev pub last_text : Result Bool LineFault → List ℕ
last_text (Ok true) = []
last_text (Ok false) = codes "nothing\n"
last_text (Err stop) = stop_line stop
