-- The lines that report an event at a network: its answer, or the fault that refused it.
use Rattle.std.specs.Prelude.{ℕ, List, [], ◌∷◌, ◌++◌, codes, length, slice_get, Option, Some, None, Result, Ok, Err, ◌==◌, if◌then◌else◌}
use Rattle.std.specs.List.{flat_map}
use Rattle.std.specs.Fmt.{decimal}
use Rattle.std.specs.Int.{w32, to_be_bytes}
use Rattle.hex.specs.Hex.{encode_lower}
use Rattle.spx_messages.specs.declared.arrived.Arrived.{Arrived}
use Rattle.spx_messages.specs.declared.arrived.Arrived.TheVariants as Arriveds
use Rattle.spx_messages.specs.declared.fault.EndFault.{EndFault}
use Rattle.spx_messages.specs.EndpointFaults.{end_fault_number}
use Rattle.ipx_inspect.specs.Line.{fault_text, numbered, reason_text, spx_fault_text}
use Rattle.spx_theory.specs.World.{ParcelView}
use Rattle.ipx_net.specs.AnswerView.{AnswerView, ArrivedAt, Done, Dropped, End, Heard, Parcels, Refused, Taken}
use Rattle.ipx_net.specs.NetFaultNumbers.{net_fault_number}
use Rattle.ipx_net.specs.declared.event.Event.{Event}
use Rattle.ipx_net.specs.declared.event.Event.TheVariants as Events
use Rattle.ipx_net.specs.declared.fault.NetFault.{NetFault}
use Rattle.ipx_sim.specs.ScriptWords.{end_fault_name, net_fault_name, received_word}

-- for a call on an end that the end refused
abbrev pub refused_line : EndFault → List ℕ
refused_line f =
    codes "refused " ++ (numbered (end_fault_number f) (end_fault_name f) ++ 10 ∷ [])

-- for an event that the network refused
abbrev pub fault_line : NetFault → List ℕ
fault_line f = codes "fault " ++ (numbered (net_fault_number f) (net_fault_name f) ++ 10 ∷ [])

-- bytes in hex; none print as `-`
abbrev pub bytes_text : List ℕ → List ℕ
bytes_text bytes = if length bytes == 0 then codes "-" else encode_lower bytes

-- ---- parcels

-- a parcel with its number: its network, its next node, and its bytes
abbrev pub parcel_line : ℕ → ParcelView → List ℕ
parcel_line number p =
    codes "parcel " ++ (decimal number ++ (codes " " ++ (encode_lower (to_be_bytes w32 p.segment.0)
    ++ (codes " " ++ (encode_lower p.next.0 ++ (codes " " ++ (bytes_text p.bytes ++ 10 ∷ [])))))))

abbrev pub line_of_parcel : ℕ → Option ParcelView → List ℕ
line_of_parcel number None = []
line_of_parcel number (Some p) = parcel_line number p

abbrev pub line_at : List ParcelView → ℕ → List ℕ
line_at parcels number = line_of_parcel number (slice_get parcels number)

-- the parcels that were made, or that there were none
abbrev pub made_lines : List ParcelView → List ℕ → List ℕ
made_lines parcels numbers =
    if length numbers == 0 then codes "quiet\n" else flat_map (line_at parcels) numbers

-- ---- what became of a datagram at a host

abbrev pub end_text : Option ℕ → List ℕ
end_text None = []
end_text (Some who) = codes "end " ++ (decimal who ++ codes " ")

abbrev pub arrived_text : Option ℕ → Arrived → List ℕ
arrived_text who (Arriveds.Bad f) = codes "dropped " ++ fault_text f
arrived_text who Arriveds.NotOurs = codes "not-ours"
arrived_text who (Arriveds.BadSpx f) = codes "dropped " ++ spx_fault_text f
arrived_text who Arriveds.NoListener = codes "no-listener"
arrived_text who Arriveds.NoRoom = codes "no-room"
arrived_text who Arriveds.Stranger = codes "stranger"
arrived_text who (Arriveds.Accepted id) = end_text who ++ codes "accepted"
arrived_text who (Arriveds.Link id r) = end_text who ++ received_word r

-- ---- answers

-- a time that was set is printed; anything else done prints `ok`
abbrev pub done_line : Option ℕ → List ℕ
done_line None = codes "ok\n"
done_line (Some now) = codes "now " ++ (decimal now ++ 10 ∷ [])

abbrev pub moment_of : Event → Option ℕ
moment_of (Events.Dial host socket to buffers) = None
moment_of (Events.Send who message) = None
moment_of (Events.Take who) = None
moment_of (Events.Close who) = None
moment_of (Events.Pace who window manual) = None
moment_of (Events.Again who place) = None
moment_of (Events.Release who) = None
moment_of (Events.Tick now) = Some now
moment_of (Events.Poll member) = None
moment_of (Events.Deliver parcel place) = None
moment_of (Events.Inject segment next bytes) = None

-- a take has no line here
abbrev pub answer_lines : Option ℕ → List ParcelView → AnswerView → List ℕ
answer_lines moment parcels (End who) = codes "end " ++ (decimal who ++ 10 ∷ [])
answer_lines moment parcels Done = done_line moment
answer_lines moment parcels (Taken t) = []
answer_lines moment parcels (Parcels numbers) = made_lines parcels numbers
answer_lines moment parcels (ArrivedAt who a) = arrived_text who a ++ 10 ∷ []
answer_lines moment parcels (Heard n) = codes "heard " ++ (decimal n ++ 10 ∷ [])
answer_lines moment parcels (Dropped reason) = codes "dropped " ++ (reason_text reason ++ 10 ∷ [])
answer_lines moment parcels (Refused f) = refused_line f

-- no answer to a delivery changes the status
abbrev pub answer_status : AnswerView → ℕ
answer_status (End who) = 0
answer_status Done = 0
answer_status (Taken t) = 0
answer_status (Parcels numbers) = 0
answer_status (ArrivedAt who a) = 0
answer_status (Heard n) = 0
answer_status (Dropped reason) = 0
answer_status (Refused f) = 1

-- ---- an event: its answer, or a fault

-- the parcels are those after the event
abbrev pub act_lines : Option ℕ → List ParcelView → Result AnswerView NetFault → List ℕ
act_lines moment parcels (Ok a) = answer_lines moment parcels a
act_lines moment parcels (Err f) = fault_line f

abbrev pub act_status : Result AnswerView NetFault → ℕ
act_status (Ok a) = answer_status a
act_status (Err f) = 1
