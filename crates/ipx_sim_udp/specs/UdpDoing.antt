-- What a line of a script after the layout does. Defined by this project.
use Rattle.std.specs.Prelude.{◌≡◌, ◌⊎◌, ℕ, Bool, true, false, List, Some, None, Result, Ok, Err}
use Rattle.spx_messages.specs.Message.{message_view}
use Rattle.ipx_net.specs.declared.event.Event.{Event}
use Rattle.ipx_net.specs.declared.event.Event.TheVariants as Events
use Rattle.ipx_sim.specs.ScriptFields.{is_blank_line, line_fields}
use Rattle.ipx_sim.specs.ScriptPlaces.{NamesView}
use Rattle.ipx_sim.specs.ScriptReading.{line_in, script_line_view}
use Rattle.ipx_sim.specs.declared.line.ScriptLine.{ScriptLine}
use Rattle.ipx_sim.specs.declared.line.ScriptLine.TheVariants as Lines
use Rattle.ipx_sim_udp.specs.UdpCalls.{ClosesAt, DialsFromHost, FillsAt, SendsAt}
use Rattle.ipx_sim_udp.specs.declared.layout_binding.UdpNet.{UdpNet}
use Rattle.ipx_sim_udp.specs.declared.stop.UdpScriptFault.{UdpScriptFault}
use Rattle.ipx_sim_udp.specs.declared.stop.UdpScriptFault.TheVariants as Stops

-- a line was done, and whether it then prints `ok`; or it stopped
abbrev pub said : Bool → Result (Unit {0}) UdpScriptFault → Result Bool UdpScriptFault
said says (Ok x) = Ok says
said says (Err stop) = Err stop

-- a line that no script over sockets has: it is bad, and nothing happens
abbrev pub IsRefused : UdpNet → UdpNet → Result Bool UdpScriptFault → Type 0
IsRefused old new result = (result ≡ Err Stops.Bad) × (new ≡ old)

-- an event: `dial`, `send` and `close` are done, and only `close` prints `ok`
abbrev pub DoesEvent : Event → UdpNet → UdpNet → Result Bool UdpScriptFault → Type 0
DoesEvent (Events.Dial host socket to buffers) old new result = (done : Result (Unit {0}) UdpScriptFault)
    × DialsFromHost host socket to buffers old new done × (result ≡ said false done)
DoesEvent (Events.Send who message) old new result = (done : Result (Unit {0}) UdpScriptFault)
    × SendsAt who (message_view message) old new done × (result ≡ said false done)
DoesEvent (Events.Close who) old new result = (done : Result (Unit {0}) UdpScriptFault)
    × ClosesAt who old new done × (result ≡ said true done)
DoesEvent (Events.Take who) old new result = IsRefused old new result
DoesEvent (Events.Pace who window manual) old new result = IsRefused old new result
DoesEvent (Events.Again who place) old new result = IsRefused old new result
DoesEvent (Events.Release who) old new result = IsRefused old new result
DoesEvent (Events.Tick now) old new result = IsRefused old new result
DoesEvent (Events.Poll member) old new result = IsRefused old new result
DoesEvent (Events.Deliver parcel place) old new result = IsRefused old new result
DoesEvent (Events.Inject segment next bytes) old new result = IsRefused old new result

-- a line. Of `pump` it is only stated that it prints no `ok`
abbrev pub DoesNamed : ScriptLine → UdpNet → UdpNet → Result Bool UdpScriptFault → Type 0
DoesNamed (Lines.Act event) old new result = DoesEvent event old new result
DoesNamed (Lines.Fill end' count) old new result = (done : Result (Unit {0}) UdpScriptFault)
    × FillsAt end' count old new done × (result ≡ said false done)
DoesNamed (Lines.Pump turns) old new result = (done : Result (Unit {0}) UdpScriptFault) × (result ≡ said false done)
DoesNamed (Lines.Tick milliseconds) old new result = IsRefused old new result
DoesNamed (Lines.Take end') old new result = IsRefused old new result
DoesNamed (Lines.Run rounds) old new result = IsRefused old new result

-- a line by its bytes: a blank one does nothing. Another one does what it names. If it names nothing it is
-- bad, and memory may run out as it is read
abbrev pub DoesLine : NamesView → List ℕ → UdpNet → UdpNet → Result Bool UdpScriptFault → Type 0
DoesLine m bytes old new result = ((is_blank_line bytes ≡ true) × (result ≡ Ok false) × (new ≡ old))
    ⊎ ((is_blank_line bytes ≡ false)
    × (((line : ScriptLine) × (line_in m (line_fields bytes) ≡ Some (script_line_view line)) × DoesNamed line old new result)
    ⊎ (((line_in m (line_fields bytes) ≡ None) × IsRefused old new result)
    ⊎ ((result ≡ Err Stops.Memory) × (new ≡ old)))))
