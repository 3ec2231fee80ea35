-- What stays of Ethernet ports as a switch receives or sends.
use Rattle.std.proofs.Common.{◌≡◌, ℕ, List, [], ◌∷◌, Option, Some, None, map, ap, sym, ◌∙◌, subst}
use Rattle.std.specs.Prelude.{slice_get, slice_set}
use Rattle.std.proofs.Math.Seq.{map-set_same}
use Rattle.std.proofs.lemmas.Option.{get_or_from_slice_get}
use Rattle.ipx_wire.specs.declared.address.Node.{Node}
use Rattle.ipx_ethernet.specs.declared.ethernet_port.EthernetPort.{EthernetPort}
use Rattle.ipx_ethernet.specs.declared.egress.Egress.{Egress}
use Rattle.ipx_ethernet.specs.Heard.{SwitchView, way_after}
use Rattle.ipx_carrier.specs.declared.port_driver.PacketSent.{PacketSent}
use Rattle.ipx_carrier.specs.declared.port_driver.PacketSent.TheVariants.{Unmapped, Transmitted}
use Rattle.ipx_ethernet_ports.specs.EndTraffic.{EndFrame, EndTraffic, EndsPass}
use Rattle.ipx_ethernet_ports.specs.OnEthernet.{HearsAtEthernet, ReachesEnds, SendsOnEthernet, SendsPacket, TakesPacket, EthernetPortsView, ethernet_ports_view}
use Rattle.ipx_ethernet_ports.proofs.Ends.{reaches_after}

abbrev port_in : SwitchView → EthernetPort
port_in h = h.port

ports_stay : (switches : List SwitchView) (port : ℕ) (h after : SwitchView) → slice_get switches port ≡ Some h → after.port ≡ h.port → map port_in (slice_set switches port after) ≡ map port_in switches
ports_stay switches port h after there same =
    map-set_same port_in switches port after h (same ∙ ap port_in (sym (get_or_from_slice_get switches port h h there)))

taking_stays : (h : SwitchView) (end : ℕ) (bytes : List ℕ) (now most : ℕ) (room : List ℕ) (up : Option ℕ) (after : SwitchView) → TakesPacket h end bytes now most room up after → after.port ≡ h.port
taking_stays h end bytes now most room None after t = ap port_in t.3
taking_stays h end bytes now most room (Some n) after t = ap port_in t.3

sending_stays : (h : SwitchView) (n now port : ℕ) (node : Node) (packet : List ℕ) (sent : PacketSent) (after : SwitchView) (s t : Option EndTraffic) (f g : ℕ) → SendsOnEthernet h n now port node packet sent after s t f g → after.port ≡ h.port
sending_stays h n now port node packet Unmapped after s t f g r = ap port_in r.4
sending_stays h n now port node packet (Transmitted count) after s t f g r = ap port_in r.5

pub hearing_leaves_ports : (n now most : ℕ) (frame : EndFrame) (came : List EndFrame) (room : List ℕ) (up : Option ℕ) (old new : EthernetPortsView) → HearsAtEthernet n now most frame came room up old new → map port_in new.switches ≡ map port_in old.switches
hearing_leaves_ports n now most frame came room up old new r =
    ap (map port_in) r.switches ∙ ports_stay old.switches frame.port r.switch r.after r.at_port (taking_stays r.switch frame.end frame.bytes now most room up r.after r.core)

pub sending_leaves_ports : (n now port : ℕ) (node : Node) (packet : List ℕ) (sent : PacketSent) (old new : EthernetPortsView) → SendsPacket n now port node packet sent old new → map port_in new.switches ≡ map port_in old.switches
sending_leaves_ports n now port node packet sent old new r =
    ap (map port_in) r.4 ∙ ports_stay old.switches port r.0 r.1 r.2 (sending_stays r.0 n now port node packet sent r.1 old.traffic new.traffic old.failed new.failed r.3)

-- what is received after what the sockets returned
pub hears_answer : (n n' now most : ℕ) (frame : EndFrame) (room : List ℕ) (up : Option ℕ) (switches : List SwitchView) (kept : ℕ) (s t : Option EndTraffic) (f f' : ℕ) (new : EthernetPortsView) → n' ≡ n → f' ≡ f → EndsPass s t (frame ∷ []) []
    → HearsAtEthernet n' now most frame [] room up (ethernet_ports_view switches kept t f') new → HearsAtEthernet n now most frame (frame ∷ []) room up (ethernet_ports_view switches kept s f) new
hears_answer n n' now most frame room up switches kept s t f f' new same as_often first r =
    let way : Egress = way_after r.after frame.bytes frame.end now in
    let behind : ReachesEnds way n' frame.port frame.bytes (frame ∷ []) s new.traffic f' new.failed =
    reaches_after way n' frame.port frame.bytes (frame ∷ []) s t new.traffic f' new.failed first r.onward in
    let counted : ReachesEnds way n frame.port frame.bytes (frame ∷ []) s new.traffic f' new.failed =
    subst (λ (k : ℕ). ReachesEnds way k frame.port frame.bytes (frame ∷ []) s new.traffic f' new.failed) same behind in
    record {
      switch = r.switch;
      after = r.after;
      at_port = r.at_port;
      core = r.core;
      onward = subst (λ (k : ℕ). ReachesEnds way n frame.port frame.bytes (frame ∷ []) s new.traffic k new.failed) as_often counted;
      back = r.back;
      switches = r.switches;
      counted = r.counted;
    }
