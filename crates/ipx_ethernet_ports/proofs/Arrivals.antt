-- What came of asking a socket, and what is handed over and counted of it.
use Rattle.std.proofs.Common.{◌≡◌, ◌≤◌, ℕ, Bool, false, true, List, Option, Some, None, Ok, Err, length, take, ap, refl, sym, ◌∙◌, slice_set, arith}
use Rattle.std.specs.Prelude.{is_some}
use Rattle.std.proofs.lemmas.List.{length-take, take-take}
use Rattle.std.specs.declared.net.socket_addr.SocketAddr.{SocketAddr}
use Rattle.std.specs.declared.net.socket_addr.SocketAddr.TheVariants.{V4, V6}
use Rattle.std.specs.declared.net.socket_addr.SocketAddrV4.{SocketAddrV4}
use Rattle.ipx_carrier.specs.Counting.{raised}
use Rattle.ipx_carrier.specs.ReadySet.{IsFilteredOrAnswer, is_come, marks_after}
use Rattle.ipx_carrier.specs.Traces.{Got}
use Rattle.ipx_tunnels.specs.declared.fault.TunnelFault.{TunnelFault}
use Rattle.ipx_tunnels.specs.declared.tunnel.Tunnel.{Tunnel}
use Rattle.ipx_tunnels.specs.declared.tunnel.Tunnel.TheVariants.{L2tpv3, Plain, Vxlan}
use Rattle.ipx_tunnels.specs.TunnelFaults.{tunnel_fault}
use Rattle.ipx_ethernet_ports.specs.declared.end_sockets.FrameCame.{FrameCame}
use Rattle.ipx_ethernet_ports.specs.declared.remotes.Remotes.{Remotes}
use Rattle.ipx_ethernet_ports.specs.declared.remotes.Remotes.TheVariants.{Fixed, Learned}
use Rattle.ipx_ethernet_ports.specs.declared.socket.EthernetSocket.{EthernetSocket}
use Rattle.ipx_ethernet_ports.specs.declared.socket.Arrival.{Arrival}
use Rattle.ipx_ethernet_ports.specs.declared.socket.Arrival.TheVariants.{Failed, Frame, NoFrame, Nothing, Unknown}
use Rattle.ipx_ethernet_ports.specs.declared.tunnel_drops.TunnelDrops.{TunnelDrops}
use Rattle.ipx_ethernet_ports.specs.EthernetAddresses.{AsksSocket, HandsFrame, HandsOver, IsArrivalWithin, IsBufferOf, IsFrameIn, MakesOf, MakesOfDatagram, drops_after, drops_of, end_from, is_plain, last_unknown_after, learned_from, place_of_sender, remote_count, remotes_after, remotes_of, unknown_counted, unknown_of, unknown_sender}

-- what is handed over, and what becomes of the marks, of unknown senders and of the count of what is not handed over
abbrev pub Ends : Tunnel → Remotes → Got → List ℕ → List ℕ → ℕ → Option FrameCame → List Bool → List Bool → ℕ → ℕ → Option SocketAddrV4 → Option SocketAddrV4 → ℕ → ℕ → Type 0
Ends tunnel remotes got buffer room port answer marks marks_then unknown unknown_then last last_then filtered filtered_then = HandsOver tunnel remotes got buffer room answer
    × (marks_then ≡ marks_after port got marks) × (unknown_then ≡ unknown_counted (unknown_sender tunnel remotes got) unknown)
    × (last_then ≡ last_unknown_after (unknown_sender tunnel remotes got) last)
    × IsFilteredOrAnswer (is_come got) (is_some answer) filtered filtered_then

abbrev frame_in : Arrival → Option FrameCame
frame_in (Frame came) = Some came
frame_in NoFrame = None
frame_in (Unknown from) = None
frame_in Nothing = None
frame_in Failed = None

abbrev sender_in : Arrival → Option SocketAddr
sender_in (Frame came) = None
sender_in NoFrame = None
sender_in (Unknown from) = Some from
sender_in Nothing = None
sender_in Failed = None

module _ (tunnel : Tunnel) (from : SocketAddr) (bytes room : List ℕ) where
  frame_of : (found : Option ℕ) (fault : Option TunnelFault) (came : FrameCame) → MakesOfDatagram tunnel from bytes room found fault (Frame came)
      → HandsFrame tunnel bytes room found fault (Some came) × (unknown_of from found ≡ None)
  frame_of None fault came m = absurd (cc)
  frame_of (Some end) (Some f) came m = absurd (cc)
  frame_of (Some end) None came (size, is, e) = ((size, is, ap frame_in e), refl)

  none_of : (found : Option ℕ) (fault : Option TunnelFault) → MakesOfDatagram tunnel from bytes room found fault NoFrame
      → HandsFrame tunnel bytes room found fault None × (unknown_of from found ≡ None)
  none_of None fault m = absurd (cc)
  none_of (Some end) (Some f) m = (refl, refl)
  none_of (Some end) None (size, is, e) = absurd (cc)

  unknown_made : (found : Option ℕ) (fault : Option TunnelFault) (sender : SocketAddr) → MakesOfDatagram tunnel from bytes room found fault (Unknown sender)
      → HandsFrame tunnel bytes room found fault None × (unknown_of from found ≡ Some sender)
  unknown_made None fault sender m = (refl, sym (ap sender_in m))
  unknown_made (Some end) (Some f) sender m = absurd (cc)
  unknown_made (Some end) None sender (size, is, e) = absurd (cc)

  not_nothing : (found : Option ℕ) (fault : Option TunnelFault) → MakesOfDatagram tunnel from bytes room found fault Nothing → ⊥
  not_nothing None fault m = cc
  not_nothing (Some end) (Some f) m = cc
  not_nothing (Some end) None (size, is, e) = cc

  not_failed : (found : Option ℕ) (fault : Option TunnelFault) → MakesOfDatagram tunnel from bytes room found fault Failed → ⊥
  not_failed None fault m = cc
  not_failed (Some end) (Some f) m = cc
  not_failed (Some end) None (size, is, e) = cc

module _ (port : ℕ) (tunnel : Tunnel) (remotes : Remotes) (marks : List Bool) (unknown : ℕ) (last : Option SocketAddrV4) (filtered : ℕ) (buffer room : List ℕ) where
  pub of_frame : (got : Got) (came : FrameCame) → MakesOf tunnel remotes got buffer room (Frame came)
      → Ends tunnel remotes got buffer room port (Some came) marks marks unknown unknown last last filtered filtered
  of_frame (Ok (Some g)) came m =
      let of = frame_of tunnel g.1 (take g.0 buffer) room (end_from tunnel g.1 remotes) (tunnel_fault tunnel (take g.0 buffer)) came m in
      (of.0, refl, ap (λ (o : Option SocketAddr). unknown_counted o unknown) (sym of.1), ap (λ (o : Option SocketAddr). last_unknown_after o last) (sym of.1), refl)
  of_frame (Ok None) came m = absurd (cc)
  of_frame (Err f) came m = absurd (cc)

  pub of_none : (got : Got) (more : ℕ) → MakesOf tunnel remotes got buffer room NoFrame → more ≡ raised filtered
      → Ends tunnel remotes got buffer room port None marks marks unknown unknown last last filtered more
  of_none (Ok (Some g)) more m counted =
      let of = none_of tunnel g.1 (take g.0 buffer) room (end_from tunnel g.1 remotes) (tunnel_fault tunnel (take g.0 buffer)) m in
      (of.0, refl, ap (λ (o : Option SocketAddr). unknown_counted o unknown) (sym of.1), ap (λ (o : Option SocketAddr). last_unknown_after o last) (sym of.1), counted)
  of_none (Ok None) more m counted = absurd (cc)
  of_none (Err f) more m counted = absurd (cc)

  pub of_unknown : (got : Got) (sender : SocketAddr) (more drops : ℕ) → MakesOf tunnel remotes got buffer room (Unknown sender) → more ≡ raised unknown → drops ≡ raised filtered
      → Ends tunnel remotes got buffer room port None marks marks unknown more last (place_of_sender sender) filtered drops
  of_unknown (Ok (Some g)) sender more drops m counted kept =
      let of = unknown_made tunnel g.1 (take g.0 buffer) room (end_from tunnel g.1 remotes) (tunnel_fault tunnel (take g.0 buffer)) sender m in
      (of.0, refl, counted ∙ ap (λ (o : Option SocketAddr). unknown_counted o unknown) (sym of.1), ap (λ (o : Option SocketAddr). last_unknown_after o last) (sym of.1), kept)
  of_unknown (Ok None) sender more drops m counted kept = absurd (cc)
  of_unknown (Err f) sender more drops m counted kept = absurd (cc)

  pub of_nothing : (got : Got) (cleared : List Bool) → MakesOf tunnel remotes got buffer room Nothing → cleared ≡ slice_set marks port false
      → Ends tunnel remotes got buffer room port None marks cleared unknown unknown last last filtered filtered
  of_nothing (Ok (Some g)) cleared m is =
      absurd (not_nothing tunnel g.1 (take g.0 buffer) room (end_from tunnel g.1 remotes) (tunnel_fault tunnel (take g.0 buffer)) m)
  of_nothing (Ok None) cleared m is = (refl, is, refl, refl, (refl, refl))
  of_nothing (Err f) cleared m is = absurd (cc)

  pub of_failing : (got : Got) → MakesOf tunnel remotes got buffer room Failed
      → Ends tunnel remotes got buffer room port None marks marks unknown unknown last last filtered filtered
  of_failing (Ok (Some g)) m =
      absurd (not_failed tunnel g.1 (take g.0 buffer) room (end_from tunnel g.1 remotes) (tunnel_fault tunnel (take g.0 buffer)) m)
  of_failing (Ok None) m = absurd (cc)
  of_failing (Err f) m = (refl, refl, refl, refl, (refl, refl))

-- a frame that is alone is in the room
plain_frame : (bytes room : List ℕ) (size : ℕ) → bytes ≡ take size room → size ≤ length room → IsFrameIn Plain bytes size room
plain_frame bytes room size is le = (
  bytes,
  refl,
  omega (arith, le, length-take size room, ap (λ (xs : List ℕ). length xs) is),
  sym (ap (take size) is ∙ take-take size size room (omega arith)),
)

pub made_plain : (tunnel : Tunnel) (remotes : Remotes) (from : SocketAddr) (size end : ℕ) (room : List ℕ) → is_plain tunnel ≡ true → size ≤ length room
    → end_from tunnel from remotes ≡ Some end → MakesOf tunnel remotes (Ok (Some (size, from))) room room (Frame (record { end = end; size = size }))
made_plain Plain remotes from size end room plain le e = rw e (size, plain_frame (take size room) room size refl le, refl)
made_plain (Vxlan vni) remotes from size end room plain le e = absurd (cc)
made_plain (L2tpv3 s) remotes from size end room plain le e = absurd (cc)

pub drops_plain : (tunnel : Tunnel) (remotes : Remotes) (from : SocketAddr) (size end : ℕ) (buffer : List ℕ) (drops : TunnelDrops) → is_plain tunnel ≡ true
    → end_from tunnel from remotes ≡ Some end → drops ≡ drops_after tunnel remotes (Ok (Some (size, from))) buffer drops
drops_plain Plain remotes from size end buffer drops plain e = rw e refl
drops_plain (Vxlan vni) remotes from size end buffer drops plain e = absurd (cc)
drops_plain (L2tpv3 s) remotes from size end buffer drops plain e = absurd (cc)

-- what came from an unknown sender
pub made_unknown : (tunnel : Tunnel) (remotes : Remotes) (from : SocketAddr) (size : ℕ) (buffer room : List ℕ) → end_from tunnel from remotes ≡ None
    → MakesOf tunnel remotes (Ok (Some (size, from))) buffer room (Unknown from)
made_unknown tunnel remotes from size buffer room e = rw e refl

pub drops_unknown : (tunnel : Tunnel) (remotes : Remotes) (from : SocketAddr) (size : ℕ) (buffer : List ℕ) (drops : TunnelDrops) → end_from tunnel from remotes ≡ None
    → drops ≡ drops_after tunnel remotes (Ok (Some (size, from))) buffer drops
drops_unknown tunnel remotes from size buffer drops e = rw e refl

-- what a remote sent by a tunnel
pub made_by_tunnel : (tunnel : Tunnel) (remotes : Remotes) (from : SocketAddr) (size end : ℕ) (buffer room : List ℕ) (arrival : Arrival) → end_from tunnel from remotes ≡ Some end
    → MakesOfDatagram tunnel from (take size buffer) room (Some end) (tunnel_fault tunnel (take size buffer)) arrival
    → MakesOf tunnel remotes (Ok (Some (size, from))) buffer room arrival
made_by_tunnel tunnel remotes from size end buffer room arrival e m = rw e m

pub drops_by_tunnel : (tunnel : Tunnel) (remotes : Remotes) (from : SocketAddr) (size end : ℕ) (buffer : List ℕ) (drops : TunnelDrops) → end_from tunnel from remotes ≡ Some end
    → drops_of from (Some end) (tunnel_fault tunnel (take size buffer)) drops ≡ drops_after tunnel remotes (Ok (Some (size, from))) buffer drops
drops_by_tunnel tunnel remotes from size end buffer drops e = rw e refl

-- the remotes then
pub remotes_plain : (tunnel : Tunnel) (remotes : Remotes) (from : SocketAddr) (size end : ℕ) (buffer : List ℕ) → is_plain tunnel ≡ true
    → end_from tunnel from remotes ≡ Some end → learned_from from remotes ≡ remotes_after tunnel (Ok (Some (size, from))) buffer remotes
remotes_plain Plain remotes from size end buffer plain e = rw e refl
remotes_plain (Vxlan vni) remotes from size end buffer plain e = absurd (cc)
remotes_plain (L2tpv3 s) remotes from size end buffer plain e = absurd (cc)

pub remotes_unknown : (tunnel : Tunnel) (remotes : Remotes) (from : SocketAddr) (size : ℕ) (buffer : List ℕ) → end_from tunnel from remotes ≡ None
    → remotes ≡ remotes_after tunnel (Ok (Some (size, from))) buffer remotes
remotes_unknown tunnel remotes from size buffer e = rw e refl

pub remotes_by_tunnel : (tunnel : Tunnel) (remotes : Remotes) (from : SocketAddr) (size end : ℕ) (buffer : List ℕ) → end_from tunnel from remotes ≡ Some end
    → remotes_of from (Some end) (tunnel_fault tunnel (take size buffer)) remotes ≡ remotes_after tunnel (Ok (Some (size, from))) buffer remotes
remotes_by_tunnel tunnel remotes from size end buffer e = rw e refl

-- there are as many as before
learned_count : (from : SocketAddr) (remotes : Remotes) → remote_count (learned_from from remotes) ≡ remote_count remotes
learned_count from (Fixed places) = refl
learned_count (V4 a) (Learned place) = refl
learned_count (V6 a) (Learned place) = refl

count_of : (from : SocketAddr) (found : Option ℕ) (fault : Option TunnelFault) (remotes : Remotes) → remote_count (remotes_of from found fault remotes) ≡ remote_count remotes
count_of from None fault remotes = refl
count_of from (Some end) (Some f) remotes = refl
count_of from (Some end) None remotes = learned_count from remotes

pub count_after : (tunnel : Tunnel) (got : Got) (buffer : List ℕ) (remotes : Remotes) → remote_count (remotes_after tunnel got buffer remotes) ≡ remote_count remotes
count_after tunnel (Ok (Some g)) buffer remotes =
    count_of g.1 (end_from tunnel g.1 remotes) (tunnel_fault tunnel (take g.0 buffer)) remotes
count_after tunnel (Ok None) buffer remotes = refl
count_after tunnel (Err f) buffer remotes = refl

pub asks_count : (old : EthernetSocket) (room : List ℕ) (arrival : Arrival) (new : EthernetSocket) (faults faults_after : ℕ) → AsksSocket old room arrival new faults faults_after
    → remote_count new.remotes ≡ remote_count old.remotes
asks_count old room arrival new faults faults_after (got, buffer, after, own, tries, is, makes) =
    ap (λ (w : EthernetSocket). remote_count w.remotes) is ∙ count_after old.tunnel got buffer old.remotes

-- the buffers
pub into_room : (tunnel : Tunnel) (room : List ℕ) → is_plain tunnel ≡ true → IsBufferOf tunnel room room
into_room tunnel room e = rw e refl

pub into_own : (tunnel : Tunnel) (buffer room : List ℕ) → is_plain tunnel ≡ false → length buffer ≡ 2048 → IsBufferOf tunnel buffer room
into_own tunnel buffer room e own = rw e own

-- of more remotes
pub of_more : (a b size : ℕ) (arrival : Arrival) → a ≤ b → IsArrivalWithin a size arrival → IsArrivalWithin b size arrival
of_more a b size (Frame came) le within = (omega (arith, le, within.0), within.1)
of_more a b size NoFrame le within = tt
of_more a b size (Unknown from) le within = tt
of_more a b size Nothing le within = tt
of_more a b size Failed le within = tt
