-- RIP and SAP that the access list of a port accepts are of the node that sent the datagram.
use Rattle.std.proofs.Common.{◌≡◌, ℕ, Bool, true, false, not, ◌==◌, ◌&&◌, ◌||◌, if◌then◌else◌, Option, List, refl, subst, arith}
use Rattle.std.proofs.lemmas.Bool.Decides.{nat_tests}
use Rattle.ipx_wire.specs.Assigned.{netbios_propagation_type, rip_socket, sap_socket}
use Rattle.ipx_wire.specs.declared.ipx.packet.IpxHeader.{IpxHeader}
use Rattle.ipx_wire.specs.declared.address.Network.{Network}
use Rattle.ipx_router.specs.Classify.{class_of, is_from_neighbour, is_node}
use Rattle.ipx_router.specs.RouterPackets.{broadcast}
use Rattle.ipx_router.specs.declared.classify.PacketClass.TheVariants.{Dropped, Rip, Sap, Forward}
use Rattle.ipx_router.specs.declared.port.Port.{Port}
use Rattle.ipx_router.specs.declared.reason.Reason.TheVariants.{Propagated, NotOurs}
use Rattle.ipx_source_checks.specs.SourceChecks.{is_control}
use Rattle.ipx_site.specs.ControlSenders.{ControlIsOfItsSender}
use Rattle.ipx_sockets.specs.SourceFilter.{is_local_to, is_node_of, is_unrouted, source_matches_sender}

-- what is control is for this network, from a neighbour, and to one of two sockets
control_of : (propagated here near rip sap : Bool)
    → is_control (if propagated then Dropped Propagated else if here then (if near then (if rip then Rip else if sap then Sap else Dropped NotOurs) else Dropped NotOurs) else Forward) ≡ true
    → (here ≡ true) × (near ≡ true) × ((rip || sap) ≡ true)
control_of true here near rip sap h = absurd (cc)
control_of false false near rip sap h = absurd (cc)
control_of false true false rip sap h = absurd (cc)
control_of false true true true sap h = (refl, refl, refl)
control_of false true true false true h = (refl, refl, refl)
control_of false true true false false h = absurd (cc)

from_here : (to from other : Bool) → (to && from && other) ≡ true → from ≡ true
from_here true true other h = refl
from_here true false true h = absurd (cc)
from_here true false false h = absurd (cc)
from_here false from true h = absurd (cc)
from_here false true false h = absurd (cc)
from_here false false false h = absurd (cc)

unrouted_of : (f0 fn t0 tn straight : Bool) → (f0 || fn) ≡ true → (t0 || tn) ≡ true → (f0 || (fn && (t0 || (tn || straight)))) ≡ true
unrouted_of true fn t0 tn straight f t = refl
unrouted_of false true true tn straight f t = refl
unrouted_of false true false true straight f t = refl
unrouted_of false true false false straight f t = absurd (cc)
unrouted_of false false t0 tn straight f t = absurd (cc)

-- the verdict of the access list, by its parts
abbrev Word : Bool → Bool → Bool → Bool → Bool → Bool → Bool → Bool
Word all over control to from unrouted named = not all && not (over && (control && (to && from))) && (not unrouted || named)

word_of : (all over named : Bool) → Word all over true true true true named ≡ true → (named ≡ true) × (over ≡ false)
word_of true over named h = absurd (cc)
word_of false true named h = absurd (cc)
word_of false false true h = (refl, refl)
word_of false false false h = absurd (cc)

said : (all over control to from unrouted named : Bool) → control ≡ true → to ≡ true → from ≡ true → unrouted ≡ true
    → Word all over control to from unrouted named ≡ true → (named ≡ true) × (over ≡ false)
said all over control to from unrouted named c t f u h =
    let one = subst (λ it. Word all over it to from unrouted named ≡ true) c h in
    let two = subst (λ it. Word all over true it from unrouted named ≡ true) t one in
    let three = subst (λ it. Word all over true true it unrouted named ≡ true) f two in
    word_of all over named (subst (λ it. Word all over true true true it named ≡ true) u three)

none_over : (hops : ℕ) → not (hops == 0) ≡ false → hops ≡ 0
none_over hops h = grind (arith, nat_tests)

at_port : (at : Port) (from : Option (List ℕ)) (h : IpxHeader) → source_matches_sender at.network from h ≡ true → is_control (class_of at h) ≡ true
    → (is_node_of h.from.node from ≡ true) × (h.hops ≡ 0)
at_port at from h own control =
    let f = h.from.network.0 in
    let t = h.to.network.0 in
    let n = at.network.0 in
    let (here, near, socket) = control_of (h.kind == netbios_propagation_type) (t == 0 || t == n) (is_from_neighbour at h) (h.to.socket.0 == rip_socket) (h.to.socket.0 == sap_socket) control in
    let source = from_here (is_node h.to.node at.node || is_node h.to.node broadcast) (f == 0 || f == n) (not (is_node h.from.node at.node)) near in
    let (named, over) = said (is_node h.from.node broadcast) (not (h.hops == 0)) (h.to.socket.0 == rip_socket || h.to.socket.0 == sap_socket)
    (is_local_to at.network h.to.network) (is_local_to at.network h.from.network) (is_unrouted at.network h) (is_node_of h.from.node from)
    socket here source (unrouted_of (f == 0) (f == n) (t == 0) (t == n) (h.hops == 0) source here) own in
    (named, none_over h.hops over)

pub of_its_sender : ControlIsOfItsSender
of_its_sender list at from bytes p c =
    at_port at from p.header (subst (λ (n : Network). source_matches_sender n from p.header ≡ true) c.here (c.heard.1 p c.packet)) c.control
