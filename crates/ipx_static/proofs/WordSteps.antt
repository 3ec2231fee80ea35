-- The advertisements of neighbours, one neighbour after another.
use Rattle.ipx_wire.specs.Assigned.{rip_socket, sap_socket}
use Rattle.std.proofs.Common.{◌≡◌, ℕ, ◌+◌, false, List, [], ◌∷◌, ◌++◌, drop, refl, sym, ap, ◌∙◌, subst, append_assoc}
use Rattle.std.specs.List.{All}
use Rattle.std.proofs.lemmas.List.Elements.{All-append, All-head, All-nil, All-tail}
use Rattle.ipx_control.specs.Rip as rip
use Rattle.ipx_control.specs.Sap as sap
use Rattle.ipx_router.specs.declared.outcome.Reply.{Reply}
use Rattle.ipx_router.specs.RouterPackets.{AreRoutePackets, AreServicePackets, IsRipPacket, IsSapPacket, SendingView, sendings}
use Rattle.ipx_router.specs.Adding.{AddsPackets}
use Rattle.ipx_router.specs.Ports.{AreOnPorts, IsPortNumber}
use Rattle.ipx_static.specs.declared.neighbour.StaticNeighbour.{StaticNeighbour}
use Rattle.ipx_static.specs.StaticAdvertisements.{AreAdvertisementsOf, AreStaticAdvertisements, heard_on}
use Rattle.ipx_static.proofs.CutWords.{cut_all}

-- routes and then services
pub words_both : (n : StaticNeighbour) (old mid new : List Reply)
    → AddsPackets (AreRoutePackets (heard_on n.port n.node rip_socket) n.routes.items) old mid
    → AddsPackets (AreServicePackets (heard_on n.port n.node sap_socket) false n.services.items) mid new
    → AddsPackets (AreAdvertisementsOf n) old new
words_both n old mid new p q = (
  p.0 ++ q.0,
  q.1 ∙ ap (λ (t : List SendingView). t ++ q.0) p.1 ∙ append_assoc (sendings old) p.0 q.0,
  (p.0, q.0, refl, p.2, q.2),
)

in_a_row : (added old later new : List SendingView) → new ≡ old ++ added → new ++ later ≡ old ++ (added ++ later)
in_a_row added old later new e = ap (λ (t : List SendingView). t ++ later) e ∙ append_assoc old added later

-- one neighbour more
pub words_more : (ns : List StaticNeighbour) (i : ℕ) (n : StaticNeighbour) → drop i ns ≡ n ∷ drop (i + 1) ns → (old new : List Reply)
    → ((later : List SendingView) → AreStaticAdvertisements (drop i ns) later → AreStaticAdvertisements ns (sendings old ++ later))
    → AddsPackets (AreAdvertisementsOf n) old new
    → (later : List SendingView) → AreStaticAdvertisements (drop (i + 1) ns) later → AreStaticAdvertisements ns (sendings new ++ later)
words_more ns i n at old new left adds later rest =
    let here : AreStaticAdvertisements (n ∷ drop (i + 1) ns) (adds.0 ++ later) = (adds.0, later, refl, adds.2, rest) in
    subst (AreStaticAdvertisements ns) (sym (in_a_row adds.0 (sendings old) later (sendings new) adds.1))
    (left (adds.0 ++ later) (subst (λ (ms : List StaticNeighbour). AreStaticAdvertisements ms (adds.0 ++ later)) (sym at) here))

-- each is received on a port that exists
one_there : (count : ℕ) (n : StaticNeighbour) → IsPortNumber count n.port → (advertisements : List SendingView) → AreAdvertisementsOf n advertisements → AreOnPorts count advertisements
one_there count n there advertisements w =
    let P : SendingView → Type 0 = λ s. IsPortNumber count s.port in
    let routes = cut_all 50 (λ part. IsRipPacket (heard_on n.port n.node rip_socket) (rip.Response part)) P (λ part s p. let q : IsRipPacket (heard_on n.port n.node rip_socket) (rip.Response part) s = p in subst (IsPortNumber count) (sym q.port) there) n.routes.items w.0 w.3 in
    let services = cut_all 7 (λ part. IsSapPacket (heard_on n.port n.node sap_socket) (sap.Response false part)) P (λ part s p. let q : IsSapPacket (heard_on n.port n.node sap_socket) (sap.Response false part) s = p in subst (IsPortNumber count) (sym q.port) there) n.services.items w.1 w.4 in
    subst (All P) (sym w.2) (All-append P w.0 w.1 routes services)

pub words_there : (count : ℕ) (ns : List StaticNeighbour) → All (λ n. IsPortNumber count n.port) ns → (advertisements : List SendingView) → AreStaticAdvertisements ns advertisements → AreOnPorts count advertisements
words_there count [] there advertisements w = subst (AreOnPorts count) (sym w) (All-nil _)
words_there count (n ∷ ns) there advertisements w =
    let P : SendingView → Type 0 = λ s. IsPortNumber count s.port in
    let Q : StaticNeighbour → Type 0 = λ n. IsPortNumber count n.port in
    subst (All P) (sym w.2) (All-append P w.0 w.1 (one_there count n (All-head Q n ns there) w.0 w.3) (words_there count ns (All-tail Q n ns there) w.1 w.4))
