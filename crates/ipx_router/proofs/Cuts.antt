-- Packets added one after another, and the ports that they leave by.
use Rattle.ipx_wire.specs.Assigned.{packet_exchange_type, rip_socket, rip_type, sap_socket}
use Rattle.std.proofs.Common.{◌≡◌, ℕ, Bool, true, false, ◌<◌, List, [], ◌∷◌, ◌++◌, length, take, drop, refl, sym, ap, ◌∙◌, subst, arith, inl, inr, min, append-nil}
use Rattle.std.proofs.lemmas.Bool.{cases_lt}
use Rattle.std.proofs.lemmas.List.{take_all, drop_all}
use Rattle.std.specs.List.{All}
use Rattle.std.proofs.lemmas.List.Elements.{All-cons, All-nil}
use Rattle.ipx_router.specs.declared.outcome.Reply.{Reply}
use Rattle.std.specs.Prelude.{◌==◌}
use borrow.Author.Tests.{eqb-true}
use Rattle.ipx_control.specs.declared.rip.packet.RipEntry.{RipEntry}
use Rattle.ipx_control.specs.declared.sap.packet.ServiceEntry.{ServiceEntry}
use Rattle.ipx_control.specs.Rip.{RipView}
use Rattle.ipx_control.specs.Rip as rip
use Rattle.ipx_control.specs.Sap.{SapView}
use Rattle.ipx_control.specs.Sap as sap
use Rattle.ipx_router.specs.declared.packets.Recipient.{Recipient}
use Rattle.ipx_router.specs.RouterPackets.{AreCutOf, AreRoutePackets, AreServicePackets, AreOwn, IsOwn, IsRipPacket, IsSapPacket, SendingView, own_header, sending_of, sendings}
use Rattle.ipx_router.specs.Adding.{AddsPackets, IsLeftToAdd}

pub sendings_push : (old : List Reply) (r : Reply) (later : List SendingView) → sendings (old ++ r ∷ []) ++ later ≡ sendings old ++ (sending_of r ∷ later)
sendings_push [] r later = refl
sendings_push (x ∷ old) r later = ap (λ (t : List SendingView). sending_of x ∷ t) (sendings_push old r later)

pub sendings_one : (old : List Reply) (r : Reply) → sendings (old ++ r ∷ []) ≡ sendings old ++ (sending_of r ∷ [])
sendings_one old r = sym (append-nil (sendings (old ++ r ∷ []))) ∙ sendings_push old r []

module _ {E : Type 0} (most : ℕ) (IsPacketOf : List E → SendingView → Type 0) (entries rest : List E) (old new : List Reply) (left : IsLeftToAdd (AreCutOf most IsPacketOf) entries rest old new) where
  -- one more packet
  pub cut_more : (r : Reply) → 0 < length rest → IsPacketOf (take most rest) (sending_of r) → IsLeftToAdd (AreCutOf most IsPacketOf) entries (drop most rest) old (new ++ r ∷ [])
  cut_more r some is later cut =
      let w = left (sending_of r ∷ later) (some, is, cut) in
      (w.0, sendings_push new r later ∙ w.1, w.2)

  -- and no more packets
  pub cut_done : rest ≡ [] → AddsPackets (AreCutOf most IsPacketOf entries) old new
  cut_done none = let w = left [] none in (w.0, sym (append-nil (sendings new)) ∙ w.1, w.2)

pub cut_none : {E : Type 0} (most : ℕ) (IsPacketOf : List E → SendingView → Type 0) (entries : List E) (old : List Reply) → IsLeftToAdd (AreCutOf most IsPacketOf) entries entries old old
cut_none most IsPacketOf entries old later cut = (later, refl, cut)

-- packets added to an empty list
pub added_alone : (ArePackets : List SendingView → Type 0) (new : List Reply) → AddsPackets ArePackets [] new → ArePackets (sendings new)
added_alone ArePackets new p = subst ArePackets (sym p.1) p.2

-- what holds of the packet of each part holds of all packets of a list
pub cut_all : {E : Type 0} (most : ℕ) (IsPacketOf : List E → SendingView → Type 0) (P : SendingView → Type 0) → ((part : List E) (s : SendingView) → IsPacketOf part s → P s)
    → (entries : List E) (sent : List SendingView) → AreCutOf most IsPacketOf entries sent → All P sent
cut_all most IsPacketOf P by entries [] cut = All-nil P
cut_all most IsPacketOf P by entries (s ∷ sent) cut =
    All-cons P s sent (by (take most entries) s cut.1) (cut_all most IsPacketOf P by (drop most entries) sent cut.2)

-- take and drop of at most so many do not depend on whether the list is shorter
pub take_fewer : {E : Type 0} (most n : ℕ) (xs : List E) → n ≡ min (length xs) most → (take n xs ≡ take most xs) × (drop n xs ≡ drop most xs)
take_fewer most n xs e = elim (cases_lt most (length xs)) [
  | inl less ↦ let same : n ≡ most = omega arith in rw same (refl, refl)
  | inr not_less ↦
      let all : n ≡ length xs = omega arith in
      (take_all n xs (omega arith) ∙ sym (take_all most xs (omega arith)), drop_all n xs (omega arith) ∙ sym (drop_all most xs (omega arith)))
]

module _ (to : Recipient) where
  pub route_packets_port : (entries : List RipEntry) (sent : List SendingView) → AreRoutePackets to entries sent → All (λ (s : SendingView). s.port ≡ to.number) sent
  route_packets_port entries sent cut =
      cut_all 50 (λ part. IsRipPacket to (rip.Response part)) (λ (s : SendingView). s.port ≡ to.number) (λ part s p. let q : IsRipPacket to (rip.Response part) s = p in q.port) entries sent cut

  pub service_packets_port : (nearest : Bool) (entries : List ServiceEntry) (sent : List SendingView) → AreServicePackets to nearest entries sent → All (λ (s : SendingView). s.port ≡ to.number) sent
  service_packets_port nearest entries sent cut =
      cut_all 7 (λ part. IsSapPacket to (sap.Response nearest part)) (λ (s : SendingView). s.port ≡ to.number) (λ part s p. let q : IsSapPacket to (sap.Response nearest part) s = p in q.port) entries sent cut

  -- RIP and SAP are not SPX
  pub rip_packet_own : (m : RipView) (s : SendingView) → IsRipPacket to m s → IsOwn s
  rip_packet_own m s p =
      let q : IsRipPacket to m s = p in
      record { packet = record { header = own_header to rip_type rip_socket; body = q.body }; is = q.packet.packet; no_spx = λ e. omega (arith, e) }

  pub sap_packet_own : (m : SapView) (s : SendingView) → IsSapPacket to m s → IsOwn s
  sap_packet_own m s p =
      let q : IsSapPacket to m s = p in
      record { packet = record { header = own_header to packet_exchange_type sap_socket; body = q.body }; is = q.packet.packet; no_spx = λ e. omega (arith, e) }

  pub route_packets_own : (entries : List RipEntry) (sent : List SendingView) → AreRoutePackets to entries sent → AreOwn sent
  route_packets_own entries sent cut =
      cut_all 50 (λ part. IsRipPacket to (rip.Response part)) IsOwn (λ part s p. rip_packet_own (rip.Response part) s p) entries sent cut

  pub service_packets_own : (nearest : Bool) (entries : List ServiceEntry) (sent : List SendingView) → AreServicePackets to nearest entries sent → AreOwn sent
  service_packets_own nearest entries sent cut =
      cut_all 7 (λ part. IsSapPacket to (sap.Response nearest part)) IsOwn (λ part s p. sap_packet_own (sap.Response nearest part) s p) entries sent cut

pub some_left : {E : Type 0} (xs : List E) → (length xs == 0) ≡ false → 0 < length xs
some_left [] e = cc
some_left (x ∷ xs) e = omega arith

pub none_left : {E : Type 0} (xs : List E) → (length xs == 0) ≡ true → xs ≡ []
none_left [] e = refl
none_left (x ∷ xs) e = absurd (omega (arith, eqb-true (length (x ∷ xs)) 0 e))
