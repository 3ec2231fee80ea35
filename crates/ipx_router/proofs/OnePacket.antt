-- A packet that the router makes is determined, and a list is split into packets in one way.
use Rattle.std.proofs.Common.{◌≡◌, ℕ, ◌+◌, ◌<◌, List, [], ◌∷◌, length, take, drop, get_or, refl, sym, ap, ◌∙◌, subst, arith, append-nil}
use Rattle.std.proofs.lemmas.List.{get_or-drop}
use Rattle.ipx_wire.specs.Ipx.{IsBytes, IsIpx, PacketView}
use Rattle.ipx_router.specs.declared.packets.Recipient.{Recipient}
use Rattle.ipx_router.specs.RouterPackets.{AreBytesOf, AreCutOf, IsOwnPacket, SendingView, own_header}

-- a packet has one list of bytes
abbrev pub OneListOfBytes : Type 0
OneListOfBytes = (p : PacketView) (a b tail : List ℕ) → IsBytes a → IsBytes b → IsIpx p a tail → IsIpx p b tail → a ≡ b

pub bytes_one : OneListOfBytes → (p : PacketView) (a b : List ℕ) → AreBytesOf p a → AreBytesOf p b → a ≡ b
bytes_one one p a b is_a is_b = one p a b [] is_a.in_range is_b.in_range is_a.packet is_b.packet

-- the body of a packet of bytes is bytes
body_in_range : (p : PacketView) (bytes : List ℕ) → AreBytesOf p bytes → IsBytes p.body
body_in_range p bytes is i =
    let body : drop 30 bytes ≡ p.body = is.packet.body ∙ append-nil p.body in
    let at : get_or p.body i 0 ≡ get_or bytes (30 + i) 0 = ap (λ (xs : List ℕ). get_or xs i 0) (sym body) ∙ get_or-drop 30 bytes i 0 in
    subst (λ (n : ℕ). n < 256) (sym at) (is.in_range (30 + i))

module _ (one : OneListOfBytes) (to : Recipient) (kind socket : ℕ) (IsBody : List ℕ → Type 0) (bodies : (x y : List ℕ) → IsBytes x → IsBytes y → IsBody x → IsBody y → x ≡ y) where
  pub own_packet_one : (s t : SendingView) → IsOwnPacket to kind socket IsBody s → IsOwnPacket to kind socket IsBody t → s ≡ t
  own_packet_one s t is_s is_t =
      let packet_of = λ (body : List ℕ). let p : PacketView = record { header = own_header to kind socket; body = body } in p in
      let body : is_s.body ≡ is_t.body = bodies is_s.body is_t.body (body_in_range (packet_of is_s.body) s.bytes is_s.packet) (body_in_range (packet_of is_t.body) t.bytes is_t.packet) is_s.says is_t.says in
      let moved : AreBytesOf (packet_of is_t.body) s.bytes = subst (λ (b : List ℕ). AreBytesOf (packet_of b) s.bytes) body is_s.packet in
      let bytes = bytes_one one (packet_of is_t.body) s.bytes t.bytes moved is_t.packet in
      let port : s.port ≡ t.port = is_s.port ∙ sym is_t.port in
      let next : s.next ≡ t.next = is_s.next ∙ sym is_t.next in
      λ i. record { port = port i; next = next i; bytes = bytes i }

module _ {E : Type 0} (most : ℕ) (IsPacketOf : List E → SendingView → Type 0) (packets : (part : List E) (s t : SendingView) → IsPacketOf part s → IsPacketOf part t → s ≡ t) where
  pub cuts_one : (entries : List E) (ss ts : List SendingView) → AreCutOf most IsPacketOf entries ss → AreCutOf most IsPacketOf entries ts → ss ≡ ts
  cuts_one entries [] [] x y = refl
  cuts_one entries [] (t ∷ ts) x y = absurd (omega (arith, ap length x, y.0))
  cuts_one entries (s ∷ ss) [] x y = absurd (omega (arith, ap length y, x.0))
  cuts_one entries (s ∷ ss) (t ∷ ts) x y =
      let first = packets (take most entries) s t x.1 y.1 in
      let rest = cuts_one (drop most entries) ss ts x.2 y.2 in
      λ i. first i ∷ rest i
