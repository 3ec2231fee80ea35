-- Entries added to packets one by one.
use Rattle.std.proofs.Common.{◌≡◌, ℕ, ◌+◌, ◌≤◌, ◌<◌, List, [], ◌∷◌, ◌++◌, length, take, drop, sym, ap, ◌∙◌, subst, arith, append-nil}
use Rattle.std.proofs.lemmas.List.{append_assoc, drop_at, length-append, length-take-le, length_push, take_at}
use Rattle.ipx_router.specs.declared.outcome.Reply.{Reply}
use Rattle.ipx_wire.specs.Ipx.{packet_of}
use Rattle.ipx_wire.specs.declared.ipx.packet.IpxHeader.{IpxHeader}
use Rattle.ipx_router.specs.declared.packets.Recipient.{Recipient}
use Rattle.ipx_router.specs.RouterPackets.{AreBytesOf, AreCutOf, IsOwnPacket, SendingView, own_header, sending_of, sendings}
use Rattle.ipx_router.specs.Adding.{AddsPackets, ArePacked}
use Rattle.ipx_router.proofs.Cuts.{sendings_push}

module _ {E : Type 0} (Are : List E → List SendingView → Type 0) where
  pub packed_none : ArePacked Are [] [] []
  packed_none = record { last = omega arith; packed = λ rest later cut. cut }

  module _ (entries : List E) (sent : List Reply) (hand : List E) (h : ArePacked Are entries sent hand) where
    -- one more entry in the open packet
    pub packed_push : (e : E) → ArePacked Are (entries ++ e ∷ []) sent (hand ++ e ∷ [])
    packed_push e = record {
      last = omega (arith, length_push hand e, length_push entries e, h.last);
      packed = λ rest later cut.
          subst (λ es. Are es (sendings sent ++ later)) (sym (append_assoc entries (e ∷ []) rest))
          (h.packed (e ∷ rest) later (subst (λ es. Are es later) (append_assoc hand (e ∷ []) rest) cut));
    }

    -- no more entries: the packets of the open entries are the last ones
    pub packed_done : (new : List Reply) → AddsPackets (Are hand) sent new → Are entries (sendings new)
    packed_done new adds =
        let all = h.packed [] adds.0 (subst (λ es. Are es adds.0) (sym (append-nil hand)) adds.2) in
        subst (Are entries) (sym adds.1) (subst (λ es. Are es (sendings sent ++ adds.0)) (append-nil entries) all)

    pub packed_some : 0 < length hand → 0 < length entries
    packed_some some = omega (arith, h.last, some)

module _ {E : Type 0} (most : ℕ) (IsPacketOf : List E → SendingView → Type 0) (entries : List E) (sent : List Reply) (hand : List E) (h : ArePacked (AreCutOf most IsPacketOf) entries sent hand) where
  -- the open packet is full, and was closed
  pub packed_close : (r : Reply) → length hand ≡ most → 0 < most → IsPacketOf hand (sending_of r) → ArePacked (AreCutOf most IsPacketOf) entries (sent ++ r ∷ []) []
  packed_close r full some is = record {
    last = omega arith;
    packed = λ rest later cut.
        let front : take most (hand ++ rest) ≡ hand = take_at hand rest most full in
        let behind : drop most (hand ++ rest) ≡ rest = drop_at hand rest most full in
        let longer : 0 < length (hand ++ rest) = omega (arith, length-append hand rest, full, some) in
        subst (AreCutOf most IsPacketOf (entries ++ rest)) (sym (sendings_push sent r later))
        (h.packed rest (sending_of r ∷ later)
        (longer, subst (λ part. IsPacketOf part (sending_of r)) (sym front) is, subst (λ es. AreCutOf most IsPacketOf es later) (sym behind) cut));
  }

  -- the open packet is empty, and no entry follows
  pub packed_whole : hand ≡ [] → AreCutOf most IsPacketOf entries (sendings sent)
  packed_whole none =
      packed_done (AreCutOf most IsPacketOf) entries sent hand h sent ([], sym (append-nil (sendings sent)), none)

-- ---- a body that was written in place

-- what follows an index after the part from there on was written
pub part_written : (at len : ℕ) (old part rest beyond : List ℕ) → at ≤ length old → at + length part ≡ length old → len ≡ length old → rest ≡ []
    → drop at (take len ((take at old ++ (part ++ rest)) ++ drop (length (take at old ++ (part ++ rest))) beyond)) ≡ part
part_written at len old part rest beyond within fits whole none =
    let front : length (take at old) ≡ at = length-take-le at old within in
    let now = take at old ++ (part ++ rest) in
    let nothing : length rest ≡ 0 = ap length none in
    let all : length now ≡ len = omega (arith, length-append (take at old) (part ++ rest), length-append part rest, front, fits, whole, nothing) in
    ap (drop at) (take_at now (drop (length now) beyond) len all) ∙ drop_at (take at old) (part ++ rest) at front ∙ ap (λ l. part ++ l) none ∙ append-nil part

pub own_written : (to : Recipient) (kind socket : ℕ) (IsBody : List ℕ → Type 0) (r : Reply) (header : IpxHeader) (bytes body : List ℕ) → r.port ≡ to.number → r.next ≡ to.node → header ≡ own_header to kind socket
    → AreBytesOf (packet_of header bytes) r.bytes.items → bytes ≡ body → IsBody body → IsOwnPacket to kind socket IsBody (sending_of r)
own_written to kind socket IsBody r header bytes body port next made are same says = record {
  port = port;
  next = next;
  body = body;
  says = says;
  packet = subst (λ (h : IpxHeader). AreBytesOf (packet_of h body) r.bytes.items) made (subst (λ (b : List ℕ). AreBytesOf (packet_of header b) r.bytes.items) same are);
}
