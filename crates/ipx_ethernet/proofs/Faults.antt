-- A frame that a station receives has no fault for it.
use Rattle.std.proofs.Common.{◌≡◌, ◌≤◌, ℕ, ◌+◌, ◌-◌, List, ◌++◌, [], Bool, true, false, Option, Some, None, length, take, drop, arith, ap, ◌∙◌, refl, eq-eqb}
use Rattle.std.specs.Prelude.{nat_lt, ◌==◌, ◌||◌, if◌then◌else◌, replicate}
use Rattle.std.specs.Str.{bytes_eq}
use Rattle.std.proofs.lemmas.Bool.{le-ltb, ne_eqb}
use Rattle.std.proofs.lemmas.List.{take-take}
use Rattle.byteorder.specs.Numbers.{big_from-take}
use Rattle.ipx_wire.specs.Assigned.{broadcast_node}
use Rattle.ipx_wire.specs.declared.address.Node.{Node}
use Rattle.ipx_wire.specs.Ipx.{PacketView, IsIpx, ipx_fault, number}
use Rattle.ipx_ethernet.specs.declared.encapsulation.Encapsulation.{Encapsulation}
use Rattle.ipx_ethernet.specs.declared.encapsulation.Encapsulation.TheVariants.{Raw, Llc, Snap, EthernetII}
use Rattle.ipx_ethernet.specs.declared.fault.FrameFault.{FrameFault}
use Rattle.ipx_ethernet.specs.Frame.{FrameView, IsFrame, IsHeardBy, frame_end, is_group, length_or_type, link_bytes, packet_place}
use Rattle.ipx_ethernet.specs.FrameFault.{addressed_fault, counted_fault, encapsulation_in, fault_or_next, frame_fault, payload_of, is_tag, kind_fault, node_of, of_packet, packet_fault, size_fault}
use Rattle.ipx_ethernet.proofs.Packets.{checksum_more}
use Rattle.ipx_ethernet.proofs.Parts.{fronted, take-both}

-- conditions that do not apply
pub falls_through : (a b c d : Bool) (f g h i j : Option FrameFault) → a ≡ false → b ≡ false → c ≡ false → d ≡ false
    → (if a then f else if b then g else if c then h else if d then i else j) ≡ j
falls_through a b c d f g h i j p q r s = rw (p, q, r, s) refl

falls_to_second : (a b : Bool) (f g j : Option FrameFault) → a ≡ false → b ≡ true → (if a then f else if b then g else j) ≡ g
falls_to_second a b f g j p q = rw (p, q) refl

falls_past : (a b : Bool) (f g j : Option FrameFault) → a ≡ false → b ≡ false → (if a then f else if b then g else j) ≡ j
falls_past a b f g j p q = rw (p, q) refl

hears : (a b c d : Bool) (f g h i j : Option FrameFault) → a ≡ false → b ≡ false → c ≡ false → d ≡ true
    → (if a then f else if b then g else if c then h else if d then i else j) ≡ i
hears a b c d f g h i j p q r s = rw (p, q, r, s) refl

none_of : (a b c : Bool) → a ≡ false → b ≡ false → c ≡ false → (a || b || c) ≡ false
none_of a b c p q r = rw (p, q, r) refl

no_tag : (n : ℕ) → n ≤ 0x80ff → is_tag n ≡ false
no_tag n le = none_of (n == 0x8100) (n == 0x88a8) (n == 0x9100) (ne_eqb n 0x8100 (λ e. omega (arith, e))) (ne_eqb n 0x88a8 (λ e. omega (arith, e))) (ne_eqb n 0x9100 (λ e. omega (arith, e)))

no_tag_of_ipx : (n : ℕ) → n ≡ 0x8137 → is_tag n ≡ false
no_tag_of_ipx n is = none_of (n == 0x8100) (n == 0x88a8) (n == 0x9100) (ne_eqb n 0x8100 (λ e. omega (arith, e, is))) (ne_eqb n 0x88a8 (λ e. omega (arith, e, is))) (ne_eqb n 0x9100 (λ e. omega (arith, e, is)))

-- ---- the encapsulation, by the bytes that the length counts

raw_in : (counted : List ℕ) → number 2 0 counted ≡ 0xffff → encapsulation_in counted ≡ Some Raw
raw_in counted e = rw (eq-eqb (number 2 0 counted) 0xffff e) refl

llc_in : (rest : List ℕ) → encapsulation_in (link_bytes Llc ++ rest) ≡ Some Llc
llc_in rest = refl

snap_in : (rest : List ℕ) → encapsulation_in (link_bytes Snap ++ rest) ≡ Some Snap
snap_in rest = refl

-- a frame with a length, whose encapsulation is known or unknown
pub counted_kind : (k : Option Encapsulation) (bytes : List ℕ) → length_or_type bytes ≤ 1500 → 14 + length_or_type bytes ≤ length bytes
    → encapsulation_in (take (length_or_type bytes) (drop 14 bytes)) ≡ k → kind_fault bytes ≡ counted_fault k bytes
counted_kind k bytes few there is =
    let n = length_or_type bytes in
    falls_through (is_tag n) (n == 0x8137) (nat_lt 1500 n) (nat_lt (length bytes) (14 + n)) _ _ _ _ _
    (no_tag n (omega (arith, few))) (ne_eqb n 0x8137 (λ q. omega (arith, q, few))) (le-ltb 1500 n few) (le-ltb (length bytes) (14 + n) there)
    ∙ ap (λ (k : Option Encapsulation). counted_fault k bytes) is

pub end_of_length : (bytes : List ℕ) → length_or_type bytes ≤ 1500 → frame_end bytes ≡ 14 + length_or_type bytes
end_of_length bytes few = rw (le-ltb 1500 (length_or_type bytes) few) refl

-- a frame that names its encapsulation, with room for a packet of 30 bytes
kind_known : (e : Encapsulation) (f : FrameView) (bytes tail : List ℕ) → 30 ≤ length f.packet → IsFrame e f bytes tail → kind_fault bytes ≡ packet_fault e bytes
kind_known Raw f bytes tail big x =
    let few : length_or_type bytes ≤ 1500 = x.kind.kind in
    let end = end_of_length bytes few in
    let mark : number 2 0 (drop 14 bytes) ≡ 0xffff = ap (number 2 0) x.held ∙ checksum_more x.packet.0 f.packet tail x.packet.1 in
    let counted : number 2 0 (take (length_or_type bytes) (drop 14 bytes)) ≡ 0xffff = big_from-take 0 2 (length_or_type bytes) (drop 14 bytes) (omega (arith, x.counted, end, big)) ∙ mark in
    counted_kind (Some Raw) bytes few (omega (arith, x.kind.there, end)) (raw_in (take (length_or_type bytes) (drop 14 bytes)) counted)
kind_known Llc f bytes tail big x =
    let few : length_or_type bytes ≤ 1500 = x.kind.kind in
    let end = end_of_length bytes few in
    let xs = take (length_or_type bytes) (drop 14 bytes) in
    let front : xs ≡ link_bytes Llc ++ drop 3 xs = fronted 3 xs (link_bytes Llc) (take-take 3 (length_or_type bytes) (drop 14 bytes) (omega (arith, x.counted, end, big)) ∙ x.kind.link) in
    counted_kind (Some Llc) bytes few (omega (arith, x.kind.there, end)) (ap encapsulation_in front ∙ llc_in (drop 3 xs))
kind_known Snap f bytes tail big x =
    let few : length_or_type bytes ≤ 1500 = x.kind.kind in
    let end = end_of_length bytes few in
    let xs = take (length_or_type bytes) (drop 14 bytes) in
    let front : xs ≡ link_bytes Snap ++ drop 8 xs = fronted 8 xs (link_bytes Snap) (take-take 8 (length_or_type bytes) (drop 14 bytes) (omega (arith, x.counted, end, big)) ∙ x.kind.link) in
    counted_kind (Some Snap) bytes few (omega (arith, x.kind.there, end)) (ap encapsulation_in front ∙ snap_in (drop 8 xs))
kind_known EthernetII f bytes tail big x =
    let n = length_or_type bytes in
    falls_to_second (is_tag n) (n == 0x8137) _ _ _ (no_tag_of_ipx n x.kind.kind) (eq-eqb n 0x8137 x.kind.kind)

-- ---- the addresses

heard : (own : Node) (f : FrameView) → IsHeardBy own f → addressed_fault own f.to f.from ≡ None
heard own f h =
    hears (is_group f.from.0) (bytes_eq f.from.0 (replicate 6 0)) (bytes_eq f.from.0 own.0) (bytes_eq f.to.0 own.0 || bytes_eq f.to.0 broadcast_node) _ _ _ _ _ h.single h.named h.other h.for_it

sized : (n : ℕ) → 14 ≤ n → n ≤ 1514 → size_fault n ≡ None
sized n least most = falls_past (nat_lt n 14) (nat_lt 1514 n) _ _ None (le-ltb n 14 least) (le-ltb 1514 n most)

-- bytes of a size, for stations that receive them
pub comes_to_kind : (own to from : Node) (bytes : List ℕ) → 14 ≤ length bytes → length bytes ≤ 1514 → take 6 bytes ≡ to.0 → take 6 (drop 6 bytes) ≡ from.0
    → frame_fault own bytes ≡ fault_or_next (addressed_fault own to from) (kind_fault bytes)
comes_to_kind own to from bytes least most at_to at_from =
    ap (λ (f : Option FrameFault). fault_or_next f (fault_or_next (addressed_fault own (node_of (take 6 bytes)) (node_of (take 6 (drop 6 bytes)))) (kind_fault bytes))) (sized (length bytes) least most)
    ∙ ap (λ (t : List ℕ). fault_or_next (addressed_fault own (node_of t) (node_of (take 6 (drop 6 bytes)))) (kind_fault bytes)) at_to
    ∙ ap (λ (t : List ℕ). fault_or_next (addressed_fault own to (node_of t)) (kind_fault bytes)) at_from

pub first_none : (f g : Option FrameFault) → f ≡ None → fault_or_next f g ≡ g
first_none f g e = rw e refl

pub first_some : (f g : Option FrameFault) (x : FrameFault) → f ≡ Some x → fault_or_next f g ≡ Some x
first_some f g x e = rw e refl

module _
    (before : (p : PacketView) (bytes tail : List ℕ) → IsIpx p bytes [] → IsIpx p (bytes ++ tail) tail)
    (fine : (p : PacketView) (bytes tail : List ℕ) → IsIpx p bytes tail → ipx_fault bytes ≡ None)
  where
    packet_fine : (e : Encapsulation) (f : FrameView) (bytes tail : List ℕ) → IsFrame e f bytes tail → packet_fault e bytes ≡ None
    packet_fine e f bytes tail x =
        let room = frame_end bytes - packet_place e in
        let held : payload_of e bytes ≡ f.packet ++ take (room - length f.packet) tail = ap (take room) x.held ∙ take-both room f.packet tail (omega (arith, x.counted)) in
        ap of_packet (ap ipx_fault held ∙ fine x.packet.0 (f.packet ++ take (room - length f.packet) tail) (take (room - length f.packet) tail) (before x.packet.0 f.packet (take (room - length f.packet) tail) x.packet.1))

    pub no_fault : (own : Node) (e : Encapsulation) (f : FrameView) (bytes tail : List ℕ) → IsFrame e f bytes tail → IsHeardBy own f → frame_fault own bytes ≡ None
    no_fault own e f bytes tail x h =
        let big : 30 ≤ length f.packet = omega (arith, x.packet.1.size) in
        comes_to_kind own f.to f.from bytes (omega (arith, x.counted, x.kind.there)) x.most x.to x.from
        ∙ first_none _ (kind_fault bytes) (heard own f h) ∙ kind_known e f bytes tail big x ∙ packet_fine e f bytes tail x
