-- A header that was written in front of a body in place makes a packet of both.
use Rattle.std.proofs.Common.{◌≡◌, ◌≤◌, ℕ, ◌+◌, List, ◌++◌, [], length, take, drop, arith, sym, ap, ◌∙◌, refl, append_assoc, append-nil, subst, take-append-drop}
use Rattle.std.proofs.lemmas.List.{length-append, length-drop, length-take, take_at, drop_at}
use Rattle.ipx_wire.specs.declared.ipx.packet.IpxHeader.{IpxHeader}
use Rattle.ipx_wire.specs.declared.spx.packet.SpxHeader.{SpxHeader}
use Rattle.ipx_wire.specs.Ipx.{IsHeaderInRange, IsInRange, IsIpx, header_bytes, ipx_bytes, packet_of}
use Rattle.ipx_wire.specs.Spx.{HasFreeBitsClear, IsSpx, IsSpxInRange, spx_bytes, spx_header_bytes}
use Rattle.ipx_wire.proofs.RoundTrip.{ipx_read, length-header}
use Rattle.ipx_wire.proofs.SpxTrip.{spx_clear, spx_read}

-- n bytes of a list from index k on, after k others
front : (k n : ℕ) (head old new : List ℕ) → length head ≡ k → k + n ≤ length old → new ≡ head ++ drop k old → take (k + n) new ≡ head ++ take n (drop k old)
front k n head old new size room is =
    let body = take n (drop k old) in
    let long : length body ≡ n = omega (arith, length-take n (drop k old), length-drop k old) in
    let parts : new ≡ (head ++ body) ++ drop n (drop k old) =
    is ∙ ap (λ (t : List ℕ). head ++ t) (sym (take-append-drop n (drop k old))) ∙ sym (append_assoc head body (drop n (drop k old))) in
    rw parts (take_at (head ++ body) (drop n (drop k old)) (k + n) (omega (arith, size, long, length-append head body)))

pub packet_in_place : (h : IpxHeader) (n : ℕ) (old new : List ℕ) → IsHeaderInRange h → n ≤ 1470 → 30 + n ≤ length old → new ≡ header_bytes h n ++ drop 30 old
    → IsIpx (packet_of h (take n (drop 30 old))) (take (30 + n) new) []
packet_in_place h n old new range limit room is =
    let body = take n (drop 30 old) in
    let p = packet_of h body in
    let long : length body ≡ n = omega (arith, length-take n (drop 30 old), length-drop 30 old) in
    let in_range : IsInRange p = record { header = range; body = omega (arith, long) } in
    let bytes : take (30 + n) new ≡ ipx_bytes p =
    front 30 n (header_bytes h n) old new (length-header h n range) room is ∙ ap (λ (k : ℕ). header_bytes h k ++ body) (sym long) in
    subst (λ (t : List ℕ). IsIpx p t []) (append-nil (ipx_bytes p) ∙ sym bytes) (ipx_read p [] in_range)

-- the bytes of the packet that a header in front of data in place makes
pub spx_in_place : (h : SpxHeader) (n : ℕ) (old new : List ℕ) → 12 + n ≤ length old → new ≡ spx_header_bytes h ++ drop 12 old
    → take (12 + n) new ≡ spx_bytes h (take n (drop 12 old))
spx_in_place h n old new room is = front 12 n (spx_header_bytes h) old new refl room is

pub spx_packet_in_place : (h : SpxHeader) (n : ℕ) (old new : List ℕ) → IsSpxInRange h → n ≤ 534 → 12 + n ≤ length old → new ≡ spx_header_bytes h ++ drop 12 old
    → IsSpx h (take n (drop 12 old)) (take (12 + n) new)
spx_packet_in_place h n old new range limit room is =
    let body = take n (drop 12 old) in
    subst (λ (t : List ℕ). IsSpx h body t) (sym (spx_in_place h n old new room is))
    (spx_read h body range (omega (arith, limit, length-take n (drop 12 old), length-drop 12 old)))

pub spx_clear_in_place : (h : SpxHeader) (n : ℕ) (old new : List ℕ) → 12 + n ≤ length old → new ≡ spx_header_bytes h ++ drop 12 old → HasFreeBitsClear (take (12 + n) new)
spx_clear_in_place h n old new room is =
    subst HasFreeBitsClear (sym (spx_in_place h n old new room is)) (spx_clear h (take n (drop 12 old)))

-- what follows the header stays
pub after_header : (h : IpxHeader) (n : ℕ) (old new : List ℕ) → IsHeaderInRange h → new ≡ header_bytes h n ++ drop 30 old → drop 30 new ≡ drop 30 old
after_header h n old new range is = rw is (drop_at (header_bytes h n) (drop 30 old) 30 (length-header h n range))
