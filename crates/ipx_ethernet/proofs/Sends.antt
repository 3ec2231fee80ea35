-- The bytes that are written are a frame that is sent.
use Rattle.std.proofs.Common.{◌≡◌, ◌≤◌, ◌<◌, ℕ, ◌+◌, ◌-◌, List, ◌++◌, [], Option, None, length, take, drop, arith, sym, ap, ◌∙◌, refl, append_assoc, subst}
use Rattle.std.specs.Prelude.{replicate}
use Rattle.std.proofs.lemmas.Bool.{le-ltb}
use Rattle.std.proofs.lemmas.List.{drop-drop, length-append, length-replicate, take_at, drop_at}
use Rattle.byteorder.specs.Endian.{big_bytes, big_number}
use Rattle.byteorder.specs.Numbers.{big_number-reads_back}
use Rattle.ipx_wire.specs.declared.address.Node.{Node}
use Rattle.ipx_wire.specs.Ipx.{PacketView, IsIpx, IsWritten, ipx_fault, number}
use Rattle.ipx_wire.specs.declared.ipx.fault.IpxFault.{IpxFault}
use Rattle.ipx_ethernet.specs.declared.encapsulation.Encapsulation.{Encapsulation}
use Rattle.ipx_ethernet.specs.declared.encapsulation.Encapsulation.TheVariants.{Raw, Llc, Snap, EthernetII}
use Rattle.ipx_ethernet.specs.Frame.{IsFrame, IsTypeOrLength, frame_end, frame_of, length_or_type, link_bytes, most_of, packet_place}
use Rattle.ipx_ethernet.specs.SentFrame.{IsSentFrame, held_size, sending_fault, sending_fault_of, sent_kind, sent_size}
use Rattle.ipx_ethernet.proofs.Faults.{end_of_length}
use Rattle.ipx_ethernet.proofs.Parts.{write-part}
use borrow.Rule.Slice.PartMut.{put_mid}

pub record Fits (e : Encapsulation) (n : ℕ) : Type 0 where
  pub low : length (link_bytes e) + n ≤ held_size e n
  pub high : held_size e n ≤ 1500
  pub kind : IsTypeOrLength e (sent_kind e n)
  pub small : sent_kind e n < 65536

pub fits : (e : Encapsulation) (n : ℕ) → n ≤ most_of e → Fits e n
fits Raw n le = record { low = omega (arith, le); high = omega (arith, le); kind = omega (arith, le); small = omega (arith, le) }
fits Llc n le = record { low = omega (arith, le); high = omega (arith, le); kind = omega (arith, le); small = omega (arith, le) }
fits Snap n le = record { low = omega (arith, le); high = omega (arith, le); kind = omega (arith, le); small = omega (arith, le) }
fits EthernetII n le = record { low = omega (arith, le); high = omega (arith, le); kind = refl; small = omega (arith, le) }

-- where the contents of such a frame end
record Ends (e : Encapsulation) (n : ℕ) (bytes : List ℕ) : Type 0 where
  counted : packet_place e + n ≤ frame_end bytes
  there : frame_end bytes ≤ length bytes

ends_of_length : (e : Encapsulation) (n : ℕ) (bytes : List ℕ) → length_or_type bytes ≡ held_size e n → Fits e n → 14 + held_size e n ≤ length bytes → Ends e n bytes
ends_of_length e n bytes said fit there =
    let end = end_of_length bytes (omega (arith, said, fit.high)) in
    record { counted = omega (arith, end, said, fit.low); there = omega (arith, end, said, there) }

end_of_type : (bytes : List ℕ) → length_or_type bytes ≡ 0x8137 → frame_end bytes ≡ length bytes
end_of_type bytes said = rw said refl

ends : (e : Encapsulation) (n : ℕ) (bytes : List ℕ) → length_or_type bytes ≡ sent_kind e n → Fits e n → 14 + held_size e n ≤ length bytes → Ends e n bytes
ends Raw n bytes said fit there = ends_of_length Raw n bytes said fit there
ends Llc n bytes said fit there = ends_of_length Llc n bytes said fit there
ends Snap n bytes said fit there = ends_of_length Snap n bytes said fit there
ends EthernetII n bytes said fit there =
    let end = end_of_type bytes said in
    record { counted = omega (arith, end, there); there = omega (arith, end) }

pub sent_bytes : (e : Encapsulation) (to from : Node) (packet : List ℕ) (p : PacketView) → IsIpx p packet [] → length packet ≤ most_of e → length to.0 ≡ 6 → length from.0 ≡ 6
    → IsSentFrame e (frame_of to from packet)
    (to.0 ++ from.0 ++ big_bytes 2 (sent_kind e (length packet)) ++ (link_bytes e ++ packet ++ replicate (sent_size e (length packet) - 14 - (length (link_bytes e) + length packet)) 0))
sent_bytes e to from packet p x le len_to len_from =
    let n = length packet in
    let link = link_bytes e in
    let k = length link in
    let fit = fits e n le in
    let size = sent_size e n in
    let some = size - 14 - (k + n) in
    let zeros : List ℕ = replicate some 0 in
    let said : List ℕ = big_bytes 2 (sent_kind e n) in
    let body = link ++ packet ++ zeros in
    let bytes = to.0 ++ from.0 ++ said ++ body in
    let parts : bytes ≡ to.0 ++ (from.0 ++ (said ++ body)) = append_assoc (to.0 ++ from.0) said body ∙ append_assoc to.0 from.0 (said ++ body) in
    let at6 : drop 6 bytes ≡ from.0 ++ (said ++ body) = ap (drop 6) parts ∙ drop_at to.0 (from.0 ++ (said ++ body)) 6 len_to in
    let at12 : drop 12 bytes ≡ said ++ body = sym (drop-drop 6 6 bytes) ∙ ap (drop 6) at6 ∙ drop_at from.0 (said ++ body) 6 len_from in
    let at14 : drop 14 bytes ≡ body = sym (drop-drop 2 12 bytes) ∙ ap (drop 2) at12 in
    let kind : length_or_type bytes ≡ sent_kind e n = ap (big_number 2) at12 ∙ big_number-reads_back 2 (sent_kind e n) body (omega (arith, fit.small)) in
    let linked : drop 14 bytes ≡ link ++ (packet ++ zeros) = at14 ∙ append_assoc link packet zeros in
    let long_body : length body ≡ k + n + some = omega (arith, length-append (link ++ packet) zeros, length-append link packet, length-replicate {A = ℕ} some 0) in
    let long : length bytes ≡ 14 + (k + n + some) = omega (arith, long_body, len_to, len_from, length-append to.0 from.0, length-append (to.0 ++ from.0) said, length-append (to.0 ++ from.0 ++ said) body) in
    let sized : length bytes ≡ size = omega (arith, long, fit.low) in
    let end = ends e n bytes kind fit (omega (arith, sized)) in
    let most : length bytes ≤ 1514 = omega (arith, sized, fit.high) in
    let rest : some ≡ length bytes - (packet_place e + n) = omega (arith, long) in
    let frame : IsFrame e (frame_of to from packet) bytes zeros = record {
      to = ap (take 6) parts ∙ take_at to.0 (from.0 ++ (said ++ body)) 6 len_to;
      from = ap (take 6) at6 ∙ take_at from.0 (said ++ body) 6 len_from;
      kind = record {
        kind = subst (IsTypeOrLength e) (sym kind) fit.kind;
        link = ap (take k) linked ∙ take_at link (packet ++ zeros) k refl;
        there = end.there;
      };
      held = sym (drop-drop k 14 bytes) ∙ ap (drop k) linked ∙ drop_at link (packet ++ zeros) k refl;
      packet = (p, x);
      counted = end.counted;
      most = most;
    } in
    record {
      frame = subst (λ (i : ℕ). IsFrame e (frame_of to from packet) bytes (replicate i 0)) rest frame;
      kind = kind;
      size = sized;
    }

-- the fields that are written one after another, and what follows them
pub put_whole : (e : Encapsulation) (to from : Node) (packet link old xs ys : List ℕ) (kind size room : ℕ) → length packet ≤ most_of e → length to.0 ≡ 6 → length from.0 ≡ 6
    → link ≡ link_bytes e → kind ≡ sent_kind e (length packet) → size ≡ sent_size e (length packet) → xs ≡ to.0 ++ from.0 ++ big_bytes 2 kind ++ drop 14 old → room ≡ size - 14
    → ys ≡ link ++ packet ++ replicate (room - (length link + length packet)) 0
    → IsWritten old
    (to.0 ++ from.0 ++ big_bytes 2 (sent_kind e (length packet)) ++ (link_bytes e ++ packet ++ replicate (sent_size e (length packet) - 14 - (length (link_bytes e) + length packet)) 0))
    (put_mid 14 (size - 14) xs ys) size
put_whole e to from packet link old xs ys kind size room le len_to len_from is_link is_kind is_size at_head is_room at_body =
    let n = length packet in
    let k = length (link_bytes e) in
    let fit = fits e n le in
    let body : List ℕ = link_bytes e ++ packet ++ replicate (sent_size e n - 14 - (k + n)) 0 in
    let head : List ℕ = to.0 ++ from.0 ++ big_bytes 2 (sent_kind e n) in
    let some : room ≡ sent_size e n - 14 = is_room ∙ ap (λ (i : ℕ). i - 14) is_size in
    let is_body : ys ≡ body = at_body ∙ ap (λ (l : List ℕ). l ++ packet ++ replicate (room - (length l + n)) 0) is_link ∙ ap (λ (i : ℕ). link_bytes e ++ packet ++ replicate (i - (k + n)) 0) some in
    let is_head : xs ≡ head ++ drop 14 old = at_head ∙ ap (λ (i : ℕ). to.0 ++ from.0 ++ big_bytes 2 i ++ drop 14 old) is_kind in
    let long_head : length head ≡ 14 = omega (arith, len_to, len_from, length-append to.0 from.0, length-append (to.0 ++ from.0) (big_bytes 2 (sent_kind e n))) in
    let zeros : List ℕ = replicate (sent_size e n - 14 - (k + n)) 0 in
    let long_body : length body ≡ size - 14 = omega (arith, is_size, fit.low, length-append (link_bytes e ++ packet) zeros, length-append (link_bytes e) packet, length-replicate {A = ℕ} (sent_size e n - 14 - (k + n)) 0) in
    let first : IsWritten old head xs 14 = record { is = is_head; count = long_head } in
    let all : 14 + (size - 14) ≡ size = omega (arith, is_size) in
    subst (λ (i : ℕ). IsWritten old (head ++ body) (put_mid 14 (size - 14) xs ys) i) all (write-part old head body xs ys 14 (size - 14) first long_body is_body)

-- a packet that fits, with a buffer that fits, has no fault
pub sending_fine : (e : Encapsulation) (packet : List ℕ) (room : ℕ) → ipx_fault packet ≡ None → number 2 2 packet ≤ most_of e → sent_size e (number 2 2 packet) ≤ room
    → sending_fault e packet room ≡ None
sending_fine e packet room none few wide =
    ap (λ (f : Option IpxFault). sending_fault_of f e packet room) none ∙ rw (le-ltb (most_of e) (number 2 2 packet) few, le-ltb room (sent_size e (number 2 2 packet)) wide) refl
