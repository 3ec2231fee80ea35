-- A packet without the bytes after it.
use Rattle.std.proofs.Common.{◌≡◌, ◌≤◌, ℕ, ◌+◌, List, ◌++◌, [], length, take, drop, arith, sym, ap, ◌∙◌, refl, subst, take-append-drop}
use Rattle.std.proofs.lemmas.List.{append-nil, drop-append-le, drop-drop, get_or_append_left, length-drop, length-take, take-append-le, take_at, drop_at}
use Rattle.byteorder.specs.Endian.{big_number}
use Rattle.byteorder.specs.Numbers.{big_from-append}
use Rattle.ipx_wire.specs.declared.address.Address.{Address}
use Rattle.ipx_wire.specs.Ipx.{PacketView, IsAddress, IsIpx, number}

number_more : (count at : ℕ) (bytes tail : List ℕ) → at + count ≤ length bytes → number count at (bytes ++ tail) ≡ number count at bytes
number_more count at bytes tail le =
    ap (big_number count) (drop-append-le at bytes tail (omega (arith, le))) ∙ big_from-append count (drop at bytes) tail (omega (arith, le, length-drop at bytes))

address_fewer : (a : Address) (bytes tail : List ℕ) → 12 ≤ length bytes → IsAddress a (bytes ++ tail) → IsAddress a bytes
address_fewer a bytes tail le p = record {
  network = sym (number_more 4 0 bytes tail (omega arith)) ∙ p.network;
  node = sym (ap (take 6) (drop-append-le 4 bytes tail (omega arith)) ∙ take-append-le 6 (drop 4 bytes) tail (omega (arith, length-drop 4 bytes))) ∙ p.node;
  socket = sym (number_more 2 10 bytes tail (omega arith)) ∙ p.socket;
}

address_at_fewer : (a : Address) (at : ℕ) (bytes tail : List ℕ) → at + 12 ≤ length bytes → IsAddress a (drop at (bytes ++ tail)) → IsAddress a (drop at bytes)
address_at_fewer a at bytes tail le p =
    address_fewer a (drop at bytes) tail (omega (arith, length-drop at bytes)) (subst (IsAddress a) (drop-append-le at bytes tail (omega arith)) p)

packet_fewer : (p : PacketView) (bytes tail : List ℕ) → length bytes ≡ 30 + length p.body → IsIpx p (bytes ++ tail) tail → IsIpx p bytes []
packet_fewer p bytes tail len x =
    let behind : drop 30 bytes ++ tail ≡ p.body ++ tail = sym (drop-append-le 30 bytes tail (omega (arith, len))) ∙ x.body in
    let long : length (drop 30 bytes) ≡ length p.body = omega (arith, len, length-drop 30 bytes) in
    let body : drop 30 bytes ≡ p.body = sym (take_at (drop 30 bytes) tail (length p.body) long) ∙ ap (take (length p.body)) behind ∙ take_at p.body tail (length p.body) refl in
    record {
      checksum = sym (number_more 2 0 bytes tail (omega (arith, len))) ∙ x.checksum;
      length_field = sym (number_more 2 2 bytes tail (omega (arith, len))) ∙ x.length_field;
      limit = x.limit;
      hops = sym (get_or_append_left bytes tail 0 4 (omega (arith, len))) ∙ x.hops;
      kind = sym (get_or_append_left bytes tail 0 5 (omega (arith, len))) ∙ x.kind;
      to = address_at_fewer p.header.to 6 bytes tail (omega (arith, len)) x.to;
      from = address_at_fewer p.header.from 18 bytes tail (omega (arith, len)) x.from;
      body = body ∙ sym (append-nil p.body);
      size = omega (arith, len);
    }

-- the bytes of a packet without those after it
pub packet_alone : (p : PacketView) (bytes tail : List ℕ) → IsIpx p bytes tail → IsIpx p (take (30 + length p.body) bytes) []
packet_alone p bytes tail x =
    let len : length (take (30 + length p.body) bytes) ≡ 30 + length p.body = omega (arith, x.size, length-take (30 + length p.body) bytes) in
    let same : take (30 + length p.body) bytes ++ drop (30 + length p.body) bytes ≡ bytes = take-append-drop (30 + length p.body) bytes in
    let behind : drop (30 + length p.body) bytes ≡ tail = sym (drop-drop (length p.body) 30 bytes) ∙ ap (drop (length p.body)) x.body ∙ drop_at p.body tail (length p.body) refl in
    packet_fewer p (take (30 + length p.body) bytes) (drop (30 + length p.body) bytes) len (subst (λ (t : List ℕ). IsIpx p t (drop (30 + length p.body) bytes)) (sym same) (subst (IsIpx p bytes) (sym behind) x))
