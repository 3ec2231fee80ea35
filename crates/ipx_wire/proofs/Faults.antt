-- Bytes have no fault exactly if they are a packet: for IPX, and for SPX.
use Rattle.std.proofs.Common.{◌≡◌, ◌≤◌, ℕ, ◌-◌, List, Bool, true, false, Some, None, length, take, drop, arith, sym, ◌∙◌, refl, take-append-drop, eq-eqb}
use Rattle.std.specs.Prelude.{nat_lt, ◌==◌, if◌then◌else◌, slice_index}
use Rattle.std.proofs.lemmas.Bool.{eqb-true, le-ltb, ltb-false}
use Rattle.std.proofs.lemmas.List.{length-drop, length-take}
use Rattle.ipx_wire.specs.declared.address.Address.{Address}
use Rattle.ipx_wire.specs.declared.ipx.packet.IpxHeader.{IpxHeader}
use Rattle.ipx_wire.specs.declared.ipx.fault.IpxFault.{IpxFault}
use Rattle.ipx_wire.specs.declared.ipx.fault.IpxFault.TheVariants.{Short, Checksummed, LengthShort, Truncated, TooLong}
use Rattle.ipx_wire.specs.declared.spx.packet.SpxHeader.{SpxHeader}
use Rattle.ipx_wire.specs.declared.spx.fault.SpxFault.{SpxFault}
use Rattle.ipx_wire.specs.declared.spx.fault.SpxFault.TheVariants.{SpxShort, OverSize}
use Rattle.ipx_wire.specs.Ipx.{IsAddress, IsIpx, PacketView, ipx_fault, number, packet_of}
use Rattle.ipx_wire.specs.Spx.{IsSpx, IsSpxHeader, has_bit, spx_fault}

-- ---- IPX

-- the results of the tests of a datagram without a fault
record PassesTests (a b c d e : Bool) : Type 0 where
  short : a ≡ false
  checksum : b ≡ true
  under : c ≡ false
  cut : d ≡ false
  over : e ≡ false

no_fault_here : (a b c d e : Bool) (f g h i j : IpxFault)
    → (if a then Some f else if b then (if c then Some g else if d then Some h else if e then Some i else None) else Some j) ≡ None → PassesTests a b c d e
no_fault_here true b c d e f g h i j none = cc
no_fault_here false true true d e f g h i j none = cc
no_fault_here false true false true e f g h i j none = cc
no_fault_here false true false false true f g h i j none = cc
no_fault_here false true false false false f g h i j none = record { short = refl; checksum = refl; under = refl; cut = refl; over = refl }
no_fault_here false false c d e f g h i j none = cc

no_fault_there : (a b c d e : Bool) (f g h i j : IpxFault) → PassesTests a b c d e
    → (if a then Some f else if b then (if c then Some g else if d then Some h else if e then Some i else None) else Some j) ≡ None
no_fault_there a b c d e f g h i j t = rw (t.short, t.checksum, t.under, t.cut, t.over) refl

address_in : List ℕ → Address
address_in bytes = record { network = record { 0 = number 4 0 bytes }; node = record { 0 = take 6 (drop 4 bytes) }; socket = record { 0 = number 2 10 bytes } }

address_in_is : (bytes : List ℕ) → IsAddress (address_in bytes) bytes
unfolding address_in
address_in_is bytes = record { network = refl; node = refl; socket = refl }

header_in : List ℕ → IpxHeader
header_in bytes = record { hops = slice_index bytes 4; kind = slice_index bytes 5; to = address_in (drop 6 bytes); from = address_in (drop 18 bytes) }

-- what bytes without a fault are: the header at the front, and as many bytes of body as the length says
packet_in_is : (bytes : List ℕ) (length_field : ℕ) → number 2 0 bytes ≡ 65535 → number 2 2 bytes ≡ length_field → 30 ≤ length_field → length_field ≤ length bytes → length_field ≤ 1500
    → IsIpx (packet_of (header_in bytes) (take (length_field - 30) (drop 30 bytes))) bytes (drop (length_field - 30) (drop 30 bytes))
unfolding header_in
packet_in_is bytes length_field checksum said least whole most =
    let body = take (length_field - 30) (drop 30 bytes) in
    let long : length body ≡ length_field - 30 = omega (arith, length-take (length_field - 30) (drop 30 bytes), length-drop 30 bytes) in
    record {
      checksum = checksum;
      length_field = said ∙ omega (arith, long);
      limit = omega (arith, long);
      hops = refl;
      kind = refl;
      to = address_in_is (drop 6 bytes);
      from = address_in_is (drop 18 bytes);
      body = sym (take-append-drop (length_field - 30) (drop 30 bytes));
      size = omega (arith, long, length-drop (length_field - 30) (drop 30 bytes), length-drop 30 bytes);
    }

pub packet_without_fault : (bytes : List ℕ) → ipx_fault bytes ≡ None → (p : PacketView) × (tail : List ℕ) × IsIpx p bytes tail
packet_without_fault bytes none =
    let said = number 2 2 bytes in
    let tests = no_fault_here (nat_lt (length bytes) 30) (number 2 0 bytes == 65535) (nat_lt said 30) (nat_lt (length bytes) said) (nat_lt 1500 said)
    (Short (length bytes)) (LengthShort said) (Truncated said (length bytes)) (TooLong said) (Checksummed (number 2 0 bytes)) none in (
      packet_of (header_in bytes) (take (said - 30) (drop 30 bytes)),
      drop (said - 30) (drop 30 bytes),
      packet_in_is bytes said (eqb-true (number 2 0 bytes) 65535 tests.checksum) refl (ltb-false said 30 tests.under) (ltb-false (length bytes) said tests.cut) (ltb-false 1500 said tests.over),
    )

pub no_fault_of_packet : (p : PacketView) (bytes tail : List ℕ) → IsIpx p bytes tail → ipx_fault bytes ≡ None
no_fault_of_packet p bytes tail x =
    let said = number 2 2 bytes in
    no_fault_there (nat_lt (length bytes) 30) (number 2 0 bytes == 65535) (nat_lt said 30) (nat_lt (length bytes) said) (nat_lt 1500 said) _ _ _ _ _ (record {
      short = le-ltb (length bytes) 30 (omega (arith, x.size));
      checksum = eq-eqb (number 2 0 bytes) 65535 x.checksum;
      under = le-ltb said 30 (omega (arith, x.length_field));
      cut = le-ltb (length bytes) said (omega (arith, x.length_field, x.size));
      over = le-ltb 1500 said (omega (arith, x.length_field, x.limit));
    })

-- ---- SPX

no_spx_fault_here : (a b : Bool) (f g : SpxFault) → (if a then Some f else if b then Some g else None) ≡ None → (a ≡ false) × (b ≡ false)
no_spx_fault_here true b f g none = cc
no_spx_fault_here false true f g none = cc
no_spx_fault_here false false f g none = (refl, refl)

spx_header_in : List ℕ → SpxHeader
spx_header_in bytes = record {
  system = has_bit 0x80 (slice_index bytes 0);
  wants_ack = has_bit 0x40 (slice_index bytes 0);
  last = has_bit 0x10 (slice_index bytes 0);
  stream = slice_index bytes 1;
  from_id = number 2 2 bytes;
  to_id = number 2 4 bytes;
  seq = number 2 6 bytes;
  ack = number 2 8 bytes;
  limit = number 2 10 bytes;
}

spx_header_in_is : (bytes : List ℕ) → IsSpxHeader (spx_header_in bytes) bytes
unfolding spx_header_in
spx_header_in_is bytes = record { system = refl; wants_ack = refl; last = refl; stream = refl; from_id = refl; to_id = refl; seq = refl; ack = refl; limit = refl }

pub spx_packet_without_fault : (bytes : List ℕ) → spx_fault bytes ≡ None → (h : SpxHeader) × (body : List ℕ) × IsSpx h body bytes
spx_packet_without_fault bytes none =
    let tests = no_spx_fault_here (nat_lt (length bytes) 12) (nat_lt 546 (length bytes)) (SpxShort (length bytes)) (OverSize (length bytes)) none in
    let least = ltb-false (length bytes) 12 tests.0 in
    let most = ltb-false 546 (length bytes) tests.1 in (
      spx_header_in bytes,
      drop 12 bytes,
      record {
        header = spx_header_in_is bytes;
        behind = refl;
        size = omega (arith, least, length-drop 12 bytes);
        most = omega (arith, most, length-drop 12 bytes);
      },
    )

pub no_fault_of_spx_packet : (h : SpxHeader) (body bytes : List ℕ) → IsSpx h body bytes → spx_fault bytes ≡ None
no_fault_of_spx_packet h body bytes x =
    let least = le-ltb (length bytes) 12 (omega (arith, x.size)) in
    let most = le-ltb 546 (length bytes) (omega (arith, x.size, x.most)) in
    rw (least, most) refl
