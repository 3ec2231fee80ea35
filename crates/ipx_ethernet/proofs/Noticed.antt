-- Whether a frame is in the port's encapsulation, and what its packet says, whatever follows the packet.
use Rattle.std.proofs.Common.{◌≡◌, ◌≤◌, ℕ, List, ◌++◌, Bool, true, false, ◌&&◌, Option, Some, None, length, take, drop, arith, refl, sym, ap, ◌∙◌, eq-eqb}
use Rattle.std.specs.Prelude.{if◌then◌else◌}
use Rattle.std.proofs.lemmas.Bool.{eqb-true, le-leb, leb-true}
use Rattle.std.proofs.lemmas.List.{drop-append-le, get_or_append_left, length-drop, take-append-le}
use Rattle.ipx_wire.specs.declared.address.Network.{Network}
use Rattle.ipx_wire.specs.declared.address.Node.{Node}
use Rattle.ipx_wire.specs.Ipx.{number}
use Rattle.ipx_ethernet.specs.declared.encapsulation.Encapsulation.{Encapsulation}
use Rattle.ipx_ethernet.specs.declared.encapsulation.Encapsulation.TheVariants.{Raw, Llc, Snap, EthernetII}
use Rattle.ipx_ethernet.specs.declared.ethernet_port.EthernetPort.{EthernetPort}
use Rattle.ipx_ethernet.specs.declared.notices.FrameNotice.{FrameNotice}
use Rattle.ipx_ethernet.specs.declared.notices.FrameNotice.TheVariants.{OtherEncapsulation, OtherNetwork}
use Rattle.ipx_ethernet.specs.Frame.{FrameView, IsFrame, length_or_type}
use Rattle.ipx_ethernet.specs.FrameFault.{frame_fault}
use Rattle.ipx_ethernet.specs.Notices.{claim_in, claim_of, is_claim, is_in, notice_in}
use Rattle.ipx_ethernet.proofs.Packets.{number_more}
use Rattle.ipx_ethernet.proofs.Unique.{Says, same_said, says}

both : (x y : Bool) → (x && y) ≡ true → (x ≡ true) × (y ≡ true)
both true true e = (refl, refl)
both true false e = cc
both false y e = cc

-- a frame is in its encapsulation
pub is_in_own : (e : Encapsulation) (f : FrameView) (bytes tail : List ℕ) → IsFrame e f bytes tail → is_in e bytes ≡ true
unfolding Says
is_in_own Raw f bytes tail x = let s = says Raw f bytes tail x in rw (le-leb (length_or_type bytes) 1500 s.0, eq-eqb (number 2 14 bytes) 0xffff s.1) refl
is_in_own Llc f bytes tail x = let s = says Llc f bytes tail x in rw (le-leb (length_or_type bytes) 1500 s.0, eq-eqb (number 2 14 bytes) 0xe0e0 s.1) refl
is_in_own Snap f bytes tail x = let s = says Snap f bytes tail x in rw (le-leb (length_or_type bytes) 1500 s.0, eq-eqb (number 2 14 bytes) 0xaaaa s.1) refl
is_in_own EthernetII f bytes tail x = let s = says EthernetII f bytes tail x in eq-eqb (length_or_type bytes) 0x8137 s.0

says_of : (e : Encapsulation) (bytes : List ℕ) → is_in e bytes ≡ true → Says e (length_or_type bytes) (number 2 0 (drop 14 bytes))
unfolding Says
says_of Raw bytes is = let b = both _ _ is in (leb-true (length_or_type bytes) 1500 b.0, eqb-true (number 2 14 bytes) 0xffff b.1)
says_of Llc bytes is = let b = both _ _ is in (leb-true (length_or_type bytes) 1500 b.0, eqb-true (number 2 14 bytes) 0xe0e0 b.1)
says_of Snap bytes is = let b = both _ _ is in (leb-true (length_or_type bytes) 1500 b.0, eqb-true (number 2 14 bytes) 0xaaaa b.1)
says_of EthernetII bytes is = (eqb-true (length_or_type bytes) 0x8137 is, refl)

never : (b : Bool) → (b ≡ true → ⊥) → b ≡ false
never true n = absurd (n refl)
never false n = refl

-- and in no other
pub is_in_no_other : (d e : Encapsulation) (f : FrameView) (bytes tail : List ℕ) → IsFrame e f bytes tail → (e ≡ d → ⊥) → is_in d bytes ≡ false
is_in_no_other d e f bytes tail x apart =
    never (is_in d bytes) (λ is. apart (same_said e d (length_or_type bytes) (number 2 0 (drop 14 bytes)) (says e f bytes tail x) (says_of d bytes is)))

-- what a packet says, whatever follows it
node_more : (bytes tail : List ℕ) → 28 ≤ length bytes → take 6 (drop 22 (bytes ++ tail)) ≡ take 6 (drop 22 bytes)
node_more bytes tail le =
    ap (take 6) (drop-append-le 22 bytes tail (omega (arith, le))) ∙ take-append-le 6 (drop 22 bytes) tail (omega (arith, le, length-drop 22 bytes))

claim_more : (w : EthernetPort) (to from : Node) (packet tail : List ℕ) → 30 ≤ length packet → is_claim w to from (packet ++ tail) ≡ is_claim w to from packet
claim_more w to from packet tail le =
    rw (number_more 2 28 packet tail (omega (arith, le)), number_more 4 18 packet tail (omega (arith, le)), get_or_append_left packet tail 0 4 (omega (arith, le)), node_more packet tail (omega (arith, le))) refl

-- the claim in a frame of the port's encapsulation is that of its packet
claim_in_frame : (w : EthernetPort) (f : FrameView) (bytes tail : List ℕ) (end : ℕ) → IsFrame w.encapsulation f bytes tail
    → claim_in w bytes end ≡ (if is_claim w f.to f.from f.packet then Some (OtherNetwork (claim_of (record { node = f.from; end = end }) f.packet)) else None)
claim_in_frame w f bytes tail end x =
    let le : 30 ≤ length f.packet = omega (arith, x.packet.1.size) in
    rw (x.to, x.from, x.held, claim_more w f.to f.from f.packet tail le, number_more 4 18 f.packet tail (omega (arith, le))) refl

-- what is noticed of a frame in another encapsulation, of one without a claim, and of one with a claim
pub other_in : (w : EthernetPort) (e : Encapsulation) (f : FrameView) (bytes tail : List ℕ) (end : ℕ) → frame_fault w.own bytes ≡ None → IsFrame e f bytes tail → (e ≡ w.encapsulation → ⊥)
    → notice_in w bytes end ≡ Some (OtherEncapsulation (record { node = f.from; end = end }))
other_in w e f bytes tail end whole x apart = rw (whole, is_in_no_other w.encapsulation e f bytes tail x apart, x.from) refl

own_in : (w : EthernetPort) (f : FrameView) (bytes tail : List ℕ) (end : ℕ) → frame_fault w.own bytes ≡ None → IsFrame w.encapsulation f bytes tail → notice_in w bytes end ≡ claim_in w bytes end
own_in w f bytes tail end whole x = rw (whole, is_in_own w.encapsulation f bytes tail x) refl

pub none_in : (w : EthernetPort) (f : FrameView) (bytes tail : List ℕ) (end : ℕ) → frame_fault w.own bytes ≡ None → IsFrame w.encapsulation f bytes tail → is_claim w f.to f.from f.packet ≡ false
    → notice_in w bytes end ≡ None
none_in w f bytes tail end whole x is = own_in w f bytes tail end whole x ∙ claim_in_frame w f bytes tail end x ∙ rw is refl

pub claim_is_in : (w : EthernetPort) (f : FrameView) (bytes tail : List ℕ) (end : ℕ) (network : Network) → frame_fault w.own bytes ≡ None → IsFrame w.encapsulation f bytes tail → is_claim w f.to f.from f.packet ≡ true
    → network.0 ≡ number 4 18 f.packet → notice_in w bytes end ≡ Some (OtherNetwork (record { router = record { node = f.from; end = end }; network = network }))
claim_is_in w f bytes tail end network whole x is read =
    let there : Option FrameNotice = Some (OtherNetwork (claim_of (record { node = f.from; end = end }) f.packet)) in
    let claimed : claim_in w bytes end ≡ there = claim_in_frame w f bytes tail end x ∙ rw is refl in
    own_in w f bytes tail end whole x ∙ claimed ∙ ap (λ (n : ℕ). Some (OtherNetwork (record { router = record { node = f.from; end = end }; network = record { 0 = n } }))) (sym read)
