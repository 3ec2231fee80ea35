-- Bytes are read as one thing only.
use Rattle.std.proofs.Common.{◌≡◌, ℕ, List, Some, None, refl, sym, ap, ◌∙◌, subst}
use Rattle.ipx_wire.specs.declared.spx.packet.SpxHeader.{SpxHeader}
use Rattle.ipx_wire.specs.Ipx.{PacketView, IsIpx, ipx_fault}
use Rattle.ipx_wire.specs.Spx.{IsSpx, spx_fault}
use Rattle.ipx_control.specs.Rip.{RipView, IsRip, rip_fault}
use Rattle.ipx_control.specs.Sap.{SapView, IsSap, sap_fault}
use Rattle.ipx_inspect.specs.Decoded.{ContentsView, OfSpx, OfRip, OfSap, DecodedView, NoPacket, NoSpx, NoControl, Holds, Protocol, Spx, Rip, Sap, Other, IsContents, IsDecoded, body_fault, protocol_of}

-- what the layouts of the packets give
pub record Layouts : Type 0 where
  pub one_ipx : (p q : PacketView) (bytes s t : List ℕ) → IsIpx p bytes s → IsIpx q bytes t → (p ≡ q) × (s ≡ t)
  pub one_spx : (h k : SpxHeader) (body other bytes : List ℕ) → IsSpx h body bytes → IsSpx k other bytes → (h ≡ k) × (body ≡ other)
  pub one_rip : (m n : RipView) (bytes s t : List ℕ) → IsRip m bytes s → IsRip n bytes t → (m ≡ n) × (s ≡ t)
  pub one_sap : (m n : SapView) (bytes s t : List ℕ) → IsSap m bytes s → IsSap n bytes t → (m ≡ n) × (s ≡ t)
  pub no_ipx_fault : (p : PacketView) (bytes tail : List ℕ) → IsIpx p bytes tail → ipx_fault bytes ≡ None
  pub no_spx_fault : (h : SpxHeader) (body bytes : List ℕ) → IsSpx h body bytes → spx_fault bytes ≡ None
  pub no_rip_fault : (m : RipView) (bytes tail : List ℕ) → IsRip m bytes tail → rip_fault bytes ≡ None
  pub no_sap_fault : (m : SapView) (bytes tail : List ℕ) → IsSap m bytes tail → sap_fault bytes ≡ None

-- a body has one contents
contents_are_one : Layouts → (p : Protocol) (body : List ℕ) (x y : ContentsView) → IsContents p body x → IsContents p body y → x ≡ y
contents_are_one l Spx body x y f g =
    let one = l.one_spx f.0 g.0 f.1 g.1 body f.2 g.2 in
    let same : OfSpx f.0 f.1 ≡ OfSpx g.0 g.1 = λ i. OfSpx (one.0 i) (one.1 i) in
    f.3 ∙ same ∙ sym g.3
contents_are_one l Rip body x y f g = f.3 ∙ ap OfRip (l.one_rip f.0 g.0 body f.1 g.1 f.2 g.2).0 ∙ sym g.3
contents_are_one l Sap body x y f g = f.3 ∙ ap OfSap (l.one_sap f.0 g.0 body f.1 g.1 f.2 g.2).0 ∙ sym g.3
contents_are_one l Other body x y f g = f ∙ sym g

-- a body that has contents has no fault
contents_without_fault : Layouts → (p : Protocol) (body : List ℕ) (x : ContentsView) → IsContents p body x → body_fault p body ≡ None
contents_without_fault l Spx body x f = refl
contents_without_fault l Rip body x f = l.no_rip_fault f.0 body f.1 f.2
contents_without_fault l Sap body x f = l.no_sap_fault f.0 body f.1 f.2
contents_without_fault l Other body x f = refl

-- what the body of a packet is read as
ReadsBody : PacketView → DecodedView → Type 0
ReadsBody d (NoPacket f) = ⊥
ReadsBody d (NoSpx f) = (protocol_of d.header ≡ Spx) × (spx_fault d.body ≡ Some f)
ReadsBody d (NoControl f) = body_fault (protocol_of d.header) d.body ≡ Some f
ReadsBody d (Holds e c) = (e ≡ d) × IsContents (protocol_of d.header) d.body c

reads_body : Layouts → (bytes tail : List ℕ) (d : PacketView) → IsIpx d bytes tail → (r : DecodedView) → IsDecoded bytes r → ReadsBody d r
unfolding ReadsBody
reads_body l bytes tail d is (NoPacket f) reads =
    let none = l.no_ipx_fault d bytes tail is in
    cc
reads_body l bytes tail d is (NoSpx f) reads =
    let same = (l.one_ipx reads.0 d bytes reads.1 tail reads.2 is).0 in
    subst (λ (e : PacketView). (protocol_of e.header ≡ Spx) × (spx_fault e.body ≡ Some f)) same (reads.3, reads.4)
reads_body l bytes tail d is (NoControl f) reads =
    let same = (l.one_ipx reads.0 d bytes reads.1 tail reads.2 is).0 in
    subst (λ (e : PacketView). body_fault (protocol_of e.header) e.body ≡ Some f) same reads.3
reads_body l bytes tail d is (Holds e c) reads =
    let same = (l.one_ipx e d bytes reads.0 tail reads.1 is).0 in
    (same, subst (λ (p : PacketView). IsContents (protocol_of p.header) p.body c) same reads.2)

-- an SPX body that is refused has no contents
spx_refused : Layouts → (d : PacketView) (c : ContentsView) → protocol_of d.header ≡ Spx → IsContents (protocol_of d.header) d.body c → spx_fault d.body ≡ None
spx_refused l d c is_spx holds =
    let spx = subst (λ (p : Protocol). IsContents p d.body c) is_spx holds in
    l.no_spx_fault spx.0 spx.1 d.body spx.2

body_is_one : Layouts → (d : PacketView) (a b : DecodedView) → ReadsBody d a → ReadsBody d b → a ≡ b
unfolding ReadsBody
body_is_one l d (NoPacket f) b x y = absurd x
body_is_one l d (NoSpx f) (NoPacket g) x y = absurd y
body_is_one l d (NoSpx f) (NoSpx g) x y =
    let u = x.1 in
    let v = y.1 in
    cc
body_is_one l d (NoSpx f) (NoControl g) x y =
    let none : None ≡ Some g = subst (λ (p : Protocol). body_fault p d.body ≡ Some g) x.0 y in
    cc
body_is_one l d (NoSpx f) (Holds e c) x y =
    let none = spx_refused l d c x.0 y.1 in
    let some = x.1 in
    cc
body_is_one l d (NoControl f) (NoPacket g) x y = absurd y
body_is_one l d (NoControl f) (NoSpx g) x y =
    let none : None ≡ Some f = subst (λ (p : Protocol). body_fault p d.body ≡ Some f) y.0 x in
    cc
body_is_one l d (NoControl f) (NoControl g) x y = cc
body_is_one l d (NoControl f) (Holds e c) x y =
    let none = contents_without_fault l (protocol_of d.header) d.body c y.1 in
    cc
body_is_one l d (Holds e c) (NoPacket g) x y = absurd y
body_is_one l d (Holds e c) (NoSpx g) x y =
    let none = spx_refused l d c y.0 x.1 in
    let some = y.1 in
    cc
body_is_one l d (Holds e c) (NoControl g) x y =
    let none = contents_without_fault l (protocol_of d.header) d.body c x.1 in
    cc
body_is_one l d (Holds e c) (Holds k m) x y =
    let packet : e ≡ k = x.0 ∙ sym y.0 in
    let contents = contents_are_one l (protocol_of d.header) d.body c m x.1 y.1 in
    λ i. Holds (packet i) (contents i)

pub readings_are_one : Layouts → (bytes : List ℕ) (a b : DecodedView) → IsDecoded bytes a → IsDecoded bytes b → a ≡ b
readings_are_one l bytes (NoPacket f) (NoPacket g) x y = cc
readings_are_one l bytes (NoPacket f) (NoSpx g) x y =
    let none = l.no_ipx_fault y.0 bytes y.1 y.2 in
    cc
readings_are_one l bytes (NoPacket f) (NoControl g) x y =
    let none = l.no_ipx_fault y.0 bytes y.1 y.2 in
    cc
readings_are_one l bytes (NoPacket f) (Holds e c) x y =
    let none = l.no_ipx_fault e bytes y.0 y.1 in
    cc
readings_are_one l bytes (NoSpx f) b x y =
    body_is_one l x.0 (NoSpx f) b (reads_body l bytes x.1 x.0 x.2 (NoSpx f) x) (reads_body l bytes x.1 x.0 x.2 b y)
readings_are_one l bytes (NoControl f) b x y =
    body_is_one l x.0 (NoControl f) b (reads_body l bytes x.1 x.0 x.2 (NoControl f) x) (reads_body l bytes x.1 x.0 x.2 b y)
readings_are_one l bytes (Holds e c) b x y =
    body_is_one l e (Holds e c) b (reads_body l bytes x.0 e x.1 (Holds e c) x) (reads_body l bytes x.0 e x.1 b y)
