-- No bytes are two frames.
use Rattle.std.proofs.Common.{◌≡◌, ◌≤◌, ℕ, List, ◌++◌, [], length, take, drop, arith, sym, ap, ◌∙◌, refl, subst}
use Rattle.std.proofs.lemmas.List.{take_at}
use Rattle.byteorder.specs.Numbers.{big_from-take}
use Rattle.ipx_wire.specs.Ipx.{PacketView, IsIpx, number}
use Rattle.ipx_ethernet.specs.declared.encapsulation.Encapsulation.{Encapsulation}
use Rattle.ipx_ethernet.specs.declared.encapsulation.Encapsulation.TheVariants.{Raw, Llc, Snap, EthernetII}
use Rattle.ipx_ethernet.specs.Frame.{FrameView, IsFrame, length_or_type}
use Rattle.ipx_ethernet.proofs.Packets.{checksum_more}

-- what names an encapsulation: the length or type, and the two bytes after it
unfoldable pub Says : Encapsulation → ℕ → ℕ → Type 0
Says Raw n m = (n ≤ 1500) × (m ≡ 0xffff)
Says Llc n m = (n ≤ 1500) × (m ≡ 0xe0e0)
Says Snap n m = (n ≤ 1500) × (m ≡ 0xaaaa)
Says EthernetII n m = (n ≡ 0x8137) × (m ≡ m)

pub same_said : (d e : Encapsulation) (n m : ℕ) → Says d n m → Says e n m → d ≡ e
unfolding Says
same_said Raw Raw n m p q = refl
same_said Raw Llc n m p q = absurd (omega (arith, p.1, q.1))
same_said Raw Snap n m p q = absurd (omega (arith, p.1, q.1))
same_said Raw EthernetII n m p q = absurd (omega (arith, p.0, q.0))
same_said Llc Raw n m p q = absurd (omega (arith, p.1, q.1))
same_said Llc Llc n m p q = refl
same_said Llc Snap n m p q = absurd (omega (arith, p.1, q.1))
same_said Llc EthernetII n m p q = absurd (omega (arith, p.0, q.0))
same_said Snap Raw n m p q = absurd (omega (arith, p.1, q.1))
same_said Snap Llc n m p q = absurd (omega (arith, p.1, q.1))
same_said Snap Snap n m p q = refl
same_said Snap EthernetII n m p q = absurd (omega (arith, p.0, q.0))
same_said EthernetII Raw n m p q = absurd (omega (arith, p.0, q.0))
same_said EthernetII Llc n m p q = absurd (omega (arith, p.0, q.0))
same_said EthernetII Snap n m p q = absurd (omega (arith, p.0, q.0))
same_said EthernetII EthernetII n m p q = refl

pub says : (e : Encapsulation) (f : FrameView) (bytes tail : List ℕ) → IsFrame e f bytes tail → Says e (length_or_type bytes) (number 2 0 (drop 14 bytes))
unfolding Says
says Raw f bytes tail x = (x.kind.kind, ap (number 2 0) x.held ∙ checksum_more x.packet.0 f.packet tail x.packet.1)
says Llc f bytes tail x = (x.kind.kind, sym (big_from-take 0 2 3 (drop 14 bytes) (omega arith)) ∙ ap (number 2 0) x.kind.link)
says Snap f bytes tail x = (x.kind.kind, sym (big_from-take 0 2 8 (drop 14 bytes) (omega arith)) ∙ ap (number 2 0) x.kind.link)
says EthernetII f bytes tail x = (x.kind.kind, refl)

frame_with : List ℕ → List ℕ → List ℕ → FrameView
frame_with to from packet = record { to = record { 0 = to }; from = record { 0 = from }; packet = packet }

module _
    (one : (p q : PacketView) (bytes s t : List ℕ) → IsIpx p bytes s → IsIpx q bytes t → (p ≡ q) × (s ≡ t))
    (before : (p : PacketView) (bytes tail : List ℕ) → IsIpx p bytes [] → IsIpx p (bytes ++ tail) tail)
  where
    -- two packets at the same position
    same_held : (a b s t : List ℕ) (p q : PacketView) → a ++ s ≡ b ++ t → IsIpx p a [] → IsIpx q b [] → (a ≡ b) × (s ≡ t)
    same_held a b s t p q e x y =
        let both = one p q (a ++ s) s t (before p a s x) (subst (λ (l : List ℕ). IsIpx q l t) (sym e) (before q b t y)) in
        let len : length a ≡ length b = omega (arith, x.size, y.size, ap (λ (v : PacketView). length v.body) both.0) in
        let same : a ≡ b = sym (take_at a s (length a) refl) ∙ ap (take (length a)) e ∙ take_at b t (length a) (sym len) in
        (same, both.1)

    same_frame : (e : Encapsulation) (f g : FrameView) (bytes s t : List ℕ) → IsFrame e f bytes s → IsFrame e g bytes t → (f ≡ g) × (s ≡ t)
    unfolding frame_with
    same_frame e f g bytes s t x y =
        let held = same_held f.packet g.packet s t x.packet.0 y.packet.0 (sym x.held ∙ y.held) x.packet.1 y.packet.1 in
        let to : f.to.0 ≡ g.to.0 = sym x.to ∙ y.to in
        let from : f.from.0 ≡ g.from.0 = sym x.from ∙ y.from in
        let same : frame_with f.to.0 f.from.0 f.packet ≡ frame_with g.to.0 g.from.0 g.packet = rw (to, from, held.0) refl in
        (same, held.1)

    pub one_frame : (d e : Encapsulation) (f g : FrameView) (bytes s t : List ℕ) → IsFrame d f bytes s → IsFrame e g bytes t → (d ≡ e) × (f ≡ g) × (s ≡ t)
    one_frame d e f g bytes s t x y =
        let kind : d ≡ e = same_said d e (length_or_type bytes) (number 2 0 (drop 14 bytes)) (says d f bytes s x) (says e g bytes t y) in
        let rest = same_frame d f g bytes s t x (subst (λ (k : Encapsulation). IsFrame k g bytes t) (sym kind) y) in
        (kind, rest.0, rest.1)
