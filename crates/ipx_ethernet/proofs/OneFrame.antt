-- What was read, compared with the definition of a frame.
use Rattle.std.proofs.Common.{◌≡◌, ◌≤◌, ℕ, ◌+◌, ◌-◌, List, ◌++◌, [], Some, None, length, take, drop, arith, sym, ap, ◌∙◌, take-append-drop, subst}
use Rattle.std.specs.Prelude.{Result, Ok, Err, IfOk, IfErr, IsOkAnd}
use Rattle.std.proofs.lemmas.List.{length-take, take-take}
use Rattle.ipx_wire.specs.declared.address.Node.{Node}
use Rattle.ipx_wire.specs.Ipx.{PacketView, IsIpx}
use Rattle.ipx_ethernet.specs.declared.encapsulation.Encapsulation.{Encapsulation}
use Rattle.ipx_ethernet.specs.declared.fault.FrameFault.{FrameFault}
use Rattle.ipx_ethernet.specs.Frame.{FrameView, HasKind, IsFrame, frame_end, frame_of, link_bytes, packet_place}
use Rattle.ipx_ethernet.specs.FrameFault.{frame_fault, payload_of}

module _ (T : Type 0) (kind : T → Encapsulation) (read : T → FrameView) where
  pub only_frame : (own : Node) (e : Encapsulation) (d : FrameView) (bytes tail : List ℕ) (r : Result T FrameFault)
      → ((d e : Encapsulation) (f g : FrameView) (bytes s t : List ℕ) → IsFrame d f bytes s → IsFrame e g bytes t → (d ≡ e) × (f ≡ g) × (s ≡ t))
      → frame_fault own bytes ≡ None → IsFrame e d bytes tail
      → IfOk r (λ x. (t : List ℕ) × IsFrame (kind x) (read x) bytes t) → IfErr r (λ f. frame_fault own bytes ≡ Some f)
      → IsOkAnd r (λ x. (kind x ≡ e) × (read x ≡ d))
  only_frame own e d bytes tail (Ok x) one none y found fault = let u = one (kind x) e (read x) d bytes found.0 tail found.1 y in (u.0, u.1)
  only_frame own e d bytes tail (Err f) one none y found fault = cc

-- the front of a part is the front of the whole from there
pub held_front : (k room : ℕ) (xs front : List ℕ) → k ≤ room → take k (take room xs) ≡ front → xs ≡ front ++ drop k xs
held_front k room xs front le e = sym (take-append-drop k xs) ∙ ap (λ (t : List ℕ). t ++ drop k xs) (sym (take-take k room xs le) ∙ e)

-- what was read at each position is a frame
pub frame_read : (e : Encapsulation) (to from : Node) (packet bytes link : List ℕ) (end : ℕ) → take 6 bytes ≡ to.0 → take 6 (drop 6 bytes) ≡ from.0 → HasKind e bytes → link ≡ link_bytes e
    → end ≡ frame_end bytes → packet_place e ≤ end → length bytes ≤ 1514 → ((p : PacketView) × IsIpx p packet [])
    → take (length packet) (take (end - (14 + length link)) (drop (14 + length link) bytes)) ≡ packet
    → length packet ≤ length (take (end - (14 + length link)) (drop (14 + length link) bytes))
    → (tail : List ℕ) × IsFrame e (frame_of to from packet) bytes tail
frame_read e to from packet bytes link end at_to at_from kind is_link is_end begins most whole front within =
    let place = packet_place e in
    let same : 14 + length link ≡ place = ap (λ (l : List ℕ). 14 + length l) is_link in
    let front_there : take (length packet) (take (end - place) (drop place bytes)) ≡ packet = subst (λ (i : ℕ). take (length packet) (take (end - i) (drop i bytes)) ≡ packet) same front in
    let within_there : length packet ≤ length (take (end - place) (drop place bytes)) = subst (λ (i : ℕ). length packet ≤ length (take (end - i) (drop i bytes))) same within in
    let fits : length packet ≤ end - place = omega (arith, within_there, length-take (end - place) (drop place bytes)) in (
      drop (length packet) (drop place bytes),
      record {
        to = at_to;
        from = at_from;
        kind = kind;
        held = held_front (length packet) (end - place) (drop place bytes) packet fits front_there;
        packet = whole;
        counted = omega (arith, fits, is_end, begins);
        most = most;
      },
    )

-- what is between the encapsulation's header and the end, as the code cuts it
pub held_alike : (e : Encapsulation) (bytes link : List ℕ) (end : ℕ) → link ≡ link_bytes e → end ≡ frame_end bytes
    → take (end - (14 + length link)) (drop (14 + length link) bytes) ≡ payload_of e bytes
held_alike e bytes link end is_link is_end =
    ap (λ (l : List ℕ). take (end - (14 + length l)) (drop (14 + length l) bytes)) is_link ∙ ap (λ (i : ℕ). take (i - packet_place e) (drop (packet_place e) bytes)) is_end
