use Rattle.std.proofs.Common.{◌≡◌, ◌≤◌, List, ℕ, arith, take, subst}
use Rattle.ipx_ethernet.specs.declared.encapsulation.Encapsulation.{Encapsulation}
use Rattle.ipx_ethernet.specs.Frame.{frame_of}
use Rattle.ipx_ethernet.specs.SentFrame.{IsSentFrame, sent_size}
use Rattle.ipx_ethernet.proofs.Sends.{sending_fine}
use Rattle.ipx_ethernet.proofs.writing.encode_frame_into.Goals as goal

pub returns-clause-written : goal.returns-clause-written
returns-clause-written c =
    subst (λ (t : List ℕ). IsSentFrame c.args.encapsulation (frame_of c.args.to c.args.from t) (take c.put_frame.result c.put_frame.new.out)) c.in_ok-packet.ensures.cut c.put_frame.ensures.written

-- a buffer for the frame of a packet, by the packet's own length
enough : (e : Encapsulation) (n m size room : ℕ) → n ≡ m → size ≡ sent_size e n → size ≤ room → sent_size e m ≤ room
enough e n m size room same is le = subst (λ (i : ℕ). sent_size e i ≤ room) same (subst (λ (i : ℕ). i ≤ room) is le)

pub returns-clause-whole : goal.returns-clause-whole
returns-clause-whole c =
    let said = c.in_ok-packet.ensures.size in
    let few = c.packet_limit-most.ensures in
    sending_fine c.args.encapsulation c.args.packet.now _ c.in_ok-packet.ensures.whole (omega (arith, said, few))
    (enough c.args.encapsulation _ _ c.size_with-size.result _ said c.size_with-size.ensures.value (omega arith))
