use Rattle.std.proofs.Common.{◌≡◌, ◌-◌, List, ℕ, arith, drop, take, length, sym, subst}
use Rattle.std.proofs.lemmas.List.{length-drop, length-take}
use Rattle.ipx_ethernet.specs.Frame.{frame_of}
use Rattle.ipx_ethernet.specs.SentFrame.{IsSentFrame}
use Rattle.ipx_ethernet.proofs.Parts.{written-behind, written-front}
use Rattle.ipx_ethernet.proofs.Sends.{put_whole, sent_bytes}
use Rattle.ipx_ethernet.proofs.writing.put_frame.Goals as goal

pub returns-clause-written : goal.returns-clause-written
returns-clause-written c =
    let e = c.args.encapsulation in
    let packet = c.args.packet.now in
    let size = c.size_with-size.result in
    let xs = c.put_stations.new.out in
    let room : length (take (size - 14) (drop 14 xs)) ≡ size - 14 = omega (arith, length-take (size - 14) (drop 14 xs), length-drop 14 xs) in
    let whole = put_whole e c.args.to c.args.from packet c.link.result.now c.args.out.now xs c.put_packet.new.out c.kind_with.result size _ c.requires.limit c.put_stations.ensures.to c.put_stations.ensures.from c.link.ensures c.kind_with.ensures c.size_with-size.ensures.value c.put_stations.ensures.written room c.put_packet.ensures in
    subst (λ (t : List ℕ). IsSentFrame e (frame_of c.args.to c.args.from packet) t) (sym (written-front _ _ _ _ whole))
    (sent_bytes e c.args.to c.args.from packet c.requires.packet.0 c.requires.packet.1 c.requires.limit c.put_stations.ensures.to c.put_stations.ensures.from)

pub returns-clause-rest : goal.returns-clause-rest
returns-clause-rest c =
    let e = c.args.encapsulation in
    let packet = c.args.packet.now in
    let size = c.size_with-size.result in
    let xs = c.put_stations.new.out in
    let room : length (take (size - 14) (drop 14 xs)) ≡ size - 14 = omega (arith, length-take (size - 14) (drop 14 xs), length-drop 14 xs) in
    written-behind _ _ _ _ (put_whole e c.args.to c.args.from packet c.link.result.now c.args.out.now xs c.put_packet.new.out c.kind_with.result size _ c.requires.limit c.put_stations.ensures.to c.put_stations.ensures.from c.link.ensures c.kind_with.ensures c.size_with-size.ensures.value c.put_stations.ensures.written room c.put_packet.ensures)
