-- The numbers of a fresh packet, in 16 bits, say what its positions are.
use Rattle.std.proofs.Common.{ℕ, ◌+◌, ◌<◌, ◌≤◌, ◌↔◌, List, arith}
use Rattle.std.specs.Prelude.{Contains}
use Rattle.std.proofs.lemmas.List.Elements.{All-contains}
use Rattle.spx_link.specs.SequenceMarks.{mark, distance}
use Rattle.spx_link.specs.Machine.{Packet, End, Machine, Step, IsRun, WasSent, AreSound, start}
use Rattle.spx_link.specs.Fresh.{IsRecentPacket, TellsPositions}
use Rattle.spx_link.proofs.Distances.{acknowledgement_read, allocation_read, sequence_current, sequence_next, sequence_window}
use Rattle.spx_link.proofs.MachineSound.{swapped, reached}
use Rattle.spx_link.proofs.MachineGrowth.{run_grows}

-- a distance under `free` at a position that the buffers are for
not_behind : (read n free beyond : ℕ) → n < read + free → (beyond < free) ↔ ((read ≤ n) × (n < read + free)) → (beyond < free) ↔ (read ≤ n)
not_behind read n free beyond h both = (λ lt. (both.0 lt).0, λ le. both.1 (le, h))

pub tells : (c d : End) (p : Packet) → c.buffers ≤ 16383 → d.buffers ≤ 16383 → AreSound c d → WasSent d c p → IsRecentPacket c d p → TellsPositions c p
tells c d p small peer_small s was fresh = record {
  acknowledgement = λ out e.
      acknowledgement_read 16383 c.base out c.sent p.read p.receiver_sent (omega arith) e
      (omega (arith, s.there.sent, s.within.limit)) (omega (arith, was.read, s.there.read))
      (omega (arith, was.allows_sent, was.spread)) fresh.receiver;
  allocation = λ room e.
      allocation_read 16383 c.sent room c.limit p.allows p.receiver_sent (omega arith) e
      (omega (arith, was.spread, was.read, s.there.read)) was.allows_sent fresh.receiver;
  next = λ n e.
      sequence_next 16383 c.read n d.sent p.sender_sent (omega arith) s.back.read
      (omega (arith, was.position n e, was.sender_sent, s.back.sent, s.back.limit, s.within.taken))
      (omega (arith, was.outstanding n e)) fresh.sender;
  place = λ n e le.
      sequence_current c.read n le
      (omega (arith, was.position n e, was.sender_sent, s.back.sent, s.back.limit, s.within.taken));
  window = λ n free e f.
      not_behind c.read n free (distance (mark n) (mark c.read))
      (omega (arith, was.position n e, was.sender_sent, s.back.sent, s.back.limit))
      (sequence_window 16383 free c.read n d.sent p.sender_sent (omega arith)
      (omega (arith, s.within.taken)) s.back.read
      (omega (arith, was.position n e, was.sender_sent, s.back.sent, s.back.limit, s.within.taken))
      (omega (arith, was.outstanding n e)) fresh.sender);
}

pub one_tells : (steps : List Step) (a b : ℕ) (m : Machine) (p : Packet) → a ≤ 16383 → b ≤ 16383 → IsRun steps (start a b) m → Contains m.two.bag p → IsRecentPacket m.one m.two p → TellsPositions m.one p
one_tells steps a b m p small peer_small run there fresh =
    let s = reached steps a b m run in
    let grown = run_grows steps (start a b) m run in
    tells m.one m.two p (omega (arith, grown.0.buffers)) (omega (arith, grown.1.buffers)) s (All-contains (WasSent m.two m.one) m.two.bag p s.peer_bag there) fresh

pub two_tells : (steps : List Step) (a b : ℕ) (m : Machine) (p : Packet) → a ≤ 16383 → b ≤ 16383 → IsRun steps (start a b) m → Contains m.one.bag p → IsRecentPacket m.two m.one p → TellsPositions m.two p
two_tells steps a b m p small peer_small run there fresh =
    let s = reached steps a b m run in
    let grown = run_grows steps (start a b) m run in
    tells m.two m.one p (omega (arith, grown.1.buffers)) (omega (arith, grown.0.buffers)) (swapped m.one m.two s) (All-contains (WasSent m.one m.two) m.one.bag p s.bag there) fresh
