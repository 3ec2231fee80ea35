-- What a router gives leaves by its ports, and fits the buffer of a run.
use Rattle.std.proofs.Common.{◌≤◌, ℕ, List, [], ◌∷◌, length, arith}
use Rattle.std.proofs.lemmas.List.Elements.{All-cons, All-head, All-nil, All-tail}
use Rattle.ipx_wire.specs.Ipx.{IsIpx, PacketView}
use Rattle.ipx_router.specs.RouterView.{RouterView}
use Rattle.ipx_router.specs.RouterPackets.{AreOwn, IsOwn, SendingView}
use Rattle.ipx_router.specs.Ports.{AreOnPorts, IsPortNumber}
use Rattle.ipx_router.specs.OutcomeView.{Dropped, Forward, Heard, IsOnPort, OutcomeView, Replies, replies_of}
use Rattle.ipx_router.specs.Forwarded.{ForwardsOneHopOn}
use Rattle.ipx_carrier.specs.RouterQueues.{AreGivable, CanBeSent, one_forwarded}

-- no packet is longer than 1,500 bytes
packet_fits : (p : PacketView) (bytes : List ℕ) → IsIpx p bytes [] → length bytes ≤ 1500
packet_fits p bytes h = omega (arith, h.size, h.limit)

pub own_are_givable : (n : ℕ) (ss : List SendingView) → AreOnPorts n ss → AreOwn ss → AreGivable n ss
own_are_givable n [] p o = All-nil (CanBeSent n)
own_are_givable n (s ∷ ss) p o =
    let OnPort : SendingView → Type 0 = λ x. IsPortNumber n x.port in
    let own : IsOwn s = All-head IsOwn s ss o in
    All-cons (CanBeSent n) s ss (All-head OnPort s ss p, packet_fits own.packet s.bytes own.is) (own_are_givable n ss (All-tail OnPort s ss p) (All-tail IsOwn s ss o))

-- the packets of an answer are givable
abbrev pub IsGivableAnswer : ℕ → OutcomeView → Type 0
IsGivableAnswer n (Forward port next bytes) = AreGivable n (one_forwarded port next bytes)
IsGivableAnswer n (Replies sent) = AreGivable n sent
IsGivableAnswer n (Heard k) = Unit {0}
IsGivableAnswer n (Dropped reason) = Unit {0}

pub answer_is_givable : (n : ℕ) (old : RouterView) (port : ℕ) (bytes : List ℕ) (a : OutcomeView) → IsOnPort n a → AreOwn (replies_of a) → ForwardsOneHopOn old port bytes a → IsGivableAnswer n a
answer_is_givable n old port bytes (Forward to next out) p o f =
    let forwarded = f.3 f.2.0 f.2.1 in
    All-cons (CanBeSent n) (record { port = to; next = next; bytes = out }) [] (p, packet_fits _ out forwarded.1.packet) (All-nil (CanBeSent n))
answer_is_givable n old port bytes (Replies sent) p o f = own_are_givable n sent p o
answer_is_givable n old port bytes (Heard k) p o f = tt
answer_is_givable n old port bytes (Dropped reason) p o f = tt
