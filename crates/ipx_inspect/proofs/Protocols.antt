-- A packet of another type than 5 is what its destination socket says.
use Rattle.std.proofs.Common.{◌≡◌, refl}
use Rattle.std.proofs.lemmas.Bool.{ne_eqb}
use Rattle.ipx_wire.specs.declared.ipx.packet.IpxHeader.{IpxHeader}
use Rattle.ipx_inspect.specs.Decoded.{protocol_at, protocol_of}

pub protocol_of_other : (h : IpxHeader) → (h.kind ≡ 5 → ⊥) → protocol_of h ≡ protocol_at h.to.socket.0
protocol_of_other h ne = rw (ne_eqb h.kind 5 ne) refl
