use Rattle.ipx_wire.specs.Ipx.{ipx_bytes}
use Rattle.ipx_wire.proofs.ByteLists.{IsBytes-packet}
use Rattle.ipx_wire.proofs.RoundTrip.{ipx_read}
use Rattle.ipx_wire.proofs.ipx.laws.packet_has_bytes.Goals as goal

pub returns : goal.returns
returns c = λ p r. (ipx_bytes p, λ tail. ipx_read p tail r, λ b. IsBytes-packet p r b)
