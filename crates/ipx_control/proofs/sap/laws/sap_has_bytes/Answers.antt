use Rattle.ipx_control.proofs.ByteLists.{IsBytes-sap}
use Rattle.ipx_control.proofs.SapPackets.{sap_bytes, sap_read}
use Rattle.ipx_control.proofs.sap.laws.sap_has_bytes.Goals as goal

pub returns : goal.returns
returns c = λ m r. (sap_bytes m, λ tail fits. sap_read c.field_laws.ensures m tail r fits, λ b. IsBytes-sap c.field_laws.ensures m b)
