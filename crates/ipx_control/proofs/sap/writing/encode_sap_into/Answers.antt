use Rattle.std.proofs.Common.{◌≡◌, ◌+◌, ◌*◌, ◌++◌, [], List, ℕ, length, take, ap, sym, ◌∙◌, subst}
use Rattle.std.specs.Prelude.{All}
use Rattle.std.specs.List.{flat_map}
use Rattle.byteorder.specs.Endian.{big_bytes}
use Rattle.ipx_wire.specs.Ipx.{IsWritten}
use Rattle.ipx_control.specs.declared.sap.packet.Sap.{Sap}
use Rattle.ipx_control.specs.declared.sap.packet.ServiceEntry.{ServiceEntry}
use Rattle.ipx_control.specs.Sap.{IsSap, IsSapResponse, IsSapWithinLimit, IsServiceEntryInRange, response_operation, sap_view, service_bytes}
use Rattle.ipx_control.proofs.SapPackets.{response_written}
use Rattle.ipx_control.proofs.sap.writing.encode_sap_into.Goals as goal

pub returns-in-Response-clause-written : goal.returns-in-Response-clause-written
returns-in-Response-clause-written c =
    let out = c.put_response.new.out in
    let nearest = c.in-Response.nearest in
    let services = c.in-Response.services.items in
    let same = c.deref.ensures.value in
    let was = subst (λ (es : List ServiceEntry). IsWritten c.args.out.now (big_bytes 2 (response_operation nearest) ++ flat_map service_bytes es) out (2 + 64 * length es)) same c.put_response.ensures.written in
    let limit = subst (λ (s : Sap). IsSapWithinLimit (sap_view s)) c.in-Response.is c.requires.limit in
    let is = response_written c.field_laws.ensures nearest services c.args.out.now out _ (record { each = subst (All IsServiceEntryInRange) same c.put_response.ensures.range; limit = limit }) was in
    let count : c.len.result ≡ length services = c.len.ensures ∙ sym c.deref.ensures.len ∙ ap length same in
    subst (λ (s : Sap). IsSap (sap_view s) (take (2 + 64 * c.len.result) out) []) (sym c.in-Response.is)
    (subst (λ (n : ℕ). IsSapResponse nearest services (take (2 + 64 * n) out) []) (sym count) is)
