use Rattle.std.proofs.Common.{◌≡◌, ◌<◌, ◌⊎◌, List, ℕ, length, inl, inr, sym, ◌∙◌, subst}
use Rattle.std.specs.Prelude.{◌==◌}
use Rattle.std.proofs.lemmas.List.{take_rest}
use Rattle.ipx_control.specs.Entries.{AreEntries}
use Rattle.ipx_control.specs.Sap.{IsServiceEntry, Response}
use Rattle.ipx_control.proofs.SapPackets.{response_found, response_operation_is, too_many_services}
use Rattle.ipx_control.proofs.sap.reading.read_sap.Goals as goal

pub returns-then-count-gt-SAP_MAX_SERVICES-clause-only : goal.returns-then-count-gt-SAP_MAX_SERVICES-clause-only
returns-then-count-gt-SAP_MAX_SERVICES-clause-only c =
    let said = c.read_u16-operation.ensures in
    λ m tail x. absurd (too_many_services m c.args.bytes.now tail x (λ e. c.if-operation-eq1.false (said ∙ e)) (λ e. c.if-operation-eq3.false (said ∙ e)) c.if-count-gt-SAP_MAX_SERVICES.true)

pub returns-clause-found : goal.returns-clause-found
returns-clause-found c =
    let bytes = c.args.bytes.now in
    let operation = c.read_u16-operation.result in
    let services = c.services_of-services.result in
    let got = subst (λ (b : List ℕ). (tail : List ℕ) × AreEntries IsServiceEntry 64 services b tail × (length tail < 64)) (take_rest bytes 2) c.services_of-services.ensures in
    let either : (operation ≡ 4) ⊎ (operation ≡ 2) = elim c.else-operation-ne2.either [ inl ne ↦ inl ne.1 | inr two ↦ inr two ] in
    (got.0, response_found (operation == 4) services bytes got.0 c.if-bytes-lt2.false (sym c.read_u16-operation.ensures ∙ response_operation_is operation either) got.1 got.2 c.if-count-gt-SAP_MAX_SERVICES.false)

pub returns-clause-only : goal.returns-clause-only
returns-clause-only c =
    let found = returns-clause-found c in
    λ m tail x. (c.bytes_are_one_sap.ensures (Response (c.read_u16-operation.result == 4) c.services_of-services.result) m c.args.bytes.now found.0 tail found.1 x).0
