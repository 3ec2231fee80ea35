use Rattle.std.proofs.Common.{◌≡◌, ◌∷◌, List, ℕ, subst, sym}
use Rattle.std.proofs.lemmas.List.{take_rest}
use Rattle.ipx_control.specs.Lent.{service_entries_in}
use Rattle.ipx_control.proofs.SapPackets.{services_more}
use Rattle.ipx_control.proofs.sap.entries.first_service.Goals as goal

pub returns-clause-some : goal.returns-clause-some
returns-clause-some c =
    let bytes = c.args.bytes.now in
    let e = c.service_at.result in
    subst (λ (rest : List ℕ). service_entries_in bytes ≡ e ∷ service_entries_in rest) (sym (take_rest bytes 64)) (services_more c.field_laws.ensures e bytes c.if-bytes-lt-SERVICE_SIZE.false c.service_at.ensures)
