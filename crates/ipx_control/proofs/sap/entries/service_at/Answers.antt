use Rattle.std.proofs.Common.{take, subst, sym, ◌≡◌}
use Rattle.std.proofs.lemmas.List.{take_rest}
use Rattle.ipx_wire.specs.Ipx.{IsAddress, number}
use Rattle.ipx_control.proofs.sap.entries.service_at.Goals as goal

pub returns : goal.returns
returns c =
    let bytes = c.args.bytes.now in
    let said : number 2 62 bytes ≡ c.read_u16-2.result = sym (subst (λ t. c.read_u16-2.result ≡ number 2 0 t) (take_rest bytes 62) c.read_u16-2.ensures) in
    record {
      kind = sym c.read_u16.ensures;
      name = subst (λ t. take 48 t ≡ c.name_at.result) (take_rest bytes 2) c.name_at.ensures;
      at = subst (IsAddress c.address_at.result) (take_rest bytes 50) c.address_at.ensures;
      hops = said;
    }
