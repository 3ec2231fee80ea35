use Rattle.std.proofs.Common.{rules, arith, drop, refl, subst, sym, ◌∙◌, ◌≡◌}
use Rattle.std.proofs.lemmas.List.{length-drop, take_rest}
use Rattle.ipx_wire.specs.Ipx.{IsAddress, number}
use Rattle.ipx_wire.proofs.Parts.{drop-part, length-part}
use Rattle.ipx_wire.proofs.ipx.reading.decode.Goals as goal

pub returns-clause-found : goal.returns-clause-found
returns-clause-found c =
    let bytes = c.args.bytes.now in
    let end = c.read_u16-length.result in
    let long = length-part 30 end bytes (omega arith) (omega arith) in
    let said : number 2 2 bytes ≡ end = sym (subst (λ t. end ≡ number 2 0 t) (take_rest bytes 2) c.read_u16-length.ensures) in (
      drop end bytes,
      record {
        checksum = search rules;
        length_field = said ∙ omega (arith, long);
        limit = omega (arith, long);
        hops = refl;
        kind = refl;
        to = subst (IsAddress c.address_at.result) (take_rest bytes 6) c.address_at.ensures;
        from = subst (IsAddress c.address_at-2.result) (take_rest bytes 18) c.address_at-2.ensures;
        body = drop-part 30 end bytes (omega arith);
        size = omega (arith, long, length-drop end bytes);
      },
    )
