use Rattle.std.proofs.Common.{List, ℕ, arith, take, refl, subst, sym, take-append-drop}
use Rattle.std.proofs.lemmas.List.{length-take}
use Rattle.byteorder.specs.Endian.{big_bytes}
use Rattle.ipx_wire.specs.Ipx.{IsIpx, IsWritten, with_source_network}
use Rattle.ipx_wire.proofs.Parts.{write-rest}
use Rattle.ipx_wire.proofs.Changed.{source_changed}
use Rattle.ipx_wire.proofs.ipx.changing.set_source_network.Goals as goal

pub returns-clause-packet : goal.returns-clause-packet
returns-clause-packet c =
    let old = c.args.bytes.now in
    let network = c.args.network in
    let first : IsWritten old (take 18 old) old 18 = record { is = sym (take-append-drop 18 old); count = omega (arith, length-take 18 old, c.requires) } in
    let new = (write-rest old (take 18 old) (big_bytes 4 network.0) _ c.write_u32.new.buf 18 4 first refl c.write_u32.ensures).is in
    λ d tail is. subst (λ (t : List ℕ). IsIpx (with_source_network network d) t tail) (sym new) (source_changed network d old tail (omega arith) is)
