use Rattle.std.proofs.Common.{◌≤◌, length, arith, sym, subst}
use Rattle.ipxnet_server.specs.declared.disposition.Disposition.{Disposition}
use Rattle.ipxnet_server.specs.declared.drops.ServerDrop.TheVariants.{Malformed}
use Rattle.ipx_wire.specs.Assigned.{ipx_header_size}
use Rattle.ipx_wire.specs.Ipx.{packet_view}
use Rattle.ipxnet_server.specs.ServerInside.{IsSoundHearing}
use Rattle.ipxnet_server.proofs.Hears.{dropped_hears, sound_hearing}
use Rattle.ipxnet_server.proofs.server.IpxnetServer.decide.Goals as goal

pub returns-in-Ok-clause-sound : goal.returns-in-Ok-clause-sound
returns-in-Ok-clause-sound c =
    let l = c.args.self.now in
    let size = length c.args.bytes.now in
    let thirty : ipx_header_size ≤ size = omega (arith, c.in-Ok.ensures.found.1.size) in
    let P : Disposition → Type 0 = λ heard. IsSoundHearing l c.args.from size heard in
    subst P (sym c.outcome.ensures) (sound_hearing l c.args.from size thirty (packet_view c.in-Ok.packet) c.args.now)

pub returns-in-Err-clause-sound : goal.returns-in-Err-clause-sound
returns-in-Err-clause-sound c = dropped_hears c.args.self.now c.args.from (length c.args.bytes.now) (Malformed c.in-Err.fault)
