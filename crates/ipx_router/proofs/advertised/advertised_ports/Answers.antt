use Rattle.std.proofs.Common.{◌≡◌, ◌∙◌, length, sym, subst, ℕ, arith}
use Rattle.ipx_control.specs.declared.rip.packet.RipEntry.{RipEntry}
use Rattle.ipx_router.specs.Placing.{AreAdvertisedPorts, PutsEntry}
use Rattle.ipx_router.proofs.AdvertisedRoutes.{no_port, port_more, port_skip}
use Rattle.ipx_router.proofs.advertised.advertised_ports.Goals as goal
use Rattle.ipx_router.proofs.advertised.advertised_ports.Goals.{then-is_over_other_port+in_ok-put_entry, else-is_over_other_port}

pub loop-port-preserved : goal.loop-port-preserved
loop-port-preserved c =
    let i = c.loop-port.port-index in
    let told = c.loop-port.told.items in
    elim c.if-is_over_other_port.branch [
      | then-is_over_other_port+in_ok-put_entry w ↦
          rw w.told-is (port_more c.args.ports.now c.args.at i no_port c.loop-port-test.true told c.loop-port.invariant w.put_entry.new.told.items (sym c.is_over_other_port.ensures ∙ w.if-is_over_other_port.true)
          (subst (λ (e : RipEntry). PutsEntry told e w.put_entry.new.told.items) w.advertised_entry.ensures w.in_ok-put_entry.ensures))
      | else-is_over_other_port w ↦
          rw w.told-is (port_skip c.args.ports.now c.args.at i no_port c.loop-port-test.true told c.loop-port.invariant (sym c.is_over_other_port.ensures ∙ w.if-is_over_other_port.false))
    ]

pub returns-clause-told : goal.returns-clause-told
returns-clause-told c =
    let all : c.loop-port.port-index ≡ length c.args.ports.now = omega arith in
    subst (λ (n : ℕ). AreAdvertisedPorts c.args.ports.now c.args.at n c.loop-port.told.items) all c.loop-port.invariant
