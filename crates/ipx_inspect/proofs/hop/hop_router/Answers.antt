use Rattle.std.proofs.Common.{◌≡◌, ◌∙◌, List, Some, subst}
use Rattle.ipx_router.specs.declared.port.Port.{Port}
use Rattle.ipx_router.specs.NewRouter.{ports_fault}
use Rattle.ipx_inspect.proofs.Ports.{hop_ports-no_fault, hop_routing-new}
use Rattle.ipx_inspect.proofs.hop.hop_router.Goals as goal

pub unreachable-requires : goal.unreachable-requires
unreachable-requires c =
    let fault = c.in-Err.field-0 in
    hop_ports-no_fault fault (subst (λ (ps : List Port). ports_fault ps ≡ Some fault) c.in_ok-ports.ensures.items c.in-Err.ensures.fault)

pub returns : goal.returns
returns c = hop_routing-new c.in-Ok.router (c.in-Ok.ensures.ports ∙ c.in_ok-ports.ensures.items) c.in-Ok.ensures.knows_nothing c.in-Ok.ensures.room
