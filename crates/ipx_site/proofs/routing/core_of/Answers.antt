use Rattle.std.proofs.Common.{◌∙◌, ℕ, All, ap, length, subst, sym}
use Rattle.std.proofs.lemmas.List.{length-map}
use Rattle.ipx_router.specs.Ports.{IsPortNumber}
use Rattle.ipx_static.specs.declared.neighbour.StaticNeighbour.{StaticNeighbour}
use Rattle.ipx_config.specs.SitePorts.{router_port_of_kind}
use Rattle.ipx_site.proofs.routing.core_of.Goals as goal

pub hearing_statics-requires : goal.hearing_statics-requires
hearing_statics-requires c = subst (λ (count : ℕ). All (λ (n : StaticNeighbour). IsPortNumber count n.port) c.args.neighbours.now)
    (sym (ap length c.in_ok-router.ensures.ports ∙ length-map c.args.ports.now router_port_of_kind)) c.requires.there
