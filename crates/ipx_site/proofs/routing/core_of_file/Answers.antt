use Rattle.std.proofs.Common.{ℕ, All, ap, length, subst, sym}
use Rattle.ipx_router.specs.Ports.{IsPortNumber}
use Rattle.ipx_static.specs.declared.neighbour.StaticNeighbour.{StaticNeighbour}
use Rattle.ipx_config.specs.declared.statics.StaticEntry.{StaticEntry}
use Rattle.ipx_site.proofs.routing.core_of_file.Goals as goal

pub core_of-requires-clause-there : goal.core_of-requires-clause-there
core_of-requires-clause-there c =
    let count = length c.args.site.now.ports.items in
    let entries = subst (All (λ (e : StaticEntry). IsPortNumber count e.by.port)) (sym c.deref.ensures.value) c.requires.there in
    let there = subst (All (λ (n : StaticNeighbour). IsPortNumber count n.port)) (sym c.deref-4.ensures.value) (c.in_ok-neighbours.ensures.there count entries) in
    subst (λ (some : ℕ). All (λ (n : StaticNeighbour). IsPortNumber some n.port) c.deref-4.result.now) (sym (ap length c.deref-3.ensures.value)) there
