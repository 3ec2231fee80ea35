use Rattle.std.proofs.Common.{◌≡◌, true, is_some, rules, arith}
use Rattle.std.proofs.lemmas.Grind.{common_steps}
use Rattle.spx_link.specs.Links.{link_of}
use Rattle.spx_link.proofs.Calls.{released, sound_released}
use Rattle.spx_link.proofs.links.Links.release.Goals as goal

pub invariant_of-self : goal.invariant_of-self
invariant_of-self c =
    sound_released c.self.inside.last c.self.inside.links.items c.remove_link.new.links.items c.args.id c.self.invariant c.remove_link.ensures

pub returns-clause-released : goal.returns-clause-released
returns-clause-released c =
    let live : is_some (link_of c.self.inside.links.items c.args.id) ≡ true = first_of (cc, search rules, grind (arith, common_steps)) in
    released c.args.self.now c.self.inside.last c.self.inside.links.items c.remove_link.new.links.items c.args.id c.self.view_is c.self.invariant live c.remove_link.ensures
