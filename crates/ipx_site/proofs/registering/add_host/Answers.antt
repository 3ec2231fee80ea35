use Rattle.std.proofs.Common.{◌∙◌, ◌++◌, [], ◌∷◌, ap}
use Rattle.ipx_site.proofs.Registered.{adds_one}
use Rattle.ipx_site.proofs.registering.add_host.Goals as goal

pub loop-place-preserved-in-V4 : goal.loop-place-preserved-in-V4
loop-place-preserved-in-V4 g c =
    let before = c.loop-place.prefixes.items in
    adds_one c.args.prefixes.now.items before c.push.new.self.items c.octets.result c.loop-place.invariant
    (c.in_ok-push.ensures.items ∙ ap (λ it. before ++ it ∷ []) c.of_address.ensures)
