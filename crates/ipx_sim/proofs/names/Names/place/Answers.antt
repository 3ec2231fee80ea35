use Rattle.std.proofs.Common.{◌∙◌, ◌+◌, ap, take}
use Rattle.std.proofs.lemmas.List.{take_rest}
use Rattle.ipx_sim.specs.ScriptPlaces.{map_view, place_at, port_in}
use Rattle.ipx_sim.proofs.names.Names.place.Goals as goal

pub returns-in-Some : goal.returns-in-Some
returns-in-Some c =
    let view = map_view c.args.self.now in
    let field = c.args.field.now in
    c.port.ensures ∙ ap (port_in view (take c.in-Some.dot field)) (take_rest field (c.in-Some.dot + 1)) ∙ ap (place_at view field) c.in-Some.ensures.value
