use Rattle.std.proofs.Common.{is_some, ap, ◌∙◌}
use Rattle.spx_link.proofs.Found.{position_of_live}
use Rattle.spx_link.proofs.links.lookup.place_of.Goals as goal

pub unwrap-requires : goal.unwrap-requires
unwrap-requires c = ap is_some c.position_in.ensures ∙ position_of_live c.args.links.now c.args.id c.requires
