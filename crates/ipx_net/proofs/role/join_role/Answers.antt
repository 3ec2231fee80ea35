use Rattle.ipx_net.proofs.Sightings.{joins_there}
use Rattle.ipx_net.proofs.role.join_role.Goals as goal

pub returns-then-who-roles : goal.returns-then-who-roles
returns-then-who-roles c =
    joins_there c.args.roles.now c.args.who _ _ c.joined_by.result c.if-who-roles.true c.joined_by.ensures
