use Rattle.std.proofs.Common.{◌≡◌, ◌++◌, map, take}
use Rattle.ipx_site.specs.Registering.{joined_prefix}
use Rattle.ipx_site.proofs.registering.add_routers.Given as goal

abbrev pub invariant-loop-router : goal.invariant-loop-router
invariant-loop-router l = l.prefixes.items ≡ l.fn.prefixes.items ++ map joined_prefix (take l.router-index l.routers)
