use Rattle.std.proofs.Common.{rules}
use Rattle.std.proofs.lemmas.Fn.{always_returns_same}
use Rattle.ipx_tables.specs.Route.{network_cmp}
use Rattle.ipx_router.specs.AdvertisedEntries.{route_key}
use Rattle.ipx_router.proofs.Rising.{network_total, searched}
use Rattle.ipx_router.proofs.advertised.place_of.Goals as goal

pub returns : goal.returns
returns c =
    let facts = c.binary_search_by.ensures in
    let by_key = facts.position (λ held. network_cmp held.network c.args.network) (always_returns_same _ _ _ (λ a r h called. search rules)) in
    let both = searched network_total route_key _ c.requires c.args.network _ facts.bound by_key in
    record { found = both.0; absent = both.1 }
