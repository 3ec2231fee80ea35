use Rattle.ipx_static.proofs.StandingOffers as proof
use Rattle.ipx_static.proofs.laws.static_routes_hold.Goals as goal

pub returns : goal.returns
returns c = proof.routes_stand c.static_routes_are_offers.ensures c.static_routes_are_refreshed.ensures c.sources_are_distinct.ensures
