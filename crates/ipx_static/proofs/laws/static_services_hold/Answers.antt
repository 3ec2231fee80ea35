use Rattle.ipx_static.proofs.StandingOffers as proof
use Rattle.ipx_static.proofs.laws.static_services_hold.Goals as goal

pub returns : goal.returns
returns c = proof.services_stand c.static_services_are_offers.ensures c.static_services_are_refreshed.ensures c.sources_are_distinct.ensures
