use Rattle.std.proofs.Common.{refl}
use Rattle.ipx_static.proofs.RoomForWords.{each_received, heard_words}
use Rattle.ipx_static.proofs.WordOffers as proof
use Rattle.ipx_static.proofs.laws.static_routes_are_refreshed.Goals as goal

pub returns : goal.returns
returns c = λ ns now old new h n there alone stand e among hears near.
    let words = each_received now old.advertisements old.core new.core (heard_words old new now h.due h.heard) in
    proof.route_refreshed c.bytes_are_one_packet.ensures c.ipx_fault_is_of_no_packet.ensures.no_fault c.sources_are_distinct.ensures old.core.router.ports now ns old.advertisements h.advertisements h.others n there
    c.bytes_are_one_rip.ensures c.rip_fault_is_of_no_rip.ensures.no_fault e among hears near old.core.router new.core.router refl alone stand words
