use Rattle.std.proofs.Common.{◌≡◌, ◌++◌, false}
use Rattle.ipx_router.specs.Knowledge.{routes_in}
use Rattle.ipx_router.specs.AdvertisedEntries.{IsAdvertisedRoute}
use Rattle.ipx_router.specs.Replying.{AreAdvertisedOf, asks_all}
use Rattle.ipx_router.proofs.replying.named_routes.Given as goal

-- the entries so far each name a network, and what is advertised of those was found
abbrev pub invariant-loop-entry : goal.invariant-loop-entry
invariant-loop-entry l = record {
  all : l.yielded ++ l.entry-iterator ≡ l.fn.asked;
  named : asks_all l.yielded ≡ false;
  told : AreAdvertisedOf (IsAdvertisedRoute l.ports (routes_in l.routes) l.at) l.yielded l.told.items;
}
