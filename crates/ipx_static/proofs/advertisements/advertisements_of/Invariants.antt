use Rattle.std.proofs.Common.{◌++◌, List, drop}
use Rattle.ipx_router.specs.RouterPackets.{SendingView, sendings}
use Rattle.ipx_static.specs.StaticAdvertisements.{AreStaticAdvertisements}
use Rattle.ipx_static.proofs.advertisements.advertisements_of.Given as goal

abbrev pub invariant-loop-neighbour : goal.invariant-loop-neighbour
invariant-loop-neighbour l =
    (later : List SendingView) → AreStaticAdvertisements (drop l.neighbour-index l.neighbours) later → AreStaticAdvertisements l.neighbours (sendings l.advertisements.items ++ later)
