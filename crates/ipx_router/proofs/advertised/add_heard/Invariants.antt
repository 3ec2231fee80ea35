use Rattle.ipx_router.specs.Placing.{AddsHeard}
use Rattle.ipx_router.proofs.advertised.add_heard.Given as goal

abbrev pub invariant-loop-item : goal.invariant-loop-item
invariant-loop-item l = AddsHeard l.ports l.at l.heard l.item-index l.fn.told.items l.told.items
