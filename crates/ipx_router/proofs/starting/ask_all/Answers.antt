use Rattle.std.proofs.Common.{◌+◌, List, [], append-nil, refl, sym, subst}
use Rattle.std.proofs.lemmas.List.{drop_all, drop_more}
use Rattle.ipx_router.specs.declared.port.Port.{Port}
use Rattle.ipx_router.specs.RouterPackets.{sendings}
use Rattle.ipx_router.specs.Starting.{AreStarts}
use Rattle.ipx_router.proofs.Tellings.{starts_more, starts_there}
use Rattle.ipx_router.proofs.AdvertisedRoutes.{no_port}
use Rattle.ipx_router.proofs.starting.ask_all.Goals as goal
use Rattle.ipx_router.proofs.starting.ask_all.Goals.{After-loop-i}

pub loop-i-preserved : goal.loop-i-preserved
loop-i-preserved c =
    starts_more c.args.ports.now c.loop-i.i _ (drop_more c.args.ports.now c.loop-i.i no_port c.loop-i-test.true) c.loop-i.asked.items c.ask_on.new.asked.items c.loop-i.invariant c.in_ok-ask_on.ensures

all_asked_so_far : (c : After-loop-i) → AreStarts 1 c.args.ports.now (sendings c.loop-i.asked.items)
all_asked_so_far c =
    let over = drop_all c.loop-i.i c.args.ports.now c.loop-i-test.false in
    subst (AreStarts 1 c.args.ports.now) (append-nil (sendings c.loop-i.asked.items))
    (c.loop-i.invariant [] (subst (λ (ps : List Port). AreStarts (c.loop-i.i + 1) ps []) (sym over) refl))

pub returns-clause-asks : goal.returns-clause-asks
returns-clause-asks c = all_asked_so_far c

pub returns-clause-there : goal.returns-clause-there
returns-clause-there c = starts_there c.args.ports.now (sendings c.loop-i.asked.items) (all_asked_so_far c)
