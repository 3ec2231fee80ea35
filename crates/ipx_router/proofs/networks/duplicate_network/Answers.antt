use Rattle.std.proofs.Common.{◌≡◌, ◌∙◌, sym, drop, refl, []}
use Rattle.std.proofs.lemmas.List.{drop_more, drop_all, take_more}
use Rattle.ipx_router.specs.NewRouter.{first_twin}
use Rattle.ipx_router.specs.declared.port.Port.{Port}
use Rattle.ipx_router.proofs.Twins.{first_twin-next, first_twin-found}
use Rattle.ipx_router.proofs.networks.duplicate_network.Goals as goal

no_port : Port
no_port = record { network = record { 0 = 0 }; node = record { 0 = [] }; cost = 0 }

pub returns-then-has_network : goal.returns-then-has_network
unfolding no_port
returns-then-has_network c =
    let ports = c.args.ports.now in
    let i = c.loop-i.i in
    sym (sym c.loop-i.invariant ∙ first_twin-found ports i _ (drop_more ports i no_port c.loop-i-test.true) (sym c.if-has_network.ensures))

pub loop-i-preserved : goal.loop-i-preserved
unfolding no_port
loop-i-preserved c =
    let ports = c.args.ports.now in
    let i = c.loop-i.i in
    first_twin-next ports i _ (drop_more ports i no_port c.loop-i-test.true) (take_more ports i no_port c.loop-i-test.true) (sym c.if-has_network.ensures) ∙ c.loop-i.invariant

pub returns : goal.returns
unfolding first_twin
returns c =
    let i = c.loop-i.i in
    let over : drop i c.args.ports.now ≡ [] = drop_all i c.args.ports.now c.loop-i-test.false in
    rw (← c.loop-i.invariant, over) refl
