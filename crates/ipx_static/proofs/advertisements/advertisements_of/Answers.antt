use Rattle.std.proofs.Common.{◌∙◌, ◌+◌, List, [], ◌∷◌, ap, append-nil, drop, refl, sym, subst}
use Rattle.std.proofs.lemmas.List.{drop_all, drop_more}
use Rattle.ipx_router.specs.RouterPackets.{sendings}
use Rattle.ipx_static.specs.declared.neighbour.StaticNeighbour.{StaticNeighbour}
use Rattle.ipx_static.specs.StaticAdvertisements.{AreStaticAdvertisements}
use Rattle.ipx_static.proofs.WordSteps.{words_more, words_there}
use Rattle.ipx_static.proofs.advertisements.advertisements_of.Goals as goal
use Rattle.ipx_static.proofs.advertisements.advertisements_of.Goals.{After-loop-neighbour}

pub loop-neighbour-preserved : goal.loop-neighbour-preserved
loop-neighbour-preserved c =
    let ns = c.args.neighbours.now in
    let i = c.loop-neighbour.neighbour-index in
    let n = c.neighbour-item.result in
    let at = drop_more ns i n c.loop-neighbour-test.true ∙ ap (λ (n : StaticNeighbour). n ∷ drop (i + 1) ns) (sym c.neighbour-item.is) in
    words_more ns i n at c.loop-neighbour.advertisements.items c.add_advertisements.new.advertisements.items c.loop-neighbour.invariant c.in_ok-add_advertisements.ensures

all_words_so_far : (c : After-loop-neighbour) → AreStaticAdvertisements c.args.neighbours.now (sendings c.loop-neighbour.advertisements.items)
all_words_so_far c =
    let over = drop_all c.loop-neighbour.neighbour-index c.args.neighbours.now c.loop-neighbour-test.false in
    subst (AreStaticAdvertisements c.args.neighbours.now) (append-nil (sendings c.loop-neighbour.advertisements.items))
    (c.loop-neighbour.invariant [] (subst (λ (ns : List StaticNeighbour). AreStaticAdvertisements ns []) (sym over) refl))

pub returns-clause-advertisements : goal.returns-clause-advertisements
returns-clause-advertisements c = all_words_so_far c

pub returns-clause-there : goal.returns-clause-there
returns-clause-there c = λ count there. words_there count c.args.neighbours.now there (sendings c.loop-neighbour.advertisements.items) (all_words_so_far c)
