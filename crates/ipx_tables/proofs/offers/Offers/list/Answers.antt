use Rattle.std.proofs.Common.{◌≡◌, arith}
use Rattle.std.proofs.lemmas.Grind.{common_steps}
use Rattle.ipx_tables.proofs.offers.Offers.list.Goals as goal

pub returns-clause-listed : goal.returns-clause-listed
returns-clause-listed g c =
    let all : c.loop-item.listed.items ≡ c.bests-item-items.result = grind (arith, common_steps) in
    rw all c.bests-item-items.ensures.listed

pub returns-clause-keys : goal.returns-clause-keys
returns-clause-keys g c =
    let all : c.loop-item.listed.items ≡ c.bests-item-items.result = grind (arith, common_steps) in
    rw all c.bests-item-items.ensures.keys

pub loop-item-preserved : goal.loop-item-preserved
loop-item-preserved g c = grind (arith, common_steps)

pub returns-in_err-push-clause-no_memory_if_none : goal.returns-in_err-push-clause-no_memory_if_none
returns-in_err-push-clause-no_memory_if_none g c = λ none. let all = c.bests-item-items.ensures.none none in grind (arith, common_steps)
