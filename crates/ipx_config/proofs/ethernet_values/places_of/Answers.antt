use Rattle.std.proofs.Common.{◌≡◌, ◌∷◌, [], drop, refl}
use Rattle.std.proofs.lemmas.List.{drop_all, append-nil, append_assoc}
use Rattle.ipx_config.specs.EthernetValues.{IsEthernetEnd}
use Rattle.ipx_config.proofs.Each.{item_left, none_there, one_less, one_more}
use Rattle.ipx_config.proofs.ethernet_values.places_of.Goals as goal

pub returns-in_default : goal.returns-in_default
returns-in_default c = λ all are.
    let (rest, left) = c.loop-value.invariant.1 all are in
    none_there (IsEthernetEnd c.args.usual) _ _ _ (item_left c.args.values.now c.loop-value.value-index c.value-item.result c.value-item.is c.loop-value-test.true)
    c.in_default.ensures rest left

pub loop-value-preserved : goal.loop-value-preserved
loop-value-preserved c =
    let next = item_left c.args.values.now c.loop-value.value-index c.value-item.result c.value-item.is c.loop-value-test.true in (
      λ rest are.
          rw (c.in_ok-push.ensures.items, append_assoc c.loop-value.ends.items (c.in-Some.end ∷ []) rest)
          (c.loop-value.invariant.0 (c.in-Some.end ∷ rest) (one_more (IsEthernetEnd c.args.usual) _ _ _ next c.in-Some.end c.in-Some.ensures rest are)),
      λ all are.
          let (rest, left) = c.loop-value.invariant.1 all are in one_less (IsEthernetEnd c.args.usual) _ _ _ next rest left,
    )

pub returns : goal.returns
returns c =
    let over : drop c.loop-value.value-index c.args.values.now ≡ [] = drop_all c.loop-value.value-index c.args.values.now c.loop-value-test.false in
    let whole = c.loop-value.invariant.0 [] (rw over refl) in
    rw (append-nil c.loop-value.ends.items) at whole
