use Rattle.std.proofs.Common.{◌≡◌, ◌∷◌, [], drop, refl}
use Rattle.std.proofs.lemmas.List.{drop_all, append-nil, append_assoc}
use Rattle.ipx_config.specs.IpxnetPeers.{IsPeer}
use Rattle.ipx_config.proofs.Each.{item_left, none_there, one_less, one_more}
use Rattle.ipx_config.proofs.ipxnet_peers.each_of.Goals as goal

pub returns-in_default : goal.returns-in_default
returns-in_default c = λ all are.
    let (rest, left) = c.loop-value.invariant.1 all are in
    let reads = c.in_ok-peer.ensures in
    let none = rw c.in_default.is at reads in
    none_there IsPeer _ _ _ (item_left c.args.values.now c.loop-value.value-index c.value-item.result c.value-item.is c.loop-value-test.true) none rest left

pub loop-value-preserved : goal.loop-value-preserved
loop-value-preserved c =
    let next = item_left c.args.values.now c.loop-value.value-index c.value-item.result c.value-item.is c.loop-value-test.true in
    let reads = c.in_ok-peer.ensures in
    let means = rw c.in-Some.is at reads in (
      λ rest are.
          rw (c.in_ok-push.ensures.items, append_assoc c.loop-value.peers.items (c.in-Some.peer ∷ []) rest)
          (c.loop-value.invariant.0 (c.in-Some.peer ∷ rest) (one_more IsPeer _ _ _ next c.in-Some.peer means rest are)),
      λ all are.
          let (rest, left) = c.loop-value.invariant.1 all are in one_less IsPeer _ _ _ next rest left,
    )

pub returns : goal.returns
returns c =
    let over : drop c.loop-value.value-index c.args.values.now ≡ [] = drop_all c.loop-value.value-index c.args.values.now c.loop-value-test.false in
    let whole = c.loop-value.invariant.0 [] (rw over refl) in
    rw (append-nil c.loop-value.peers.items) at whole
