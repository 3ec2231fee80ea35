use Rattle.std.proofs.Common.{◌≡◌, ◌∙◌, ◌+◌, ◌++◌, [], ◌∷◌, ap, sym, take}
use Rattle.std.proofs.lemmas.List.{take_more}
use Rattle.ipx_site.proofs.Registered.{of_one_more}
use Rattle.ipx_site.proofs.registering.prefixes_of.Goals as goal

pub loop-peer-preserved : goal.loop-peer-preserved
loop-peer-preserved g c =
    let peers = c.args.peers.now in
    let i = c.loop-peer.peer-index in
    let (own, is, are) = c.in_ok-add_peer.ensures in
    let grown : take (i + 1) peers ≡ take i peers ++ c.peer-item.result ∷ [] =
    take_more peers i c.peer-item.result c.loop-peer-test.true ∙ ap (λ it. take i peers ++ it ∷ []) (sym c.peer-item.is) in
    rw (are, grown) (of_one_more (take i peers) c.peer-item.result c.loop-peer.prefixes.items own c.loop-peer.invariant is)
