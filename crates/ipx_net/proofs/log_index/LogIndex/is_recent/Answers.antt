use Rattle.std.proofs.Common.{◌≡◌, Some, sym, ◌∙◌}
use Rattle.spx_theory.specs.Peers.{ArePeersIn}
use Rattle.spx_theory.specs.EndsSummarized.{peer_in}
use Rattle.ipx_net.specs.Sights.{scan_of}
use Rattle.ipx_net.proofs.Peering.{is_this}
use Rattle.ipx_net.proofs.log_index.LogIndex.is_recent.Goals as goal

pub returns-else-sent_few : goal.returns-else-sent_few
returns-else-sent_few c =
    let found : peer_in (scan_of c.args.self.now) c.args.reading.now.who ≡ Some c.in-Some.maker = sym c.peer.ensures ∙ is_this c.peer.result c.in-Some.maker (sym c.ne.ensures ∙ c.if-ne.false) in
    let are : ArePeersIn (scan_of c.args.self.now) c.args.reading.now.who c.in-Some.maker = (c.peer_is_found.ensures (scan_of c.args.self.now) c.args.reading.now.who c.in-Some.maker).only found in (
      λ h. let f = c.if-sent_few.false in cc,
      λ recent. c.sent_few.ensures.1 (recent c.in-Some.maker are (sym c.end.ensures ∙ c.in-Some.is)).0,
    )
