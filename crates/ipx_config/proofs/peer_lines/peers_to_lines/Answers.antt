use Rattle.std.proofs.Common.{◌∙◌, ap}
use Rattle.ipx_config.specs.Checked.{peer_line}
use Rattle.ipx_config.proofs.Printed.{texts_more}
use Rattle.ipx_config.proofs.peer_lines.peers_to_lines.Goals as goal

pub loop-peer-preserved : goal.loop-peer-preserved
loop-peer-preserved c =
    c.in_ok-push_str.ensures.bytes
    ∙ texts_more (peer_line c.args.whose.now) c.args.peers.now c.loop-peer.peer-index _ _ _ c.loop-peer-test.true c.loop-peer.invariant (c.deref.ensures ∙ c.in_ok-line.ensures ∙ ap (peer_line c.args.whose.now) c.peer-item.is)
