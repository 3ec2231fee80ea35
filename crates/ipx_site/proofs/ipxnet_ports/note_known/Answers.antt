use Rattle.std.proofs.Common.{◌∙◌, sym}
use Rattle.ipx_site.proofs.KnownAgain.{noted_more, noted_no_more}
use Rattle.ipx_site.proofs.ipxnet_ports.note_known.Goals.{then-is_known_here, else-is_known_here}
use Rattle.ipx_site.proofs.ipxnet_ports.note_known.Goals as goal

pub loop-client-preserved : goal.loop-client-preserved
loop-client-preserved c =
    let i = c.loop-client.client-index in
    let known = c.args.known.now in
    elim c.if-is_known_here.branch [
      | then-is_known_here w ↦
          w.server-is ∙ noted_more c.args.network known i _ c.loop-client-test.true c.args.server.now c.loop-client.server w.note_again.new.self c.loop-client.invariant (sym c.is_known_here.ensures ∙ w.if-is_known_here.true) w.note_again.ensures
      | else-is_known_here w ↦
          w.server-is ∙ noted_no_more c.args.network known i _ c.loop-client-test.true c.args.server.now c.loop-client.server c.loop-client.invariant (sym c.is_known_here.ensures ∙ w.if-is_known_here.false)
    ]
