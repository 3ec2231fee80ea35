use Rattle.std.proofs.Common.{◌∙◌}
use Rattle.ipx_net.specs.Parcels.{parcel_views}
use Rattle.ipx_sim.specs.ActLine.{line_at}
use Rattle.ipx_sim.proofs.Texts.{texts_more}
use Rattle.ipx_sim.proofs.lines.parcels_to_lines.Goals as goal

pub loop-number-preserved : goal.loop-number-preserved
loop-number-preserved c =
    c.in_ok-push_str.ensures.bytes ∙ texts_more (line_at (parcel_views c.args.parcels.now)) c.args.numbers.now c.loop-number.number-index 0 _ _ c.loop-number-test.true c.loop-number.invariant (c.deref.ensures ∙ c.in_ok-line.ensures)
