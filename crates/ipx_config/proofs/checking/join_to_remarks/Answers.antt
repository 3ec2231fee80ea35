use Rattle.std.proofs.Common.{◌∙◌}
use Rattle.ipx_config.specs.Checked.{joined_remark}
use Rattle.ipx_config.proofs.Printed.{texts_more}
use Rattle.ipx_config.proofs.checking.join_to_remarks.Goals as goal

pub loop-router-preserved : goal.loop-router-preserved
loop-router-preserved c =
    c.in_ok-push_str.ensures.bytes
    ∙ texts_more (joined_remark c.args.whose.now c.args.own) c.args.routers.now c.loop-router.router-index _ _ _ c.loop-router-test.true c.loop-router.invariant (c.deref.ensures ∙ c.in_ok-line.ensures)
