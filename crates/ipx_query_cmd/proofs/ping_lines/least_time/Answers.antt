use Rattle.std.proofs.Common.{◌≡◌, ◌<◌, ◌∙◌, rules}
use Rattle.ipx_query_cmd.proofs.PingSteps.{least_first, least_next}
use Rattle.ipx_query_cmd.proofs.ping_lines.least_time.Goals.{then-place-eq0, else-place-eq0}
use Rattle.ipx_query_cmd.proofs.ping_lines.least_time.Goals as goal

pub loop-place-preserved : goal.loop-place-preserved
loop-place-preserved c =
    let times = c.args.times.now in
    let i = c.loop-place.place in
    elim c.if-place-eq0.branch [
      | then-place-eq0 w ↦
          let none : i ≡ 0 = search rules in
          least_first times i 0 c.if-place-eq0.least c.loop-place-test.true none w.least-is
      | else-place-eq0 w ↦
          let some : 0 < i = search rules in
          least_next times i 0 c.loop-place.least c.if-place-eq0.least c.loop-place-test.true some c.loop-place.invariant (w.least-is ∙ w.min-least.ensures)
    ]
