use Rattle.std.proofs.Common.{◌∙◌, ap, map}
use Rattle.ipx_table_dump.specs.TableRead.{best_service_in, service_spelled, parts_view, words_in}
use Rattle.ipx_table_dump.proofs.ReadLines.{passed_more, pushed_more}
use Rattle.ipx_table_dump.proofs.reading.services_in_lines.Goals.{in-Some+in_ok-push-in-Some, in-None}
use Rattle.ipx_table_dump.proofs.reading.services_in_lines.Goals as goal

pub loop-line-preserved : goal.loop-line-preserved
loop-line-preserved c =
    let told = c.best_service_in.ensures ∙ ap (λ w. best_service_in (parts_view w)) c.deref.ensures.value ∙ ap best_service_in c.in_ok-words.ensures in
    let i = c.loop-line.line-index in
    elim c.match-best_service_in.branch [
      | in-Some+in_ok-push-in-Some w ↦
          ap (λ v. map service_spelled v.items) w.services-is
          ∙ pushed_more (λ line. best_service_in (words_in line)) c.args.lines.now i _ c.loop-line-test.true service_spelled c.loop-line.services.items c.best_service_in.result c.loop-line.invariant told w.push.new.self.items w.in-Some.service w.in-Some.is w.in_ok-push-in-Some.ensures.items
      | in-None w ↦
          ap (λ v. map service_spelled v.items) w.services-is
          ∙ passed_more (λ line. best_service_in (words_in line)) c.args.lines.now i _ c.loop-line-test.true service_spelled c.loop-line.services.items c.best_service_in.result c.loop-line.invariant told w.in-None.is
    ]
