use Rattle.std.proofs.Common.{◌∙◌, ℕ, List, ap, map}
use Rattle.std.specs.Borrow.{Bor}
use Rattle.ipx_table_dump.specs.TableRead.{parts_view, words_in}
use Rattle.ipx_table_dump.specs.TableParts.{title_in}
use Rattle.ipx_table_dump.proofs.ReadLines.{passed_more, pushed_more}
use Rattle.ipx_table_dump.proofs.section_headers.titles_in_lines.Goals.{in-Some+in_ok-push-in-Some, in-None}
use Rattle.ipx_table_dump.proofs.section_headers.titles_in_lines.Goals as goal

pub loop-line-preserved : goal.loop-line-preserved
loop-line-preserved c =
    let told = c.title_in.ensures ∙ ap (λ w. title_in (parts_view w)) c.deref.ensures.value ∙ ap title_in c.in_ok-words.ensures in
    let i = c.loop-line.line-index in
    let plain = λ (p : Bor (List ℕ)). p.now in
    elim c.match-title_in.branch [
      | in-Some+in_ok-push-in-Some w ↦
          ap (λ v. parts_view v.items) w.titles-is
          ∙ pushed_more (λ line. title_in (words_in line)) c.args.lines.now i _ c.loop-line-test.true plain c.loop-line.titles.items c.title_in.result c.loop-line.invariant told w.push.new.self.items w.in-Some.title w.in-Some.is w.in_ok-push-in-Some.ensures.items
      | in-None w ↦
          ap (λ v. parts_view v.items) w.titles-is
          ∙ passed_more (λ line. title_in (words_in line)) c.args.lines.now i _ c.loop-line-test.true plain c.loop-line.titles.items c.title_in.result c.loop-line.invariant told w.in-None.is
    ]
