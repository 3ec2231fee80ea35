use Rattle.std.proofs.Common.{◌∙◌, ap, map}
use Rattle.ipx_table_dump.specs.TableRead.{parts_view, words_in}
use Rattle.ipx_table_dump.specs.ClientsText.{client_words_in, client_spelled}
use Rattle.ipx_table_dump.proofs.ReadLines.{passed_more, pushed_more}
use Rattle.ipx_table_dump.proofs.client_words.clients_in_lines.Goals.{in-Some+in_ok-push-in-Some, in-None}
use Rattle.ipx_table_dump.proofs.client_words.clients_in_lines.Goals as goal

pub loop-line-preserved : goal.loop-line-preserved
loop-line-preserved c =
    let told = c.client_words_in.ensures ∙ ap (λ w. client_words_in (parts_view w)) c.deref.ensures.value ∙ ap client_words_in c.in_ok-words.ensures in
    let i = c.loop-line.line-index in
    elim c.match-client_words_in.branch [
      | in-Some+in_ok-push-in-Some w ↦
          ap (λ v. map client_spelled v.items) w.clients-is
          ∙ pushed_more (λ line. client_words_in (words_in line)) c.args.lines.now i _ c.loop-line-test.true client_spelled c.loop-line.clients.items c.client_words_in.result c.loop-line.invariant told w.push.new.self.items w.in-Some.client w.in-Some.is w.in_ok-push-in-Some.ensures.items
      | in-None w ↦
          ap (λ v. map client_spelled v.items) w.clients-is
          ∙ passed_more (λ line. client_words_in (words_in line)) c.args.lines.now i _ c.loop-line-test.true client_spelled c.loop-line.clients.items c.client_words_in.result c.loop-line.invariant told w.in-None.is
    ]
