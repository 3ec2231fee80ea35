use Rattle.std.proofs.Common.{ap, ◌∙◌}
use Rattle.ipx_table_dump.proofs.ClientLines.{found_more, found_none}
use Rattle.ipx_table_dump.proofs.client_words.clients_in.Goals.{in-Some+in_ok-push-in-Some, in-None}
use Rattle.ipx_table_dump.proofs.client_words.clients_in.Goals as goal

pub loop-words-preserved : goal.loop-words-preserved
loop-words-preserved c cs each same =
    let i = c.loop-words.words-index in
    let items = c.loop-words.clients.items in
    elim c.match-client_in.branch [
      | in-Some+in_ok-push-in-Some w ↦
          ap (λ v. v.items) w.clients-is
          ∙ found_more c.args.all.now i _ items w.push.new.self.items w.in-Some.client c.client_in.result c.loop-words-test.true c.client_in.ensures w.in-Some.is w.in_ok-push-in-Some.ensures.items c.loop-words.invariant cs each same
      | in-None w ↦
          ap (λ v. v.items) w.clients-is
          ∙ found_none c.args.all.now i _ items c.client_in.result c.loop-words-test.true c.client_in.ensures w.in-None.is cs each same
    ]
