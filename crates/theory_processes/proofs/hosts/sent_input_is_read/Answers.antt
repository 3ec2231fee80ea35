use Rattle.std.proofs.Common.{◌∙◌}
use Rattle.theory_processes.specs.Loops.{marked}
use Rattle.theory_processes.specs.Senders.{IsSender, messages_in}
use Rattle.theory_processes.proofs.Marks.{first_dials, keeps_marked, messages_marked}
use Rattle.theory_processes.proofs.hosts.sent_input_is_read.Goals as goal

pub returns : goal.returns
returns c = λ file to input run start site calls k course differ outside at s reached shows fresh.
    let messages = messages_in run.id run.more in
    let sender : IsSender k run.id messages calls = record {
      socket = file.socket;
      to = to;
      buffers = file.buffers;
      now = 0;
      more = marked at.sources run.more;
      are = at.are ∙ first_dials at.sources file.socket to file.buffers 0 run.id run.more;
      keeps = keeps_marked at.sources run.more run.id run.keeps;
      hands = messages_marked at.sources run.more run.id;
    } in
    record {
      messages = messages;
      bodies = run.handed;
      goes = run.goes;
      read = c.status_zero_is_read.ensures start site calls k run.id messages run.last course differ outside sender at.ends run.whole s reached shows fresh;
    }
