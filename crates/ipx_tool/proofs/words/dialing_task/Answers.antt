use Rattle.std.proofs.Common.{◌∙◌, sym, true≢false}
use Rattle.ipx_tool.proofs.PingWords.{plain_dialing}
use Rattle.ipx_tool.proofs.words.dialing_task.Goals as goal
use Rattle.ipx_tool.proofs.words.dialing_task.Goals.{then-is_option-via-then-is_option, then-is_option-via-else-is_option+then-has_option}

pub returns-then-is_option : goal.returns-then-is_option
returns-then-is_option c = λ task asks.
    let plain = plain_dialing c.args.command.now c.args.file.now c.args.target task asks in
    elim c.then-is_option.branch [
      | then-is_option-via-then-is_option w ↦ true≢false (sym w.if-is_option.true ∙ c.is_option.ensures ∙ plain.0)
      | then-is_option-via-else-is_option+then-has_option w ↦ true≢false (sym w.if-has_option.true ∙ w.has_option.ensures.1 plain.1)
    ]
