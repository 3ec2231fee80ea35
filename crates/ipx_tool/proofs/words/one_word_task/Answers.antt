use Rattle.std.proofs.Common.{codes}
use Rattle.ipx_tool.proofs.JoinedWords.{found_joined, frame_found_joined}
use Rattle.ipx_tool.proofs.WordsSeparate.{stripped}
use Rattle.ipx_tool.proofs.words.one_word_task.Goals as goal

pub returns-in-Some : goal.returns-in-Some
returns-in-Some c =
    found_joined c.args.command.now c.in-Some.port.now c.args.word.now c.port_task.result
    (stripped (codes "--port=") c.args.word.now c.in-Some.port.now c.in-Some.ensures.cases) c.port_task.ensures

pub returns-in-Some-strip_prefix : goal.returns-in-Some-strip_prefix
returns-in-Some-strip_prefix c =
    frame_found_joined c.args.command.now c.in-Some-strip_prefix.node.now c.args.word.now c.frames_task.result
    (stripped (codes "--frame=") c.args.word.now c.in-Some-strip_prefix.node.now c.in-Some-strip_prefix.ensures.cases) c.frames_task.ensures
