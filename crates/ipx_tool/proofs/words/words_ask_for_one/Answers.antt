use Rattle.ipx_tool.proofs.OneCommand.{ask_for_one}
use Rattle.ipx_tool.proofs.words.words_ask_for_one.Goals as goal

pub returns : goal.returns
returns c = ask_for_one
