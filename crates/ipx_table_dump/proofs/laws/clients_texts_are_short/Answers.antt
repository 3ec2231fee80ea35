use Rattle.ipx_table_dump.proofs.ClientLines.{short_texts}
use Rattle.ipx_table_dump.proofs.laws.clients_texts_are_short.Goals as goal

pub returns : goal.returns
returns c = short_texts
