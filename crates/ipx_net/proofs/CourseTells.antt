-- What the summaries say follows from what is counted of the ends of a log.
use Rattle.std.proofs.Common.{List}
use Rattle.spx_theory.specs.Note.{Note}
use Rattle.ipx_net.specs.Ends.{TellsLog}
use Rattle.ipx_net.specs.EndSummaryChanges.{AreCounted}
use Rattle.ipx_net.specs.declared.endinfo.EndInfo.{EndInfo}

pub counted_of : (log : List Note) (told : List EndInfo) → TellsLog log told → AreCounted log told
counted_of log told t = record { count = t.count; each = λ who. let e = t.each who in record { given = e.given; out = e.out; next = e.next } }
