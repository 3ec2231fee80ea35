use Rattle.spx_link.proofs.Keeping.{receive_keeps}
use Rattle.spx_link.proofs.effects.receive_changes.Goals as goal

pub returns : goal.returns
returns c =
    record {
      numbers = λ l h body. (receive_keeps l h body).numbers;
      ends = λ l h body. (receive_keeps l h body).ends;
      peer = λ l h body. (receive_keeps l h body).peer;
      joins = λ l h body. (receive_keeps l h body).joins;
    }
