use Rattle.spx_link.proofs.Ended.{at_its_place, end_alone}
use Rattle.spx_link.proofs.Reading.{receive_says}
use Rattle.spx_link.proofs.effects.receive_keeps_units.Goals as goal

pub returns : goal.returns
returns c =
    record {
      kept = λ l h body. (receive_says l h body).turns;
      end = λ l h body. end_alone l h body;
      held = λ l h body. (receive_says l h body).held;
      ahead = λ l h body. (receive_says l h body).ahead;
      place = λ l h body. at_its_place l h body;
      none_ahead = λ l h body. (receive_says l h body).none_ahead;
      same = λ l h body. (receive_says l h body).same;
    }
