use Rattle.spx_link.proofs.Coming.{joins_from_opening, never_opening, opening_joins_or_stays, opening_stays}
use Rattle.spx_link.proofs.Reading.{take_says}
use Rattle.spx_link.proofs.courses.opening_links_join_or_stay.Goals as goal

pub returns : goal.returns
returns c =
    record {
      poll = λ l now is. opening_stays l now is;
      receive = λ l h body read is. never_opening l h body read is;
      joins = λ l h body e. joins_from_opening l h body e;
      stays = λ l h body opening. opening_joins_or_stays l h body opening;
      take = λ l. (take_says l).state;
    }
