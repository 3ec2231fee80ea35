use Rattle.spx_link.proofs.Reading.{take_says}
use Rattle.spx_link.proofs.effects.take_gives_the_first.Goals as goal

pub returns : goal.returns
returns c =
    record {
      gives = λ l. (take_says l).gives;
      held = λ l. (take_says l).held;
      ahead = λ l. (take_says l).ahead;
      queued = λ l. (take_says l).queued;
      endings = λ l. (take_says l).endings;
      state = λ l. (take_says l).state;
    }
