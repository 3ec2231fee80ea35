use Rattle.spx_link.proofs.Carrying.{poll_says}
use Rattle.spx_link.proofs.effects.poll_keeps_units.Goals as goal

pub returns : goal.returns
returns c =
    record {
      units = λ l now. (poll_says l now).units;
      endings = λ l now. (poll_says l now).endings;
      state = λ l now. (poll_says l now).state;
    }
