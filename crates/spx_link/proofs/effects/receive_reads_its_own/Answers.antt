use Rattle.spx_link.proofs.Reading.{receive_says}
use Rattle.spx_link.proofs.effects.receive_reads_its_own.Goals as goal

pub returns : goal.returns
returns c =
    record {
      own = λ l h body. (receive_says l h body).own;
      unknown = λ l h body. (receive_says l h body).course.unknown;
    }
