use Rattle.spx_link.proofs.Reading.{receive_says}
use Rattle.spx_link.proofs.effects.receive_changes_states.Goals as goal

pub returns : goal.returns
returns c =
    record {
      state = λ l h body. (receive_says l h body).course.state;
      end_queued = λ l h body. (receive_says l h body).course.end_queued;
      peer_ended = λ l h body. (receive_says l h body).course.peer_ended;
      confirmed = λ l h body. (receive_says l h body).course.done;
    }
