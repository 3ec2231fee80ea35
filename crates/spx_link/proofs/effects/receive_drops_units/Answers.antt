use Rattle.spx_link.specs.SequenceMarks.{acknowledged}
use Rattle.spx_link.specs.Receive.{receive_link}
use Rattle.spx_link.proofs.Reading.{receive_says, units_left}
use Rattle.spx_link.proofs.effects.receive_drops_units.Goals as goal

pub returns : goal.returns
returns c = λ l h body read. units_left l (receive_link l h body).1 (acknowledged l.next l.out h.ack) ((receive_says l h body).course.queue read)
