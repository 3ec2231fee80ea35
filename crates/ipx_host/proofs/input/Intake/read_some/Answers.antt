use Rattle.std.proofs.Common.{arith, rules}
use Rattle.std.proofs.lemmas.Grind.{common_steps}
use Rattle.ipx_host.proofs.Reading.{read_on, unread_on}
use Rattle.ipx_host.proofs.input.Intake.read_some.Goals as goal

pub returns-clause-reads : goal.returns-clause-reads
returns-clause-reads g c = λ unread.
    let old = c.args.self.now in
    let new = c.take_read.new.self in
    let does = c.take_read.ensures in
    read_on c.read-read.result c.take_read.result c.args.endpoint.now c.take_read.new.endpoint old.read new.read old.closed new.closed old.acked_bytes new.acked_bytes _ _ _ _ c.args.id unread does.closed c.read-read.ensures.bytes
    (first_of (search rules, grind (arith, common_steps))) does.came does.over does.more does.still
    (first_of (search rules, grind (arith, common_steps)))

pub returns-clause-unread : goal.returns-clause-unread
returns-clause-unread g c =
    let old = c.args.self.now in
    let new = c.take_read.new.self in
    let does = c.take_read.ensures in
    unread_on c.read-read.result c.take_read.result c.args.endpoint.now c.take_read.new.endpoint old.read new.read old.acked_bytes new.acked_bytes _ _ _ c.read-read.ensures.bytes does.memory does.still
