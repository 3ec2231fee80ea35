use Rattle.ipx_router.proofs.Rising.{puts_nothing, puts_new}
use Rattle.ipx_router.proofs.advertised.put_entry.Goals as goal

pub returns-in-Ok : goal.returns-in-Ok
returns-in-Ok c = puts_nothing c.args.told.now.items c.args.entry _ c.requires (rw c.deref.ensures.value at c.in-Ok.ensures.found)

pub returns-in_ok-insert-in-Err : goal.returns-in_ok-insert-in-Err
returns-in_ok-insert-in-Err c =
    puts_new c.args.told.now.items c.insert.new.self.items c.args.entry c.in-Err.place c.requires (rw c.deref.ensures.value at c.in-Err.ensures.absent) c.in_ok-insert-in-Err.ensures.items
