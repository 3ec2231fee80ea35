use Rattle.std.proofs.Common.{◌∙◌, Some, ap, refl}
use Rattle.ipx_host.specs.Sessions.{is_heard_one, is_unheard_one}
use Rattle.ipx_host.specs.declared.paced_host_core.Arrival.TheVariants as Cames
use Rattle.ipx_host.proofs.Coming.{counted_accepted, evicted_accepted, evicted_no_room, noted_accepted, noted_no_room, spared_for}
use Rattle.ipx_host.proofs.serving.Sessions.note.Goals as goal

pub returns-in-Some-Accepted-clause-notes : goal.returns-in-Some-Accepted-clause-notes
returns-in-Some-Accepted-clause-notes g c =
    let old = c.args.self.now in
    let told = c.take_came.new.self in
    let new = record told { endpoint = c.admit.new.endpoint } in
    noted_accepted old.once c.in-Some-Accepted.accepted c.take_came.result c.moment-moment.result c.args.core.now told new old.held.items c.admit.new.self.held.items
    c.take_came.ensures.told (c.in-Some-Accepted.is ∙ ap Some c.in-Some-Accepted.field-0-is) c.moment-moment.ensures c.take_came.ensures.once refl c.admit.ensures.admits

pub returns-in-Some-Accepted-clause-turned_away : goal.returns-in-Some-Accepted-clause-turned_away
returns-in-Some-Accepted-clause-turned_away g c =
    let old = c.args.self.now in
    counted_accepted old.once c.in-Some-Accepted.accepted c.take_came.result c.moment-moment.result c.args.core.now c.take_came.new.self old.held.items old.turned_away c.admit.new.self.turned_away
    c.take_came.ensures.told (c.in-Some-Accepted.is ∙ ap Some c.in-Some-Accepted.field-0-is) c.moment-moment.ensures c.take_came.ensures.once c.admit.ensures.counts

pub returns-in-Some-Accepted-clause-evicted : goal.returns-in-Some-Accepted-clause-evicted
returns-in-Some-Accepted-clause-evicted g c =
    let old = c.args.self.now in
    evicted_accepted is_heard_one old.once c.in-Some-Accepted.accepted c.take_came.result c.moment-moment.result c.args.core.now c.take_came.new.self old.held.items old.evicted c.admit.new.self.evicted
    c.take_came.ensures.told (c.in-Some-Accepted.is ∙ ap Some c.in-Some-Accepted.field-0-is) c.moment-moment.ensures c.take_came.ensures.once c.admit.ensures.evicted

pub returns-in-Some-Accepted-clause-never_heard : goal.returns-in-Some-Accepted-clause-never_heard
returns-in-Some-Accepted-clause-never_heard g c =
    let old = c.args.self.now in
    evicted_accepted is_unheard_one old.once c.in-Some-Accepted.accepted c.take_came.result c.moment-moment.result c.args.core.now c.take_came.new.self old.held.items old.never_heard c.admit.new.self.never_heard
    c.take_came.ensures.told (c.in-Some-Accepted.is ∙ ap Some c.in-Some-Accepted.field-0-is) c.moment-moment.ensures c.take_came.ensures.once c.admit.ensures.never_heard

pub returns-in-Some-Accepted-clause-spares : goal.returns-in-Some-Accepted-clause-spares
returns-in-Some-Accepted-clause-spares g c =
    let a = c.in-Some-Accepted.accepted in
    spared_for a.from c.take_came.result (Cames.Accepted a) c.args.core.now c.take_came.new.self c.args.self.now.held.items c.admit.new.self.held.items
    c.take_came.ensures.told (c.in-Some-Accepted.is ∙ ap Some c.in-Some-Accepted.field-0-is) refl c.take_came.ensures.once c.admit.ensures.spares

pub returns-in-Some-NoRoom-clause-notes : goal.returns-in-Some-NoRoom-clause-notes
returns-in-Some-NoRoom-clause-notes g c =
    let old = c.args.self.now in
    let told = c.take_came.new.self in
    let new = record told { endpoint = c.make_space.new.endpoint } in
    noted_no_room old.once c.in-Some-NoRoom.asker c.take_came.result c.moment-moment.result c.args.core.now told new old.held.items c.make_space.new.self.held.items
    c.take_came.ensures.told (c.in-Some-NoRoom.is ∙ ap Some c.in-Some-NoRoom.field-0-is) c.moment-moment.ensures c.take_came.ensures.once refl c.make_space.ensures.room

pub returns-in-Some-NoRoom-clause-spares : goal.returns-in-Some-NoRoom-clause-spares
returns-in-Some-NoRoom-clause-spares g c =
    let asker = c.in-Some-NoRoom.asker in
    spared_for asker c.take_came.result (Cames.NoRoom asker) c.args.core.now c.take_came.new.self c.args.self.now.held.items c.make_space.new.self.held.items
    c.take_came.ensures.told (c.in-Some-NoRoom.is ∙ ap Some c.in-Some-NoRoom.field-0-is) refl c.take_came.ensures.once c.make_space.ensures.spares

pub returns-in-Some-NoRoom-clause-evicted : goal.returns-in-Some-NoRoom-clause-evicted
returns-in-Some-NoRoom-clause-evicted g c =
    let old = c.args.self.now in
    evicted_no_room is_heard_one old.once c.in-Some-NoRoom.asker c.take_came.result c.moment-moment.result c.args.core.now c.take_came.new.self old.held.items old.evicted c.make_space.new.self.evicted
    c.take_came.ensures.told (c.in-Some-NoRoom.is ∙ ap Some c.in-Some-NoRoom.field-0-is) c.moment-moment.ensures c.take_came.ensures.once c.make_space.ensures.evicted

pub returns-in-Some-NoRoom-clause-never_heard : goal.returns-in-Some-NoRoom-clause-never_heard
returns-in-Some-NoRoom-clause-never_heard g c =
    let old = c.args.self.now in
    evicted_no_room is_unheard_one old.once c.in-Some-NoRoom.asker c.take_came.result c.moment-moment.result c.args.core.now c.take_came.new.self old.held.items old.never_heard c.make_space.new.self.never_heard
    c.take_came.ensures.told (c.in-Some-NoRoom.is ∙ ap Some c.in-Some-NoRoom.field-0-is) c.moment-moment.ensures c.take_came.ensures.once c.make_space.ensures.counts
