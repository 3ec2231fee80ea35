use Rattle.std.proofs.Common.{◌≡◌, ◌∙◌, List, ap, false, length, subst, sym}
use Rattle.ipx_net.specs.Ends.{TellsClosed, TellsEnded, TellsEnds, TellsNext, TellsOpened, TellsReleased}
use Rattle.ipx_net.specs.NetView.{NetView}
use Rattle.ipx_net.specs.Theorems.{Theorems}
use Rattle.ipx_net.specs.declared.endinfo.EndInfo.{EndInfo}
use Rattle.ipx_net.proofs.NetTells.{count_of, tells_next}
use Rattle.ipx_net.proofs.TellingClose.{tells_closed, tells_ended, tells_opened, tells_released}
use Rattle.ipx_net.proofs.net.Net.ends.Goals as goal

pub returns-clause-told : goal.returns-clause-told
returns-clause-told c =
    subst (λ (v : NetView). TellsEnds v c.deref.result.now) c.self.view_is
    (subst (λ (t : List EndInfo). TellsEnds c.self.inside.course t) (sym c.deref.ensures.value) c.self.invariant)

pub returns-clause-count : goal.returns-clause-count
returns-clause-count c =
    subst (λ (v : NetView). v.spent ≡ false → length c.deref.result.now ≡ length v.now.world.ends) c.self.view_is
    (λ going. ap length c.deref.ensures.value ∙ count_of c.self.inside.course.now.world c.self.inside.told.infos.items ((c.holds.ensures.links going).told) c.self.invariant.log)

pub returns-clause-next : goal.returns-clause-next
returns-clause-next c =
    subst (λ (v : NetView). v.spent ≡ false → TellsNext v.now.world c.deref.result.now) c.self.view_is
    (λ going. subst (λ (t : List EndInfo). TellsNext c.self.inside.course.now.world t) (sym c.deref.ensures.value) (tells_next c.self.inside.course.now.world c.self.inside.told.infos.items ((c.holds.ensures.links going).told) c.self.invariant.log))

pub returns-clause-opened : goal.returns-clause-opened
returns-clause-opened c =
    let n = c.self.inside in
    subst (λ (v : NetView). v.spent ≡ false → TellsOpened v.now.world c.deref.result.now) c.self.view_is
    (λ going. subst (TellsOpened n.course.now.world) (sym c.deref.ensures.value)
    (tells_opened n.course.now.world n.told.infos.items (c.holds.ensures.links going) (c.self.invariant.stands going)))

pub returns-clause-released : goal.returns-clause-released
returns-clause-released c =
    let n = c.self.inside in
    subst (λ (v : NetView). v.spent ≡ false → TellsReleased v.now.world c.deref.result.now) c.self.view_is
    (λ going. subst (TellsReleased n.course.now.world) (sym c.deref.ensures.value)
    (tells_released n.course.now.world n.told.infos.items (count_of n.course.now.world n.told.infos.items (c.holds.ensures.links going).told c.self.invariant.log) (c.holds.ensures.links going) (c.self.invariant.stands going)))

pub returns-clause-closed : goal.returns-clause-closed
returns-clause-closed c =
    let n = c.self.inside in
    subst (λ (v : NetView). v.spent ≡ false → TellsClosed v.now.world c.deref.result.now) c.self.view_is
    (λ going. subst (TellsClosed n.course.now.world) (sym c.deref.ensures.value)
    (tells_closed c.peer_is_found.ensures n.course.now.world n.told.infos.items (count_of n.course.now.world n.told.infos.items (c.holds.ensures.links going).told c.self.invariant.log) (c.holds.ensures.links going) c.self.invariant.log (c.self.invariant.stands going)))

pub returns-clause-ended : goal.returns-clause-ended
returns-clause-ended c =
    let n = c.self.inside in
    subst (λ (v : NetView). TellsEnded v.now.world c.deref.result.now) c.self.view_is
    (subst (TellsEnded n.course.now.world) (sym c.deref.ensures.value) (tells_ended c.peer_is_found.ensures n.course n.told.infos.items c.holds.ensures c.self.invariant.log))

pub returns-clause-theorems : goal.returns-clause-theorems
returns-clause-theorems c = subst Theorems c.self.view_is c.holds.ensures
