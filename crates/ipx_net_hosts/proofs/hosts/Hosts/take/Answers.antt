use Rattle.std.proofs.Common.{◌≡◌, ◌≢◌, ◌↔◌, ◌++◌, ◌∙◌, Err, true, false, refl, get_or, map, set, sym, subst}
use Rattle.std.specs.Prelude.{IfErr}
use Rattle.spx_messages.specs.Taking.{overlong, result_view}
use Rattle.spx_theory.specs.HostSteps.{TakesOf, unit_notes, whole_notes}
use Rattle.spx_theory.specs.World.{EndNow, home_at}
use Rattle.ipx_net_hosts.specs.Hosts.{HostsView, KeepsMarks, LeftAs, Noting}
use Rattle.ipx_net_hosts.specs.Refusing.{Overruns, PushesTo, TakeIsRefused, want}
use Rattle.ipx_net_hosts.proofs.Placing.{held_there, homes_set, known_held, left, marks_kept, marks_lost, stays_held, taken, view_not_want, want_is_kept}
use Rattle.ipx_net_hosts.proofs.Marks.{lost_is_overlong, marks_same}
use Rattle.ipx_net_hosts.proofs.hosts.Hosts.take.Goals as goal
use Rattle.ipx_net_hosts.proofs.hosts.Hosts.take.Goals.{then-is_lost, else-is_lost}

pub returns-clause-takes : goal.returns-clause-takes
returns-clause-takes c =
    let ss = c.self.inside.stations.items in
    let es = c.self.inside.ends.items in
    let host = c.place-host.result.0 in
    let r = c.take-unit.result.1 in
    let P : HostsView → Type 0 = λ u. r ≢ Err want → Noting c.args.self.now u c.args.now (unit_notes (result_view r) c.take-unit.result.0 c.args.who ++ whole_notes (result_view r) c.args.who) (λ w w'. TakesOf w c.args.who (result_view r) w') in
    elim c.if-is_lost.branch [
      | then-is_lost w ↦
          let e : EndNow = record { host = w.behind-self.inside.host; id = w.behind-self.inside.id; released = w.behind-self.inside.released; overlong = w.behind-self.inside.overlong } in
          subst P (sym w.self-is) (λ not_want.
          taken c.args.self.now ss es (set es c.args.who (record e { overlong = true })) c.args.who host c.place-host.result.1 c.index_mut.result.now c.take-unit.new.self r c.take-unit.result.0 c.args.now
          c.self.view_is c.index_mut.ensures.value c.place-host.ensures c.take-unit.ensures.unit c.take-unit.ensures.takes not_want
          (marks_lost es c.args.who e (result_view r) (subst (λ (z : EndNow). z ≡ get_or es c.args.who z) (sym w.behind-self.view_is) w.index_mut-then-is_lost.ensures.value) (sym c.is_lost.ensures ∙ w.if-is_lost.true)))
      | else-is_lost w ↦
          subst P (sym w.self-is) (λ not_want.
          taken c.args.self.now ss es es c.args.who host c.place-host.result.1 c.index_mut.result.now c.take-unit.new.self r c.take-unit.result.0 c.args.now
          c.self.view_is c.index_mut.ensures.value c.place-host.ensures c.take-unit.ensures.unit c.take-unit.ensures.takes not_want
          (marks_kept es c.args.who (result_view r) (sym c.is_lost.ensures ∙ w.if-is_lost.false) (view_not_want r not_want)))
    ]

pub returns-clause-refused : goal.returns-clause-refused
returns-clause-refused c =
    let ss = c.self.inside.stations.items in
    let es = c.self.inside.ends.items in
    let host = c.place-host.result.0 in
    let r = c.take-unit.result.1 in
    let P : HostsView → Type 0 = λ u. r ≡ Err want → LeftAs c.args.who c.args.self.now u c.args.now in
    elim c.if-is_lost.branch [
      | then-is_lost w ↦ λ is. absurd (cc (sym (sym c.is_lost.ensures ∙ w.if-is_lost.true) ∙ want_is_kept r is))
      | else-is_lost w ↦
          subst P (sym w.self-is) (λ is.
          left c.args.self.now ss es c.args.who host c.place-host.result.1 c.index_mut.result.now c.take-unit.new.self c.args.now c.self.view_is c.index_mut.ensures.value c.place-host.ensures
          (stays_held c.args.self.now ss es c.args.who host c.place-host.result.1 c.index_mut.result.now c.take-unit.new.self c.self.view_is c.index_mut.ensures.value c.place-host.ensures (c.take-unit.ensures.refused is)))
    ]

pub returns-clause-overlong : goal.returns-clause-overlong
returns-clause-overlong c =
    subst (λ o. (c.take-unit.result.1 ≡ Err overlong) ↔ Overruns o)
    (held_there c.args.self.now c.self.inside.stations.items c.self.inside.ends.items c.args.who c.place-host.result.0 c.place-host.result.1 c.index_mut.result.now c.self.view_is c.index_mut.ensures.value c.place-host.ensures) c.take-unit.ensures.overlong

pub returns-clause-memory : goal.returns-clause-memory
returns-clause-memory c =
    subst (λ o. c.take-unit.result.1 ≡ Err want → PushesTo o)
    (held_there c.args.self.now c.self.inside.stations.items c.self.inside.ends.items c.args.who c.place-host.result.0 c.place-host.result.1 c.index_mut.result.now c.self.view_is c.index_mut.ensures.value c.place-host.ensures) c.take-unit.ensures.memory

pub returns-clause-fault : goal.returns-clause-fault
returns-clause-fault c =
    known_held c.args.self.now c.self.inside.stations.items c.self.inside.ends.items c.args.who c.place-host.result.0 c.place-host.result.1 c.index_mut.result.now (IfErr c.take-unit.result.1 TakeIsRefused) c.self.view_is c.index_mut.ensures.value c.place-host.ensures c.take-unit.ensures.fault

pub returns-clause-homes : goal.returns-clause-homes
returns-clause-homes c =
    let P : HostsView → Type 0 = λ u. map home_at u.stations ≡ map home_at c.args.self.now.stations in
    let kept : map home_at (set c.self.inside.stations.items c.place-host.result.0 c.take-unit.new.self) ≡ map home_at c.args.self.now.stations =
    homes_set c.args.self.now c.self.inside.stations.items c.self.inside.ends.items c.place-host.result.0 c.index_mut.result.now c.take-unit.new.self c.self.view_is c.index_mut.ensures.value c.take-unit.ensures.home in
    elim c.if-is_lost.branch [ then-is_lost w ↦ subst P (sym w.self-is) kept | else-is_lost w ↦ subst P (sym w.self-is) kept ]

pub returns-clause-marks : goal.returns-clause-marks
returns-clause-marks c =
    let ss = c.self.inside.stations.items in
    let es = c.self.inside.ends.items in
    let host = c.place-host.result.0 in
    let r = c.take-unit.result.1 in
    let P : HostsView → Type 0 = λ u. r ≢ Err overlong → KeepsMarks c.args.self.now u in
    elim c.if-is_lost.branch [
      | then-is_lost w ↦ λ other. absurd (other (lost_is_overlong r (sym c.is_lost.ensures ∙ w.if-is_lost.true) (returns-clause-fault c)))
      | else-is_lost w ↦ subst P (sym w.self-is) (λ other. marks_same c.args.self.now ss es es c.self.view_is refl)
    ]
