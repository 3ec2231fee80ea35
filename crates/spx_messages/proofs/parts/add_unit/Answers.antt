use Rattle.std.proofs.Common.{◌≡◌, ◌==◌, None, refl, position}
use Rattle.spx_messages.specs.declared.parts.Part.{Part}
use Rattle.spx_messages.specs.EndpointView.{rest_in}
use Rattle.spx_messages.proofs.Pushed.{pushes_at, pushes_along}
use Rattle.spx_messages.proofs.Rests.{id_at_place, rest_nowhere, rest_written_separate, IsPlace}
use Rattle.spx_messages.proofs.parts.add_unit.Goals as goal

pub returns-in-Some-clause-pushes : goal.returns-in-Some-clause-pushes
returns-in-Some-clause-pushes c =
    let at : IsPlace c.args.parts.now.items c.args.id c.in-Some.place = cc in
    pushes_at c.args.parts.now.items c.args.id c.in-Some.place c.index_mut.result.now (record { id = c.index_mut.result.now.id; inbox = c.push.new.self }) c.args.unit.now c.push.result at c.index_mut.ensures.value refl record {
      overlong = c.push.ensures.overlong c.requires;
      whole = c.push.ensures.whole c.requires;
      part = c.push.ensures.part c.requires;
      memory = c.push.ensures.memory c.requires;
      unchanged = c.push.ensures.unchanged;
    }

pub returns-in-Some-clause-others : goal.returns-in-Some-clause-others
returns-in-Some-clause-others c q apart =
    let at : IsPlace c.args.parts.now.items c.args.id c.in-Some.place = cc in
    let y : Part = record { id = c.index_mut.result.now.id; inbox = c.push.new.self } in
    rest_written_separate c.args.parts.now.items c.args.id q c.in-Some.place c.index_mut.result.now y at c.index_mut.ensures.value (id_at_place c.args.parts.now.items c.args.id c.in-Some.place c.index_mut.result.now at c.index_mut.ensures.value) apart

pub returns-in-None-clause-pushes : goal.returns-in-None-clause-pushes
returns-in-None-clause-pushes c =
    let at : position (λ (p : Part). p.id == c.args.id) c.args.parts.now.items ≡ None = cc in
    pushes_along None (rest_in c.args.parts.now.items c.args.id) c.args.unit.now c.add_first.result _ _ (rest_nowhere c.args.parts.now.items c.args.id at) refl c.add_first.ensures.pushes
