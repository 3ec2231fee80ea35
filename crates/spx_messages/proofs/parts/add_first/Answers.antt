use Rattle.std.proofs.Common.{◌≡◌, List, None, refl, sym, subst, ap, Err, Ok, ◌∙◌}
use Rattle.std.proofs.lemmas.Result.{err_from_is_err_and}
use Rattle.spx_messages.specs.declared.message_fault.MessageFault.TheVariants as MessageFaults
use Rattle.spx_messages.specs.declared.parts.Part.{Part}
use Rattle.spx_messages.specs.EndpointView.{rest_in}
use Rattle.spx_messages.specs.Pushing.{Pushes}
use Rattle.spx_messages.proofs.Pushed.{PushAnswer, pushes_refused, pushes_undone, pushes_along}
use Rattle.spx_messages.proofs.Rests.{rest_nowhere, rest_pushed, rest_pushed_separate}
use Rattle.spx_messages.proofs.parts.add_first.Goals as goal

pub returns-in_err-message-clause-pushes : goal.returns-in_err-message-clause-pushes
returns-in_err-message-clause-pushes c =
    let p : Pushes c.new-inbox.result c.args.unit.now c.push.result c.push.new.self = record {
      overlong = c.push.ensures.overlong c.requires.stream;
      whole = c.push.ensures.whole c.requires.stream;
      part = c.push.ensures.part c.requires.stream;
      memory = c.push.ensures.memory c.requires.stream;
      unchanged = c.push.ensures.unchanged;
    } in
    let e = err_from_is_err_and c.from_residual.result c.from_residual.ensures.1 in
    let is : c.from_residual.result ≡ Err c.in_err-message.field-0.0 = e.1 ∙ ap Err e.2 in
    pushes_refused c.args.unit.now c.push.result c.from_residual.result c.in_err-message.field-0.0 c.push.new.self (rest_in c.args.parts.now.items c.args.id)
    (pushes_along c.new-inbox.result None c.args.unit.now c.push.result c.push.new.self c.push.new.self (sym c.new-inbox.ensures) refl p)
    c.in_err-message.was is (rest_nowhere c.args.parts.now.items c.args.id c.requires.none)

pub returns-in_err-push-clause-pushes : goal.returns-in_err-push-clause-pushes
returns-in_err-push-clause-pushes c =
    let e = err_from_is_err_and c.from_residual-in_err-push.result c.from_residual-in_err-push.ensures.1 in
    let wants : c.from_residual-in_err-push.result ≡ Err MessageFaults.OutOfMemory = e.1 ∙ ap Err e.2 in
    let P : List Part → Type 0 = λ ps. rest_in ps c.args.id ≡ None in
    let nothing : rest_in c.push-2.new.self.items c.args.id ≡ None =
    subst P (sym c.in_err-push.ensures.items) (rest_nowhere c.args.parts.now.items c.args.id c.requires.none) in
    pushes_undone c.args.unit.now c.push.result c.from_residual-in_err-push.result c.in_ok-message.message c.push.new.self (rest_in c.push-2.new.self.items c.args.id)
    (pushes_along c.new-inbox.result None c.args.unit.now c.push.result c.push.new.self c.push.new.self (sym c.new-inbox.ensures) refl record {
      overlong = c.push.ensures.overlong c.requires.stream;
      whole = c.push.ensures.whole c.requires.stream;
      part = c.push.ensures.part c.requires.stream;
      memory = c.push.ensures.memory c.requires.stream;
      unchanged = c.push.ensures.unchanged;
    }) c.in_ok-message.was wants nothing

pub returns-clause-pushes : goal.returns-clause-pushes
returns-clause-pushes c =
    let y : Part = record { id = c.args.id; inbox = c.push.new.self } in
    let P : List Part → Type 0 = λ ps. rest_in ps c.args.id ≡ c.push.new.self in
    let is : rest_in c.push-2.new.self.items c.args.id ≡ c.push.new.self =
    subst P (sym c.in_ok-push.ensures.items) (rest_pushed c.args.parts.now.items c.args.id y c.requires.none refl) in
    let Q : PushAnswer → Type 0 = λ r. Pushes c.new-inbox.result c.args.unit.now r c.push.new.self in
    pushes_along c.new-inbox.result None c.args.unit.now (Ok c.in_ok-message.message) c.push.new.self (rest_in c.push-2.new.self.items c.args.id) (sym c.new-inbox.ensures) is (subst Q c.in_ok-message.was record {
      overlong = c.push.ensures.overlong c.requires.stream;
      whole = c.push.ensures.whole c.requires.stream;
      part = c.push.ensures.part c.requires.stream;
      memory = c.push.ensures.memory c.requires.stream;
      unchanged = c.push.ensures.unchanged;
    })

pub returns-clause-others : goal.returns-clause-others
returns-clause-others c q apart =
    let y : Part = record { id = c.args.id; inbox = c.push.new.self } in
    let P : List Part → Type 0 = λ ps. rest_in ps q ≡ rest_in c.args.parts.now.items q in
    subst P (sym c.in_ok-push.ensures.items) (rest_pushed_separate c.args.parts.now.items c.args.id q y refl apart)
