-- A unit added to a partial message: the cases of its call.
use Rattle.std.proofs.Common.{◌≡◌, ℕ, List, refl, sym, subst, ◌∙◌, None, Some, get_or, set, Option, Result, Ok, Err, IfOk, IsOkUnless, option_map}
use Rattle.spx_link.specs.declared.unit.Unit.{Unit}
use Rattle.spx_messages.specs.declared.message_fault.MessageFault.{MessageFault}
use Rattle.spx_messages.specs.declared.message_fault.MessageFault.TheVariants as MessageFaults
use Rattle.spx_messages.specs.declared.message.Message.{Message}
use Rattle.spx_messages.specs.Joining.{added}
use Rattle.spx_messages.specs.Message.{MessageView, message_view}
use Rattle.spx_messages.specs.declared.parts.Part.{Part}
use Rattle.spx_messages.specs.EndpointView.{rest_in}
use Rattle.spx_messages.specs.Pushing.{Pushes}
use Rattle.spx_messages.proofs.Rests.{IsPlace, id_at_place, rest_at_place, rest_written}

abbrev pub PushAnswer : Type 0
PushAnswer = Result (Option Message) MessageFault

pub pushes_along : (rest rest' : Option MessageView) (u : Unit) (r : PushAnswer) (after after' : Option MessageView) → rest' ≡ rest → after' ≡ after → Pushes rest u r after → Pushes rest' u r after'
pushes_along rest rest' u r after after' e f p =
    let P : Option MessageView → Type 0 = λ o. Pushes o u r after' in
    let Q : Option MessageView → Type 0 = λ o. Pushes rest u r o in
    subst P (sym e) (subst Q (sym f) p)

-- at its index
pub pushes_at : (parts : List Part) (id k : ℕ) (x y : Part) (u : Unit) (r : PushAnswer) → IsPlace parts id k → x ≡ get_or parts k x → y.id ≡ x.id → Pushes x.inbox u r y.inbox → Pushes (rest_in parts id) u r (rest_in (set parts k y) id)
pushes_at parts id k x y u r is read same p =
    pushes_along x.inbox (rest_in parts id) u r y.inbox (rest_in (set parts k y) id)
    (rest_at_place parts id k x is read)
    (rest_written parts id k y is (same ∙ id_at_place parts id k x is read))
    p

-- if it was refused, nothing of it is stored
pub pushes_refused : (u : Unit) (r r' : PushAnswer) (f : MessageFault) (after after' : Option MessageView) → Pushes None u r after → r ≡ Err f → r' ≡ Err f → after' ≡ None → Pushes None u r' after'
pushes_refused u r r' f after after' p is is' none =
    let same : r ≡ r' = is ∙ sym is' in
    record {
      overlong = λ o. (sym same ∙ (p.overlong o).0, none);
      whole = λ o l. subst (λ (s : PushAnswer). IfOk s (λ m. (option_map message_view m ≡ Some (added None u)) × (after' ≡ None))) (sym is') tt;
      part = λ o l. subst (λ (s : PushAnswer). IfOk s (λ m. (m ≡ None) × (after' ≡ Some (added None u)))) (sym is') tt;
      memory = λ o. subst (λ (s : PushAnswer). IsOkUnless s MessageFaults.OutOfMemory) same (p.memory o);
      unchanged = λ w. none;
    }

-- if it was added, and memory was refused after that
pub pushes_undone : (u : Unit) (r r' : PushAnswer) (m : Option Message) (after after' : Option MessageView) → Pushes None u r after → r ≡ Ok m → r' ≡ Err MessageFaults.OutOfMemory → after' ≡ None → Pushes None u r' after'
pushes_undone u r r' m after after' p is is' none =
    record {
      overlong = λ o. absurd (cc (is, (p.overlong o).0));
      whole = λ o l. subst (λ (s : PushAnswer). IfOk s (λ m. (option_map message_view m ≡ Some (added None u)) × (after' ≡ None))) (sym is') tt;
      part = λ o l. subst (λ (s : PushAnswer). IfOk s (λ m. (m ≡ None) × (after' ≡ Some (added None u)))) (sym is') tt;
      memory = λ o. subst (λ (s : PushAnswer). IsOkUnless s MessageFaults.OutOfMemory) (sym is') refl;
      unchanged = λ w. none;
    }
