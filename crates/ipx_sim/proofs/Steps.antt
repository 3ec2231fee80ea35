-- From the clauses of a network's step to what it was: answered, or refused by a fault.
use Rattle.std.proofs.Common.{◌≡◌, true, false, None, Some, Result, Ok, Err, ap}
use Rattle.std.specs.Prelude.{◌≢◌, IfErr, IfOk, OnOk}
use Rattle.ipx_net.specs.AnswerView.{answer_view}
use Rattle.ipx_net.specs.NetEvents.{Happens}
use Rattle.ipx_net.specs.NetFaults.{first_fault}
use Rattle.ipx_net.specs.NetView.{NetView}
use Rattle.ipx_net.specs.declared.answer.Answer.{Answer}
use Rattle.ipx_net.specs.declared.event.Event.{Event}
use Rattle.ipx_net.specs.declared.fault.NetFault.{NetFault}
use Rattle.ipx_net.specs.declared.fault.NetFault.TheVariants as NetFaults
use Rattle.ipx_sim.specs.Act.{Stepped, outcome_view}

pub stepped : (r : Result Answer NetFault) (e : Event) (old new : NetView) → IfOk r (λ a. Happens e (answer_view a) old.now new.now) → OnOk r (first_fault old e ≡ None) → OnOk r (new.spent ≡ false)
    → IfErr r (λ f. f ≢ NetFaults.OutOfMemory → (first_fault old e ≡ Some f) × (new ≡ old)) → (r ≡ Err NetFaults.OutOfMemory → (first_fault old e ≡ None) × (new.spent ≡ true))
    → (r ≡ Err NetFaults.OutOfMemory → new.now.world.log ≡ old.now.world.log) → (r ≡ Err NetFaults.OutOfMemory → new.now.world.parcels ≡ old.now.world.parcels) → Stepped old e (outcome_view r) new
stepped (Ok a) e old new happens sound going fault memory log parcels = record { sound = sound; happens = happens; going = going }
stepped (Err f) e old new happens sound going fault memory log parcels =
    record {
      fault = fault;
      memory = λ same. memory (ap Err same);
      log = λ same. log (ap Err same);
      parcels = λ same. parcels (ap Err same);
    }
