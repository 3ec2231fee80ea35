use Rattle.std.proofs.Common.{ℕ, List, ap, inl}
use Rattle.spx_messages.specs.Message.{MessageView}
use Rattle.spx_messages.specs.declared.message.Message.{Message}
use Rattle.ipx_sim.specs.Act.{outcome_view}
use Rattle.ipx_sim.proofs.rounds.send_number.Goals as goal

abbrev of_bytes : List ℕ → MessageView
of_bytes bytes = record { stream = 0; body = bytes }

pub returns : goal.returns
returns c =
    let message : Message = record { stream = 0; body = c.in_ok-body.body } in
    inl (message, ap of_bytes c.in_ok-body.ensures.items, (outcome_view c.step.result, c.step.ensures, c.sent.ensures))
