-- Definitions for private functions: how a unit changes a partial message, and what an id holds.
use Rattle.std.specs.Prelude.{ℕ, ◌≡◌, ◌≢◌, true, false, IfOk, IsOkUnless, List, Option, Some, None, Result, Err, option_map}
use Rattle.spx_link.specs.declared.unit.Unit.{Unit}
use Rattle.spx_link.specs.Links.{ChangesOnly, LinksView}
use Rattle.spx_messages.specs.declared.message_fault.MessageFault.{MessageFault}
use Rattle.spx_messages.specs.declared.message_fault.MessageFault.TheVariants as MessageFaults
use Rattle.spx_messages.specs.declared.message.Message.{Message}
use Rattle.spx_messages.specs.Joining.{added, is_overlong}
use Rattle.spx_messages.specs.Message.{MessageView, message_view}
use Rattle.spx_messages.specs.declared.parts.Part.{Part}
use Rattle.spx_messages.specs.EndpointView.{Held, rest_in}
use Rattle.spx_messages.specs.Taking.{TakenView, Part as OnePart, Whole}

-- a unit was added to a partial message: the answer, and the partial message after it
pub record Pushes (rest : Option MessageView) (u : Unit)
    (result : Result (Option Message) MessageFault) (after : Option MessageView) : Type 0 where
  pub overlong : is_overlong rest u ≡ true → (result ≡ Err MessageFaults.Overlong) × (after ≡ None)
  pub whole : is_overlong rest u ≡ false → u.last ≡ true
      → IfOk result (λ m. (option_map message_view m ≡ Some (added rest u)) × (after ≡ None))
  pub part : is_overlong rest u ≡ false → u.last ≡ false
      → IfOk result (λ m. (m ≡ None) × (after ≡ Some (added rest u)))
  pub memory : is_overlong rest u ≡ false → IsOkUnless result MessageFaults.OutOfMemory
  pub unchanged : result ≡ Err MessageFaults.OutOfMemory → after ≡ rest

-- what is taken if a unit was added
abbrev pub taken_by_push : Option MessageView → TakenView
taken_by_push None = OnePart
taken_by_push (Some m) = Whole m

-- an id now holds this link and this partial message, and nothing else changes
pub record ChangesHeld (links links' : LinksView) (parts parts' : List Part) (id : ℕ)
    (after : Held) : Type 0 where
  pub link : ChangesOnly links links' id after.link
  pub rest : rest_in parts' id ≡ after.rest
  pub others : (q : ℕ) → q ≢ id → rest_in parts' q ≡ rest_in parts q
