-- The turns of a round, as the ports of a core see them. The entry point is `PortsTakeTurns`. Defined by this
-- project.
use Rattle.std.specs.Prelude.{ℕ, ◌≡◌, List, [], ◌∷◌, None, Option, Some}
use Rattle.ipx_carrier.specs.DriverTurns.{AsksEach, SendsEach}
use Rattle.ipx_carrier.specs.MarkedTurns.{EndsTurn}
use Rattle.ipx_carrier.specs.Turns.{Given, Turn}
use Rattle.ipx_carrier.specs.declared.fault.RunFault.{RunFault}

-- how large the buffer is into which a port receives
abbrev pub buffer_size : ℕ
buffer_size = 1536

module _ {S : Type 0} (receives : S → ℕ → ℕ → Option (List ℕ) → S → Type 0) (sends : S → Given → S → Type 0) where
  -- in each of these turns the ports were asked one after another, and gave its answers. Then its packets were sent
  abbrev pub TakeWhole : List Turn → S → S → Type 0
  TakeWhole [] old new = new ≡ old
  TakeWhole (t ∷ ts) old new = (asked there : S) × AsksEach receives buffer_size t.answers old asked
      × SendsEach sends t.packets asked there × TakeWhole ts there new

module _ {S : Type 0} (receives : S → ℕ → ℕ → Option (List ℕ) → S → Type 0) (sends : S → Given → S → Type 0)
    (fails_to_receive : S → ℕ → ℕ → S → Type 0) (fails_to_send : S → Given → S → Type 0) where
  -- there is no fault and no further turn; or one that this fault ended, after its ports gave its answers
  abbrev pub EndBroken : List Turn → Option RunFault → S → S → Type 0
  EndBroken [] fault old new = (fault ≡ None) × (new ≡ old)
  EndBroken (t ∷ ts) fault old new = (ts ≡ []) × (by : RunFault) × (fault ≡ Some by) × (asked : S)
      × AsksEach receives buffer_size t.answers old asked
      × EndsTurn sends fails_to_receive fails_to_send buffer_size t by asked new

  -- whole turns, and then at most one that a fault ended
  abbrev pub PortsTakeTurns : (whole broken : List Turn) → Option RunFault → S → S → Type 0
  PortsTakeTurns whole broken fault old new =
      (there : S) × TakeWhole receives sends whole old there × EndBroken broken fault there new
