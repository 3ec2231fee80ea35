-- Actions one after another, each of which may be stopped: how the lines of a script are composed. An action
-- leads from one state to another. Its result is whether something happened, or what stopped it. Defined by
-- this project.
use Rattle.std.specs.Prelude.{ℕ, ◌≡◌, ◌<◌, ◌==◌, ◌⊎◌, ◌||◌, Bool, true, false, not, List, [], ◌∷◌, length, Result, Ok, Err}
use Rattle.ipx_net.specs.AnswerView.{AnswerView}
use Rattle.ipx_net.specs.NetView.{NetView}
use Rattle.ipx_net.specs.declared.event.Event.{Event}
use Rattle.ipx_net.specs.declared.fault.NetFault.{NetFault}
use Rattle.ipx_sim.specs.Act.{Stepped}
use Rattle.ipx_sim.specs.declared.stop.LineFault.{LineFault}

-- one event, whose outcome is read by `reads`
abbrev pub TakesEvent : (Result AnswerView NetFault → Result Bool LineFault) → Event
    → NetView → Result Bool LineFault → NetView → Type 0
TakesEvent reads e old result new =
    (outcome : Result AnswerView NetFault) × Stepped old e outcome new × (result ≡ reads outcome)

-- nothing is done
abbrev pub DoesNothing : {S : Type 0} → S → Result Bool LineFault → S → Type 0
DoesNothing old result new = (result ≡ Ok false) × (new ≡ old)

-- one and then the other: something happened if it did in one of them, and what stops one stops both
abbrev pub Then : {S : Type 0} → (S → Result Bool LineFault → S → Type 0)
    → (S → Result Bool LineFault → S → Type 0) → S → Result Bool LineFault → S → Type 0
Then {S} First Second old (Ok any) new =
    (between : S) × (a : Bool) × (b : Bool)
    × First old (Ok a) between × Second between (Ok b) new × (any ≡ (a || b))
Then {S} First Second old (Err stop) new =
    First old (Err stop) new
    ⊎ ((between : S) × (a : Bool) × First old (Ok a) between × Second between (Err stop) new)

-- the action with each item of a list, in order
abbrev pub DoesEach : {S X : Type 0} → (X → S → Result Bool LineFault → S → Type 0) → List X
    → S → Result Bool LineFault → S → Type 0
DoesEach Does [] old result new = DoesNothing old result new
DoesEach Does (x ∷ xs) old result new = Then (Does x) (DoesEach Does xs) old result new

-- again and again, if something happens each time; the list has the states after each
abbrev pub Iterates : {S : Type 0} → (S → Result Bool LineFault → S → Type 0) → List S → S → S → Type 0
Iterates Does [] old new = new ≡ old
Iterates Does (next ∷ states) old new = Does old (Ok true) next × Iterates Does states next new

-- again and again until nothing happens, and at most this often; something happened in all if it did the
-- first time
abbrev pub Repeats : {S : Type 0} → ℕ → (S → Result Bool LineFault → S → Type 0)
    → S → Result Bool LineFault → S → Type 0
Repeats {S} most Does old (Ok any) new =
    (states : List S) × (last : S) × Iterates Does states old last
    × (any ≡ not (length states == 0))
    × (((length states ≡ most) × (new ≡ last))
    ⊎ ((length states < most) × Does last (Ok false) new))
Repeats {S} most Does old (Err stop) new =
    (states : List S) × (last : S) × Iterates Does states old last
    × (length states < most) × Does last (Err stop) new
