-- What a poller was asked, and what came of it. Defined by this project.
use Rattle.std.specs.Prelude.{ℕ, ℤ, List, Option, map}
use Rattle.mio.specs.Event.{event_token}
use Rattle.mio.specs.Events.{items}
use Rattle.mio.specs.declared.event.events.Events.{Events}

-- to watch a descriptor from then on, or to wait, at most so many milliseconds. What came of a wait are the
-- numbers of the events that the system reported, in order, or nothing if it failed to wait
pub data PollEvent : Type 0 where
  Watched : ℤ → PollEvent
  Waited : ℕ → Option (List ℕ) → PollEvent

-- the numbers of events, in order. Each is the index of its descriptor among those that are watched, from 0 on
abbrev pub numbers_of : {A : Type 0} → Events A → List ℕ
numbers_of events = map (λ e. (event_token e).0) (items events)
