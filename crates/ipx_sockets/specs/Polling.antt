-- How a poller is asked to watch and to wait, and what comes of it, by its trace. Defined by this project.
use Rattle.std.specs.Prelude.{◌≡◌, ◌++◌, ◌∷◌, [], ℕ, zero, suc, ℤ, false, true, if◌then◌else◌, List, Option, Some, None}
use Rattle.ipx_sockets.specs.PollEvents.{PollEvent, Waited, Watched, numbers_of}
use Rattle.ipx_sockets.specs.declared.poller.Poller.{Poller}

-- a descriptor is watched, if there is one
abbrev pub watched_if : Option ℤ → List PollEvent
watched_if None = []
watched_if (Some fd) = Watched fd ∷ []

-- the numbers of the descriptors of which it holds an event, in order
abbrev pub numbers_come : Poller → List ℕ
numbers_come p = numbers_of p.events

-- the same, or none if the system failed at its last wait
abbrev pub reported : Poller → Option (List ℕ)
reported p = if p.failed then None else Some (numbers_come p)

-- the poller waits once, at most so many milliseconds, and is asked nothing else. It then holds the events that
-- the system reported, if that did not fail
abbrev pub WaitsOnce : ℕ → Poller → Poller → Type 0
WaitsOnce time old new =
    (new.poll.trace.items ≡ old.poll.trace.items ++ Waited time (reported new) ∷ []) × (new.asked ≡ Some time)

-- it waits once, and the system fails to wait
abbrev pub FailsToWait : Poller → Poller → Type 0
FailsToWait old new = (time : ℕ) × WaitsOnce time old new × (new.failed ≡ true)

-- it waits this often, one wait after another, and none fails
abbrev pub WaitsWell : ℕ → Poller → Poller → Type 0
WaitsWell zero old new = new ≡ old
WaitsWell (suc n) old new = (mid : Poller) × (time : ℕ) × WaitsWell n old mid
    × WaitsOnce time mid new × (new.failed ≡ false)

-- it waits, and the last wait fails, and no other
abbrev pub FailedToWait : Poller → Poller → Type 0
FailedToWait old new = (count : ℕ) × (mid : Poller) × WaitsWell count old mid × FailsToWait mid new
