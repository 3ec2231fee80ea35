-- A core over a core that receives, each minute, what neighbours that advertise nothing themselves would
-- advertise. Defined by this project. The entry points are `HearsUnder` and `GivesWithStatics`, and
-- `HearOutOfMemoryUnder` and `NextOutOfMemoryWithStatics` for out of memory.
use Rattle.std.specs.Prelude.{◌≡◌, ◌⊎◌, ℕ, ◌-◌, true, List, [], ◌∷◌, ◌++◌, Option, Some, MatchBool}
use Rattle.ipx_router.specs.RouterPackets.{SendingView}
use Rattle.ipx_router.specs.Advertisements.{is_due}
use Rattle.ipx_carrier.specs.Turns.{Given}

pub record WithStaticsView (C : Type 0) : Type 0 where
  -- the core below
  pub core : C
  -- the packets to receive, each with the number of its port, from 1
  pub advertisements : List SendingView
  -- the time at which they were last received
  pub refreshed_at : Option ℕ

-- the core below asks its neighbours once more
abbrev pub asking_under : {C : Type 0} → (C → C) → WithStaticsView C → WithStaticsView C
asking_under asking_again s = record s { core = asking_again s.core }

module _ {C : Type 0} (hears : C → ℕ → List ℕ → ℕ → C → Type 0) where
  -- the core below receives what comes in
  abbrev pub HearsUnder : WithStaticsView C → ℕ → List ℕ → ℕ → WithStaticsView C → Type 0
  HearsUnder old port bytes now new =
      hears old.core port bytes now new.core × (new ≡ record old { core = new.core })

  -- a core receives packets at a given time, one after another, each on its port
  abbrev pub HearsAdvertisements : ℕ → List SendingView → C → C → Type 0
  HearsAdvertisements now [] old new = new ≡ old
  HearsAdvertisements now (w ∷ ws) old new =
      (mid : C) × hears old (w.port - 1) w.bytes now mid × HearsAdvertisements now ws mid new

  -- the core below receives all advertisements, at first, and once a minute has passed since the last time
  abbrev pub HearsIfDue : WithStaticsView C → ℕ → WithStaticsView C → Type 0
  HearsIfDue old now new = MatchBool (is_due old.refreshed_at now)
      (HearsAdvertisements now old.advertisements old.core new.core
      × (new ≡ record old { core = new.core; refreshed_at = Some now }))
      (new ≡ old)

  -- then the core below is asked
  abbrev pub GivesWithStatics : (C → ℕ → Option Given → C → Type 0)
      → WithStaticsView C → ℕ → Option Given → WithStaticsView C → Type 0
  GivesWithStatics gives old now given new = (heard : WithStaticsView C) × HearsIfDue old now heard
      × gives heard.core now given new.core × (new ≡ record heard { core = new.core })

-- the core below runs out of memory for what comes in
abbrev pub HearOutOfMemoryUnder : {C : Type 0} → (C → ℕ → List ℕ → ℕ → C → Type 0)
    → WithStaticsView C → ℕ → List ℕ → ℕ → WithStaticsView C → Type 0
HearOutOfMemoryUnder hear_out_of_memory old port bytes now new =
    hear_out_of_memory old.core port bytes now new.core × (new ≡ record old { core = new.core })

module _ {C : Type 0} (hears hear_out_of_memory : C → ℕ → List ℕ → ℕ → C → Type 0) where
  -- a core receives packets, before one for which it runs out of memory
  abbrev pub AdvertisementOutOfMemory : ℕ → List SendingView → C → C → Type 0
  AdvertisementOutOfMemory now advertisements old new = (before later : List SendingView) × (w : SendingView) × (mid : C)
      × (advertisements ≡ before ++ w ∷ later) × HearsAdvertisements hears now before old mid
      × hear_out_of_memory mid (w.port - 1) w.bytes now new

  -- memory ran out for an advertisement that was due, and all are due again in a minute
  abbrev pub HearOutOfMemoryIfDue : WithStaticsView C → ℕ → WithStaticsView C → Type 0
  HearOutOfMemoryIfDue old now new = (is_due old.refreshed_at now ≡ true)
      × AdvertisementOutOfMemory now old.advertisements old.core new.core
      × (new ≡ record old { core = new.core; refreshed_at = Some now })

  -- that happens, or the core below runs out of memory as it is asked after them
  abbrev pub NextOutOfMemoryWithStatics : (C → ℕ → C → Type 0) → WithStaticsView C → ℕ → WithStaticsView C → Type 0
  NextOutOfMemoryWithStatics next_out_of_memory old now new = HearOutOfMemoryIfDue old now new
      ⊎ ((heard : WithStaticsView C) × HearsIfDue hears old now heard
      × next_out_of_memory heard.core now new.core × (new ≡ record heard { core = new.core }))
