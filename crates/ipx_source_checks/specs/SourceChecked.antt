-- A core over a core that drops packets which fail a source check. Defined by this project.
use Rattle.std.specs.Prelude.{◌≡◌, ◌⊎◌, ℕ, List, Option}
use Rattle.ipx_carrier.specs.Turns.{Given}
use Rattle.ipx_source_checks.specs.declared.drops.SourceDrops.{SourceDrops}
use Rattle.ipx_source_checks.specs.declared.failed_check.CheckedPort.{CheckedPort}
use Rattle.ipx_source_checks.specs.declared.failed_check.FailedCheck.{FailedCheck}
use Rattle.ipx_source_checks.specs.SourceChecks.{FailsAt, one_more_failed}

-- the core below, the ports of its router, and the packets that were dropped
pub record SourceCheckedView (C : Type 0) : Type 0 where
  pub core : C
  pub ports : List CheckedPort
  pub drops : SourceDrops

-- the core below repeats its requests to its neighbours
abbrev pub asking_below_checks : {C : Type 0} → (C → C) → SourceCheckedView C → SourceCheckedView C
asking_below_checks asking_again s = record s { core = asking_again s.core }

module _ {C : Type 0} (hears : C → ℕ → List ℕ → ℕ → C → Type 0) where
  -- a packet that fails a check is counted, and nothing else changes
  abbrev pub DropsFailed : SourceCheckedView C → ℕ → List ℕ → SourceCheckedView C → Type 0
  DropsFailed old port bytes new = (f : FailedCheck) × FailsAt old.ports port bytes f
      × (new ≡ record old { drops = one_more_failed f old.drops })

  -- the core below hears bytes that fail none, as they came
  abbrev pub HearsUnfailed : SourceCheckedView C → ℕ → List ℕ → ℕ → SourceCheckedView C → Type 0
  HearsUnfailed old port bytes now new = ((f : FailedCheck) → FailsAt old.ports port bytes f → ⊥)
      × hears old.core port bytes now new.core × (new ≡ record old { core = new.core })

  -- one of the two
  abbrev pub HearsChecked : SourceCheckedView C → ℕ → List ℕ → ℕ → SourceCheckedView C → Type 0
  HearsChecked old port bytes now new =
      DropsFailed old port bytes new ⊎ HearsUnfailed old port bytes now new

-- the core below runs out of memory as it hears bytes that fail no check
abbrev pub HearOutOfMemoryChecked : {C : Type 0} → (C → ℕ → List ℕ → ℕ → C → Type 0)
    → SourceCheckedView C → ℕ → List ℕ → ℕ → SourceCheckedView C → Type 0
HearOutOfMemoryChecked hear_out_of_memory old port bytes now new =
    ((f : FailedCheck) → FailsAt old.ports port bytes f → ⊥)
    × hear_out_of_memory old.core port bytes now new.core × (new ≡ record old { core = new.core })

-- it gives what the core below gives
abbrev pub GivesBelowChecks : {C : Type 0} → (C → ℕ → Option Given → C → Type 0)
    → SourceCheckedView C → ℕ → Option Given → SourceCheckedView C → Type 0
GivesBelowChecks gives old now given new =
    gives old.core now given new.core × (new ≡ record old { core = new.core })

-- or that runs out of memory
abbrev pub NextOutOfMemoryBelowChecks : {C : Type 0} → (C → ℕ → C → Type 0)
    → SourceCheckedView C → ℕ → SourceCheckedView C → Type 0
NextOutOfMemoryBelowChecks next_out_of_memory old now new =
    next_out_of_memory old.core now new.core × (new ≡ record old { core = new.core })
