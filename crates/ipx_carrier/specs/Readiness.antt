-- The marks of a driver's ports, and what becomes of them as the ports are asked. The entry points are
-- `MarksStay`, `AsksPortWithMark` for one asking of a port, and `MarksFollow` for many. Defined by this
-- project.
use Rattle.std.specs.Prelude.{◌≡◌, ◌⊎◌, ℕ, Bool, true, false, List, [], ◌∷◌, ◌++◌, Option, None}
use Rattle.ipx_carrier.specs.declared.fault.RunFault.{RunFault}
use Rattle.ipx_carrier.specs.declared.fault.RunFault.TheVariants.{OutOfMemory}
use Rattle.ipx_carrier.specs.Device.{Reception}
use Rattle.ipx_carrier.specs.Waits.{answers_of_port}

-- whether something may wait at each port
abbrev pub Readiness : Type 0
Readiness = ℕ → Bool

-- each port is marked as it was
abbrev pub MarksStay : Readiness → Readiness → Type 0
MarksStay old new = (port : ℕ) → new port ≡ old port

-- a port was asked. If something came it had a mark, and has it still. Otherwise its mark may be gone. The
-- marks of other ports stay
abbrev pub AsksPortWithMark : ℕ → Bool → Readiness → Readiness → Type 0
AsksPortWithMark asked came old new = ((port : ℕ) → (port ≡ asked → ⊥) → new port ≡ old port)
    × (new asked ≡ true → old asked ≡ true) × (came ≡ true → new asked ≡ true)

-- a fault ended the asking of a port. The marks stay. If memory ran out for what came, the port had a mark
abbrev pub FailsWithMark : ℕ → RunFault → Readiness → Readiness → Type 0
FailsWithMark asked fault old new = MarksStay old new × (fault ≡ OutOfMemory → old asked ≡ true)

-- the last of these answers is None
abbrev pub EndsInNone : List (Option (List ℕ)) → Type 0
EndsInNone answers = (before : List (Option (List ℕ))) × (answers ≡ before ++ None ∷ [])

-- ports were asked in this order, and gave these answers. No port is marked that was not. A port without a
-- mark answered None when it was last asked; or it was not asked, and had no mark before
abbrev pub MarksFollow : List Reception → Readiness → Readiness → Type 0
MarksFollow answers old new = (port : ℕ) → (new port ≡ true → old port ≡ true)
    × (new port ≡ false → EndsInNone (answers_of_port port answers)
    ⊎ ((answers_of_port port answers ≡ []) × (old port ≡ false)))
