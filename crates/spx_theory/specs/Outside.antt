-- Only injected parcels come from outside.
use Rattle.std.specs.Prelude.{ℕ, Contains}
use Rattle.spx_theory.specs.Note.{Injected}
use Rattle.spx_theory.specs.Peers.{NothingInjected}
use Rattle.spx_theory.specs.Scene.{Scene}

-- if no parcel was injected, no packet that was read was
abbrev pub OutsideWasInjected : Scene → Type 0
OutsideWasInjected s =
    ((parcel : ℕ) → ¬ Contains s.log (Injected parcel)) → NothingInjected s.log
