-- How the ports of a driver are asked, and packets sent, from one state of the driver to the next. The entry
-- points are `AsksEach` and `SendsEach`, and `EndsAsking` and `SendsUntil` if a fault ends that. Defined by this
-- project.
use Rattle.std.specs.Prelude.{◌≡◌, ℕ, List, [], ◌∷◌, ◌++◌, Option}
use Rattle.ipx_carrier.specs.declared.fault.RunFault.{RunFault}
use Rattle.ipx_carrier.specs.declared.fault.RunFault.TheVariants.{Device, OutOfMemory}
use Rattle.ipx_carrier.specs.Device.{Reception}

module _ {S : Type 0} (receives : S → ℕ → ℕ → Option (List ℕ) → S → Type 0) where
  -- ports were asked in this order, each into a buffer of this size, and gave these answers
  abbrev pub AsksEach : ℕ → List Reception → S → S → Type 0
  AsksEach size [] old new = new ≡ old
  AsksEach size (r ∷ rs) old new = (mid : S) × receives old r.port size r.bytes mid × AsksEach size rs mid new

module _ {S : Type 0} (fails_to_receive : S → ℕ → ℕ → S → Type 0) where
  -- a fault ended the asking of this port, into a buffer of this size. The driver failed to receive there; or
  -- memory ran out after that, and nothing more happened to the driver
  abbrev pub EndsAsking : ℕ → ℕ → RunFault → S → S → Type 0
  EndsAsking port size Device old new = fails_to_receive old port size new
  EndsAsking port size OutOfMemory old new = new ≡ old

module _ {S P : Type 0} (sends : S → P → S → Type 0) where
  -- these packets were sent in this order
  abbrev pub SendsEach : List P → S → S → Type 0
  SendsEach [] old new = new ≡ old
  SendsEach (p ∷ ps) old new = (mid : S) × sends old p mid × SendsEach ps mid new

module _ {S P : Type 0} (sends fails_to_send : S → P → S → Type 0) where
  -- the first of these packets were sent in this order, then sending the next one failed, and this is the rest
  abbrev pub SendsFront : List P → List P → S → S → Type 0
  SendsFront packets rest old new = (sent : List P) × (next : P) × (packets ≡ sent ++ next ∷ rest)
      × (mid : S) × SendsEach sends sent old mid × fails_to_send mid next new

  -- sending one of these packets failed, after those before it were sent
  abbrev pub SendsSomeOf : List P → S → S → Type 0
  SendsSomeOf packets old new = (rest : List P) × SendsFront packets rest old new

  -- a core gave these packets before a fault. If memory ran out, all were sent, and nothing more happened. If the
  -- driver failed, it failed to send the last one
  abbrev pub SendsUntil : List P → RunFault → S → S → Type 0
  SendsUntil packets OutOfMemory old new = SendsEach sends packets old new
  SendsUntil packets Device old new = SendsFront packets [] old new
