-- The index of a log says what its entries say: the origins of parcels, the peers of ends, the units between
-- a sending and a reading, and the premises of the headline. And each parcel and each end is made by one
-- entry.
use Rattle.std.specs.Prelude.{ℕ, ◌≡◌, ◌<◌, ◌+◌, ◌⊎◌, ◌↔◌, List, [], ◌∷◌, ◌++◌, length, Some, slice_get}
use Rattle.spx_theory.specs.LogPremises.{AreConnected, ComesFrom, HavePeer, IsEnd, LogPremises, MakesEnd, ReadsNothingInjected, ReadsOwnPeer, ReadsRecent, makes_new, units_sent}
use Rattle.spx_theory.specs.Note.{Note, Carried, Got}
use Rattle.spx_theory.specs.Peers.{AreJoined, FromOwnPeer, IsFresh, NothingInjected, Premises, units_between}
use Rattle.spx_theory.specs.Scan.{Reading, mark_of, scan}
use Rattle.spx_theory.specs.Scene.{Scene}

-- the origin of a parcel, and how many routers it passed, by the index of the log
pub record IsMarked (log : List Note) (origin parcel passed : ℕ) : Type 0 where
  pub there : parcel < length (scan log).marks
  pub origin_is : (mark_of (scan log) parcel).origin ≡ origin
  pub passed_is : (mark_of (scan log) parcel).passed ≡ passed

pub record OriginsAreRead (s : Scene) : Type 0 where
  -- each parcel has one origin, and passed one number of routers
  pub each : (parcel : ℕ) → parcel < length s.parcels
      → (origin : ℕ) × (passed : ℕ) × ComesFrom s.log origin parcel passed
  pub one : (parcel o o' p p' : ℕ) → ComesFrom s.log o parcel p → ComesFrom s.log o' parcel p'
      → (o ≡ o') × (p ≡ p')
  -- and they are those of the index
  pub read : (origin parcel passed : ℕ)
      → ComesFrom s.log origin parcel passed ↔ IsMarked s.log origin parcel passed

pub record PeersAreRead (s : Scene) : Type 0 where
  -- the ends that exist
  pub ends : (who : ℕ) → IsEnd s.log who ↔ (who < length (scan s.log).roles)
  -- each end has at most one peer
  pub one : (c d e : ℕ) → HavePeer s.log c d → HavePeer s.log c e → d ≡ e
  pub read : (c d : ℕ) → AreConnected s.log c d ↔ AreJoined (scan s.log) c d

-- an entry by which an end reads a packet
abbrev pub read_by : Note → ℕ
read_by (Got who parcel) = 1
read_by n = 0

-- how many packets ends read in these entries
abbrev pub packets_read : List Note → ℕ
packets_read [] = 0
packets_read (n ∷ ns) = read_by n + packets_read ns

-- the reading of an entry Got is the one with as many before it as packets were read before the entry. The
-- units between the making of the parcel's origin and the reading are those of the entries between
abbrev pub BetweenIsRead : Scene → Type 0
BetweenIsRead s =
    (before between after : List Note) (making : Note) (who parcel origin passed : ℕ)
    → s.log ≡ before ++ making ∷ (between ++ Got who parcel ∷ after)
    → makes_new making ≡ Some origin → ComesFrom s.log origin parcel passed
    → (r : Reading)
    × (slice_get (scan s.log).readings (packets_read (before ++ making ∷ between)) ≡ Some r)
    × (r.who ≡ who)
    × ((e : ℕ) → units_between e (scan s.log).sent r ≡ units_sent e between)

-- the entry makes the parcel: a new one, or one that a router forwards
abbrev pub MakesParcel : Note → ℕ → Type 0
MakesParcel n parcel = (makes_new n ≡ Some parcel) ⊎ ((from : ℕ) × (n ≡ Carried from parcel))

-- the entry makes the end, with some number of buffers
abbrev pub MakesSomeEnd : Note → ℕ → Type 0
MakesSomeEnd n who = (buffers : ℕ) × MakesEnd n who buffers

-- entries that make the same are one entry, at one index of the log
abbrev pub MakesOnce : List Note → (Note → ℕ → Type 0) → Type 0
MakesOnce log Makes =
    (before after before' after' : List Note) (n n' : Note) (number : ℕ)
    → log ≡ before ++ n ∷ after → log ≡ before' ++ n' ∷ after'
    → Makes n number → Makes n' number
    → (before' ≡ before) × (n' ≡ n) × (after' ≡ after)

pub record AreMadeOnce (log : List Note) : Type 0 where
  pub parcels : MakesOnce log MakesParcel
  pub ends : MakesOnce log MakesSomeEnd

-- each premise, and all three
pub record PremisesAreRead (s : Scene) : Type 0 where
  pub injected : ReadsNothingInjected s.log ↔ NothingInjected s.log
  pub own : ReadsOwnPeer s.log ↔ FromOwnPeer s.log
  pub recent : ReadsRecent s.log ↔ IsFresh s.log
  pub all : LogPremises s.log ↔ Premises s.log
