-- How seldom the core of `ipx send` gives units of its paced connection, whatever it receives, and whatever its
-- host does between turns; and so its new units are spaced in a course by one clock. The entry points are
-- `PacedCoresGiveSeldom` and `PacedHostsAreSpaced`. Defined by this project.
use Rattle.std.specs.Prelude.{ℕ, ◌≡◌, ◌<◌, ◌≤◌, ◌+◌, ◌==◌, ◌⊎◌, ◌&&◌, Bool, true, false, List, [], ◌∷◌, ◌++◌, Option, None, Some, if◌then◌else◌}
use Rattle.ipx_carrier.specs.Turns.{Given}
use Rattle.ipx_host.specs.Barring.{HearAllowedOutOfMemory, HearsAllowed}
use Rattle.ipx_host.specs.Paced.{GivesOnceTold}
use Rattle.ipx_host.specs.declared.paced_host_core.PacedHostCore.{PacedHostCore}
use Rattle.spx_congestion.specs.Capping.{count_within}
use Rattle.spx_congestion.specs.Pacing.{made_pacer}
use Rattle.spx_link.specs.declared.outgoing.Sent.{Sent}
use Rattle.spx_link.specs.declared.outgoing.Sent.TheVariants as Sents
use Rattle.theory_processes.specs.Timely.{AreSpaced, NewUnit, TimedSite}

-- a packet carries a unit, or the end of a connection, first or again
abbrev pub carries_unit : Sent → Bool
carries_unit Sents.Request = false
carries_unit Sents.Reply = false
carries_unit Sents.Confirm = false
carries_unit Sents.Unit = true
carries_unit Sents.Again = true
carries_unit Sents.Ack = false
carries_unit Sents.Probe = false

-- the time of a packet that carries a unit of this id, by what the endpoint then says that it gave
abbrev pub unit_said : ℕ → ℕ → Option (ℕ × Sent) → List ℕ
unit_said id now None = []
unit_said id now (Some said) = if (said.0 == id) && carries_unit said.1 then now ∷ [] else []

abbrev pub unit_given : ℕ → ℕ → Option Given → Option (ℕ × Sent) → List ℕ
unit_given id now None said = []
unit_given id now (Some given) said = unit_said id now said

-- a core has paced this connection since its pacer was made. It received and gave, as its contracts say, at times that
-- do not go back, of which `last` is the last; between, its host changed anything but what is paced. The units of
-- the connection were given at these times
pub data HasPaced (id : ℕ) : PacedHostCore → List ℕ → ℕ → Type 0 where
  begins : (core : PacedHostCore) → core.paced ≡ Some (record { id = id; pacer = made_pacer }) → HasPaced id core [] 0
  hears : (old new : PacedHostCore) (units : List ℕ) (last : ℕ) (bytes : List ℕ) (now : ℕ) → HasPaced id old units last
      → last ≤ now → HearsAllowed old bytes now new → HasPaced id new units now
  loses : (old new : PacedHostCore) (units : List ℕ) (last : ℕ) (bytes : List ℕ) (now : ℕ) → HasPaced id old units last
      → last ≤ now → HearAllowedOutOfMemory old bytes now new → HasPaced id new units now
  gives : (old new : PacedHostCore) (units : List ℕ) (last now : ℕ) (given : Option Given) → HasPaced id old units last
      → last ≤ now → GivesOnceTold old now given new
      → HasPaced id new (units ++ unit_given id now given new.endpoint.said) now
  works : (old new : PacedHostCore) (units : List ℕ) (last : ℕ) → HasPaced id old units last
      → new.paced ≡ old.paced → HasPaced id new units last

-- then within any 1,000 ms it gave fewer than 32,767 units of that connection
abbrev pub PacedCoresGiveSeldom : Type 0
PacedCoresGiveSeldom = (id : ℕ) (core : PacedHostCore) (units : List ℕ) (last : ℕ) → HasPaced id core units last
    → (from : ℕ) → count_within from units < 32767

-- ---- in a course by one clock

-- when a host gave its new units
abbrev pub units_of : ℕ → List NewUnit → List ℕ
units_of host [] = []
units_of host (u ∷ us) = if u.host == host then u.at ∷ units_of host us else units_of host us

-- these moments are among those of another clock, in order, which began at the moment `start`
abbrev pub AreAmong : ℕ → List ℕ → List ℕ → Type 0
AreAmong start [] times = Unit {0}
AreAmong start (at ∷ ats) [] = ⊥
AreAmong start (at ∷ ats) (t ∷ times) = ((at ≡ start + t) × AreAmong start ats times) ⊎ AreAmong start (at ∷ ats) times

-- what a host gave first are units of a paced core, whose clock began at some moment and goes on as the one clock
-- does
pub record IsPacedBy (host : ℕ) (units : List NewUnit) : Type 0 where
  pub id : ℕ
  pub core : PacedHostCore
  pub given : List ℕ
  pub until : ℕ
  pub paced : HasPaced id core given until
  pub start : ℕ
  pub among : AreAmong start (units_of host units) given

-- if each host that gives new units is such a one, they are spaced
abbrev pub PacedHostsAreSpaced : Type 0
PacedHostsAreSpaced = (s : TimedSite) → ((host : ℕ) → (units_of host s.units ≡ []) ⊎ IsPacedBy host s.units) → AreSpaced s
