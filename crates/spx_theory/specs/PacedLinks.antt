-- A change of the window, and a request to retransmit: both calls keep what the machine, the names and the
-- units speak of.
use Rattle.std.specs.Prelude.{ℕ, ◌≡◌, Bool}
use Rattle.spx_link.specs.LinkView.{LinkView}
use Rattle.spx_link.specs.Units.{queued_units}
use Rattle.spx_link.specs.Offer.{again_link, pace_link}
use Rattle.spx_theory.specs.Lasting.{lasting}
use Rattle.spx_theory.specs.Names.{names}
use Rattle.spx_theory.specs.Tracks.{core}

pub record SameButPace (l k : LinkView) : Type 0 where
  pub core : core k ≡ core l
  pub names : names k ≡ names l
  pub lasting : lasting k ≡ lasting l
  pub queue : queued_units k ≡ queued_units l
  pub state : k.state ≡ l.state
  pub end_queued : k.end_queued ≡ l.end_queued

pub record PaceLaws : Type 0 where
  pub paces : (l : LinkView) (window : ℕ) (manual : Bool) → SameButPace l (pace_link l window manual)
  pub asks : (l : LinkView) (place : ℕ) → SameButPace l (again_link l place)
