-- What the entries of a log say of the ends that they name: where an end was opened, whether it was released,
-- and whether its close was asked for (Novell SPX: end of connection).
use Rattle.std.specs.Prelude.{ℕ, ◌≡◌, ◌↔◌, true, None, Some, Contains, slice_get}
use Rattle.spx_link.specs.LinkView.{LinkView}
use Rattle.spx_theory.specs.Note.{AsksEnd, Opened, Released}
use Rattle.spx_theory.specs.Scene.{Scene, PresentEnd, IsPresent}

-- an end that was opened exists, at the host of its entry
abbrev pub EndsAreWhereOpened : Scene → Type 0
EndsAreWhereOpened s =
    (who host buffers : ℕ) → Contains s.log (Opened who host buffers)
    → (e : PresentEnd) × (slice_get s.ends who ≡ Some e) × (e.host ≡ host)

-- an end has no link exactly if it was released
abbrev pub GoneWereReleased : Scene → Type 0
GoneWereReleased s =
    (who : ℕ) (e : PresentEnd) → slice_get s.ends who ≡ Some e
    → (e.link ≡ None) ↔ Contains s.log (Released who)

-- if an end is not released, its end of the connection is queued exactly if that was asked for
abbrev pub QueuedWereAsked : Scene → Type 0
QueuedWereAsked s =
    (who : ℕ) (e : PresentEnd) (l : LinkView) → IsPresent s who e l
    → (l.end_queued ≡ true) ↔ Contains s.log (AsksEnd who)

pub record EntriesTellEnds (s : Scene) : Type 0 where
  pub opened : EndsAreWhereOpened s
  pub released : GoneWereReleased s
  pub asked : QueuedWereAsked s
