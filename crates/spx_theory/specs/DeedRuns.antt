-- Deeds one after another.
use Rattle.std.specs.Prelude.{◌≡◌, List, [], ◌∷◌}
use Rattle.spx_theory.specs.Scene.{Scene}
use Rattle.spx_theory.specs.Deeds.{Deed, DoesDeed}

abbrev pub DoesAll : List Deed → Scene → Scene → Type 0
DoesAll [] old new = new ≡ old
DoesAll (d ∷ ds) old new = (between : Scene) × DoesDeed d old between × DoesAll ds between new

-- some deeds change one scene into another
abbrev pub Deeds : Scene → Scene → Type 0
Deeds old new = (ds : List Deed) × DoesAll ds old new
