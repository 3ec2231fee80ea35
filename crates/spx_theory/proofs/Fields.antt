-- Parts of a scene as functions, and a fact of the scene from that of its parts.
use Rattle.std.proofs.Common.{◌≡◌, ℕ, List, sym, subst}
use Rattle.spx_theory.specs.Note.{Note}
use Rattle.spx_theory.specs.Scene.{Scene, PresentEnd}

abbrev pub ends_of : Scene → List PresentEnd
ends_of z = z.ends

abbrev pub parcels_of : Scene → List (List ℕ)
parcels_of z = z.parcels

abbrev pub log_of : Scene → List Note
log_of z = z.log

-- if it holds of ends, parcels and log, it holds of the scene that has them
pub at_scene : (P : List PresentEnd → List (List ℕ) → List Note → Type 0) (s : Scene) (ends : List PresentEnd) (parcels : List (List ℕ)) (log : List Note)
    → s.ends ≡ ends → s.parcels ≡ parcels → s.log ≡ log → P ends parcels log → P s.ends s.parcels s.log
at_scene P s ends parcels log one two three t =
    subst (λ es. P es s.parcels s.log) (sym one) (subst (λ ps. P ends ps s.log) (sym two) (subst (P ends parcels) (sym three) t))
