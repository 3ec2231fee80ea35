-- What holds for every network. Until memory is refused, its scene is a reached one. Afterwards its log, its
-- parcels and the addresses of its hosts are those of a reached scene. So is, for each end, whether a message
-- of it grew too long. One end may be added.
use Rattle.std.specs.Prelude.{◌≡◌, Bool, true, false, map}
use Rattle.spx_theory.specs.Deeds.{Reached}
use Rattle.spx_theory.specs.Scene.{Scene}
use Rattle.spx_theory.specs.World.{InOrder, World, bytes_of, home_at, scene_of, segment_of}
use Rattle.ipx_net_hosts.specs.Hosts.{FollowsMarks, marks_of}

pub record GoesOn (w : World) : Type 0 where
  pub order : InOrder w
  pub reached : Reached (scene_of w)

pub record IsAtRest (w : World) : Type 0 where
  pub scene : Scene
  pub reached : Reached scene
  pub homes : scene.homes ≡ map home_at w.hosts
  pub log : scene.log ≡ w.log
  pub parcels : scene.parcels ≡ map bytes_of w.parcels
  pub segments : scene.segments ≡ map segment_of w.parcels
  pub marks : FollowsMarks (map (λ e. e.overlong) scene.ends) (marks_of w.ends)

abbrev pub IsKept : World → Bool → Type 0
IsKept w false = GoesOn w
IsKept w true = IsAtRest w
