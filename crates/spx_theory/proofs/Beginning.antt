-- A world in which nothing happened yet, and all worlds that steps reach from it.
use Rattle.std.proofs.Common.{◌≡◌, ◌≢◌, ℕ, [], map, Some, sym, ◌∙◌, ap, subst}
use Rattle.std.specs.Prelude.{slice_get}
use Rattle.spx_messages.specs.WrittenPackets.{Home}
use Rattle.spx_theory.specs.Deeds.{IsBegun, Reached, begun}
use Rattle.spx_theory.specs.World.{World, EndNow, end_at, present_of, home_at, bytes_of, segment_of, scene_of, InOrder}
use Rattle.spx_theory.specs.Reach.{HasNoLinks, IsNewWorld, CameTo, new, stepped}
use Rattle.spx_theory.proofs.Places.{map_got}
use Rattle.spx_theory.proofs.WorldSteps.{step_kept, step_reaches}

new_in_order : (w : World) → IsNewWorld w → InOrder w
new_in_order w n =
    record {
      ends = λ who e at stands. absurd (no_end who e (ap (λ es. slice_get es who) (sym n.ends) ∙ at));
      hosts = λ k s at.
          let f : HasNoLinks s = n.hosts k s at in
          record {
            names = λ id who is. absurd (no_name id who (ap (λ xs. end_at xs id) (sym f.here) ∙ is));
            named = λ id h is. absurd (cc (sym (f.none id) ∙ is));
            range = f.range;
          };
    }
  where
    no_end : (k : ℕ) (e : EndNow) → slice_get [] k ≡ Some e → ⊥
    no_end k e is = cc

    no_name : (id who : ℕ) → end_at [] id ≡ Some who → ⊥
    no_name id who is = cc

new_is_begun : (w : World) → IsNewWorld w → IsBegun (scene_of w)
new_is_begun w n =
    record {
      homes = λ k h at.
          let it = map_got home_at w.hosts k h at in
          subst (λ (x : Home). x.network.0 ≢ 0) it.2 (n.hosts k it.0 it.1).network;
      ends = ap (map (present_of w.hosts)) n.ends;
      parcels = ap (map bytes_of) n.parcels;
      segments = ap (map segment_of) n.parcels;
      log = n.log;
    }

pub came_to : (w : World) → CameTo w → InOrder w × Reached (scene_of w)
came_to w (new n) = (new_in_order w n, begun (new_is_begun w n))
came_to w (stepped old c s) =
    let was : InOrder old × Reached (scene_of old) = came_to old c in
    (step_kept old w was.0 s, step_reaches old w was.0 was.1 s)
