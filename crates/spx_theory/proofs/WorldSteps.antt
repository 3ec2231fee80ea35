-- Each step is a list of deeds, and leaves a world in order.
use Rattle.std.proofs.Common.{sym, ◌∙◌}
use Rattle.std.proofs.lemmas.List.{append-nil}
use Rattle.spx_theory.specs.Deeds.{Reached}
use Rattle.spx_theory.specs.World.{World, scene_of, InOrder}
use Rattle.spx_theory.specs.DeedRuns.{Deeds}
use Rattle.spx_theory.specs.WorldStep.{WorldStep, Delivered, Polled, Taken, Dialled, Sent, Closed, Released, Paced, AskedAgain, Refused, Injected, Ticked, Told, Carried}
use Rattle.spx_theory.proofs.Doing.{reached_after}
use Rattle.spx_theory.proofs.Delivering.{delivers_deeds, left_alone}
use Rattle.spx_theory.proofs.WorldPolls.{polls_deeds}
use Rattle.spx_theory.proofs.WorldTakes.{takes_deeds}
use Rattle.spx_theory.proofs.WorldCalls.{dials_deeds, dials_kept, sends_deeds, sends_kept, closes_deeds, closes_kept, quiet_kept, paces_deeds, asks_deeds, injects_deeds, ticks_deeds, order_of_same}
use Rattle.spx_theory.proofs.Releasing.{releases_deeds, releases_kept}
use Rattle.spx_theory.proofs.Routing.{tells_deeds, carries_deeds}
use Rattle.spx_theory.proofs.KeptBy.{delivers_kept, left_kept, polls_kept, takes_kept}

pub step_deeds : (old new : World) → InOrder old → WorldStep old new → Deeds (scene_of old) (scene_of new)
step_deeds old new o (Delivered parcel host answer d) = delivers_deeds old new parcel host answer o d
step_deeds old new o (Polled host result d) = polls_deeds old new host result o d
step_deeds old new o (Taken who answer d) = takes_deeds old new who answer o d
step_deeds old new o (Dialled host socket to buffers id d) = dials_deeds old new host socket to buffers id o d
step_deeds old new o (Sent who m d) = sends_deeds old new who m o d
step_deeds old new o (Closed who d) = closes_deeds old new who o d
step_deeds old new o (Released who d) = releases_deeds old new who o d
step_deeds old new o (Paced who window manual d) = paces_deeds old new who window manual o d
step_deeds old new o (AskedAgain who place d) = asks_deeds old new who place o d
step_deeds old new o (Refused host d) = left_alone old new host d.before d.after d.there d.hosts d.same d.ends d.parcels (d.log ∙ sym (append-nil old.log))
step_deeds old new o (Injected segment next bytes d) = injects_deeds old new segment next bytes d
step_deeds old new o (Ticked now d) = ticks_deeds old new now d
step_deeds old new o (Told router letters d) = tells_deeds old new router letters d
step_deeds old new o (Carried parcel router port segment next bytes d) = carries_deeds old new parcel router port segment next bytes d

pub step_kept : (old new : World) → InOrder old → WorldStep old new → InOrder new
step_kept old new o (Delivered parcel host answer d) = delivers_kept old new parcel host answer o d
step_kept old new o (Polled host result d) = polls_kept old new host result o d
step_kept old new o (Taken who answer d) = takes_kept old new who answer o d
step_kept old new o (Dialled host socket to buffers id d) = dials_kept old new host socket to buffers id o d
step_kept old new o (Sent who m d) = sends_kept old new who m o d
step_kept old new o (Closed who d) = closes_kept old new who o d
step_kept old new o (Released who d) = releases_kept old new who o d
step_kept old new o (Paced who window manual d) = quiet_kept old new who _ o d
step_kept old new o (AskedAgain who place d) = quiet_kept old new who _ o d
step_kept old new o (Refused host d) = left_kept old new host d.before d.after o d.there d.hosts d.same d.here d.ends
step_kept old new o (Injected segment next bytes d) = order_of_same old new d.hosts d.ends o
step_kept old new o (Ticked now d) = order_of_same old new d.hosts d.ends o
step_kept old new o (Told router letters d) = order_of_same old new d.hosts d.ends o
step_kept old new o (Carried parcel router port segment next bytes d) = order_of_same old new d.hosts d.ends o

-- so deeds still reach the scene of the world
pub step_reaches : (old new : World) → InOrder old → Reached (scene_of old) → WorldStep old new → Reached (scene_of new)
step_reaches old new o r d = reached_after (scene_of old) (scene_of new) r (step_deeds old new o d)
