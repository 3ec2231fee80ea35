-- A router that counts does with static neighbours what it does without its counts.
use Rattle.std.proofs.Common.{◌≡◌, ℕ, Bool, true, false, List, [], ◌∷◌, Some, ap, MatchBool}
use Rattle.ipx_router.specs.RouterPackets.{SendingView}
use Rattle.ipx_router.specs.Advertisements.{is_due}
use Rattle.ipx_carrier.specs.PriorityRouterCore.{PriorityHears}
use Rattle.ipx_metrics.specs.MeteredRouter.{CountedView, CountsHeard, without_counts}
use Rattle.ipx_static.specs.WithStatics.{WithStaticsView, HearsIfDue, HearsAdvertisements}
use Rattle.ipx_static.specs.StaticRuns.{Asked, AsksOnceMore, Comes, StaticsAreCountedSeparately, uncounted}

either : (P Q R S : Type 0) (b : Bool) → (P → R) → (Q → S) → MatchBool b P Q → MatchBool b R S
either P Q R S true f g h = f h
either P Q R S false f g h = g h

advertisements : (now : ℕ) (ws : List SendingView) (old new : CountedView) → HearsAdvertisements CountsHeard now ws old new
    → HearsAdvertisements PriorityHears now ws (without_counts old) (without_counts new)
advertisements now [] old new is = ap without_counts is
advertisements now (w ∷ ws) old new h = (without_counts h.0, h.1.0, advertisements now ws h.0 new h.2)

if_due : (old new : WithStaticsView CountedView) (now : ℕ) → HearsIfDue CountsHeard old now new
    → HearsIfDue PriorityHears (uncounted old) now (uncounted new)
if_due old new now h = either
    (HearsAdvertisements CountsHeard now old.advertisements old.core new.core × (new ≡ record old { core = new.core; refreshed_at = Some now })) (new ≡ old)
    (HearsAdvertisements PriorityHears now old.advertisements (without_counts old.core) (without_counts new.core)
    × (uncounted new ≡ record (uncounted old) { core = without_counts new.core; refreshed_at = Some now })) (uncounted new ≡ uncounted old)
    (is_due old.refreshed_at now) (λ said. (advertisements now old.advertisements old.core new.core said.0, ap uncounted said.1)) (λ is. ap uncounted is) h

pub counts_separate : StaticsAreCountedSeparately
counts_separate now (Comes port bytes) old new h = (h.0.0, ap uncounted h.1)
counts_separate now (Asked given) old new h = (uncounted h.0, if_due old h.0 now h.1, h.2.0, ap uncounted h.3)
counts_separate now AsksOnceMore old new h = ap uncounted h
