-- The core of a site's router: a router that counts, under its static entries, under the rate limiter, under
-- source checks. Defined by this project.
use Rattle.std.specs.Prelude.{◌≡◌, ℕ, false, List, Option}
use Rattle.ipx_carrier.specs.Turns.{Given}
use Rattle.ipx_metrics.specs.MeteredRouter.{CountedView, CountsAsItGives, CountsHeard, CountsMissed, CountsWithheld}
use Rattle.ipx_static.specs.WithStatics.{WithStaticsView, GivesWithStatics, HearsUnder, HearOutOfMemoryUnder, NextOutOfMemoryWithStatics}
use Rattle.ipx_source_checks.specs.SourceChecked.{GivesBelowChecks, HearsChecked, HearOutOfMemoryChecked, SourceCheckedView, NextOutOfMemoryBelowChecks}
use Rattle.ipx_rate_limits.specs.RateLimiter.{GivesBelow, HearsRateLimited, HearOutOfMemoryBelow, RateLimiterView, NextOutOfMemoryBelow}

abbrev pub SiteCore : Type 0
SiteCore = SourceCheckedView (RateLimiterView (WithStaticsView CountedView))

-- it hears what comes in, or misses it if out of memory
abbrev pub SiteHears : SiteCore → ℕ → List ℕ → ℕ → SiteCore → Type 0
SiteHears = HearsChecked (HearsRateLimited (HearsUnder CountsHeard))

abbrev pub SiteHearOutOfMemory : SiteCore → ℕ → List ℕ → ℕ → SiteCore → Type 0
SiteHearOutOfMemory = HearOutOfMemoryChecked (HearOutOfMemoryBelow (HearOutOfMemoryUnder CountsMissed))

-- when it is to repeat its requests, its router gives the packets of its start again
abbrev pub SiteAsksAgain : SiteCore → SiteCore → Type 0
SiteAsksAgain old new =
    new ≡ record old {
      core = record old.core {
        core = record old.core.core { core = record old.core.core.core { started = false } };
      };
    }

-- when asked for a packet it gives one or none, or withholds it if out of memory
abbrev pub SiteGives : SiteCore → ℕ → Option Given → SiteCore → Type 0
SiteGives = GivesBelowChecks (GivesBelow (GivesWithStatics CountsHeard CountsAsItGives))

abbrev pub SiteNextOutOfMemory : SiteCore → ℕ → SiteCore → Type 0
SiteNextOutOfMemory = NextOutOfMemoryBelowChecks
    (NextOutOfMemoryBelow (NextOutOfMemoryWithStatics CountsHeard CountsMissed CountsWithheld))
