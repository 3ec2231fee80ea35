-- A router that starts as a given text describes, and runs.
use Rattle.std.proofs.Common.{◌≡◌, ◌⊎◌, ℕ, true, List, Result, Ok, Err, inl, inr, subst}
use Rattle.std.specs.Prelude.{◌==◌, IfErr, IfOk, OnOk}
use Rattle.ipx_config.specs.Loading.{IsFileText, IsStatus}
use Rattle.ipx_config.specs.Site.{IsSiteText}
use Rattle.ipx_config.specs.declared.fault.ConfigError.{ConfigError}
use Rattle.ipx_config.specs.declared.site.RouterConfig.{RouterConfig}
use Rattle.ipx_site.specs.RoutingRuns.{RoutesByText, RunsTo, StartsBy, StartsByText}
use Rattle.ipx_site.specs.declared.running_router.RunningRouter.{RunningRouter}

-- a router that started as a loaded text says started as this text describes
pub starts_by_text : {R : Type 0} (text : List ℕ) (loaded : Result RouterConfig ℕ) (result : Result (RunningRouter R) ℕ)
    → IfOk loaded (λ s. IsFileText text × IsSiteText text s) → IfErr loaded (λ s. result ≡ Err s)
    → IfOk loaded (λ site. IfOk result (λ s. StartsBy site s)) → IfOk result (λ s. StartsByText text s)
starts_by_text text (Ok site) (Ok s) is unread starts = (site, is.0, is.1, starts)
starts_by_text text loaded (Err e) is unread starts = tt
starts_by_text text (Err e) (Ok s) is unread starts = absurd (cc)

-- what holds in any case holds of a good result
pub on_ok : {T E P : Type 0} (result : Result T E) → P → OnOk result P
on_ok (Ok x) holds = holds
on_ok (Err e) holds = tt

-- the status of a fault is 1 or 2
pub fault_is_one_or_two : (IsFault : ConfigError → Type 0) (text : List ℕ) (loaded : Result RouterConfig ℕ)
    → IfErr loaded (IsStatus IsFault text) → IfErr loaded (λ s. (s ≡ 1) ⊎ (s ≡ 2))
fault_is_one_or_two IsFault text (Ok site) is = tt
fault_is_one_or_two IsFault text (Err s) (inl one) = inl one
fault_is_one_or_two IsFault text (Err s) (inr (two, why)) = inr two

-- a run that succeeded, of a router that started as this text describes
pub routes_by_text : {R : Type 0} (text : List ℕ) (first last : RunningRouter R) (status : ℕ) → StartsByText text first
    → RunsTo first last (status == 0) → status ≡ 0 → RoutesByText R text
routes_by_text text first last status starts runs well = (first, last, starts, subst (λ (n : ℕ). RunsTo first last (n == 0)) well runs)
