-- Static routes and services of a router's file are kept in the core of that router, with its checks, limits
-- and counts.
use Rattle.std.proofs.Common.{◌≡◌, ◌≤◌, ◌+◌, ◌⊎◌, ◌∙◌, ℕ, List, [], ◌∷◌, refl, sym, ap, subst, inl, inr}
use Rattle.ipx_metrics.specs.MeteredRouter.{CountedView, CountsHeard}
use Rattle.ipx_static.specs.WithStatics.{HearsUnder, WithStaticsView}
use Rattle.ipx_static.specs.StaticRuns.{Asked, AsksOnceMore, Comes, ComesAs, DoStaticCalls, DoesStaticCall, IsAskedEachMinute, OffersItself, StaticCall, StaticCallAt, StaticsAreCountedSeparately, TellsItself, asked_by, asked_in, uncounted}
use Rattle.ipx_router.specs.AdvertisedEntries.{key_of_service}
use Rattle.ipx_config.specs.declared.site.RouterConfig.{RouterConfig}
use Rattle.ipx_config.specs.SitePorts.{router_ports}
use Rattle.ipx_site.specs.StaticsHold.{DependsOnRoute, DependsOnService, DoSiteCalls, DoesSiteCall, FailsNone, RoutesOfFilesHold, RoutesOfSitesHold, RunsAsSite, RunsByFile, ServicesOfFilesHold, ServicesOfSitesHold}
use Rattle.ipx_rate_limits.specs.RateLimiter.{HearsRateLimited, RateLimiterView}
use Rattle.ipx_control.specs.declared.rip.packet.RipEntry.{RipEntry}
use Rattle.ipx_control.specs.declared.sap.packet.ServiceEntry.{ServiceEntry}
use Rattle.ipx_site.specs.SiteCore.{SiteCore, SiteHears}
use Rattle.ipx_source_checks.specs.declared.failed_check.CheckedPort.{CheckedPort}

-- the core under checks and limits does a call without its counts, or the call's bytes were dropped
abbrev DoesBelow : ℕ → StaticCall → WithStaticsView CountedView → WithStaticsView CountedView → Type 0
DoesBelow now c old new = DoesStaticCall now c (uncounted old) (uncounted new)
    ⊎ ((port : ℕ) × (bytes : List ℕ) × (c ≡ Comes port bytes) × (new ≡ old))

comes_below : StaticsAreCountedSeparately → (now port : ℕ) (bytes : List ℕ) (old new : RateLimiterView (WithStaticsView CountedView))
    → HearsRateLimited (HearsUnder CountsHeard) old port bytes now new → DoesBelow now (Comes port bytes) old.core new.core
comes_below apart now port bytes old new (inl (inl x)) = inl (apart now (Comes port bytes) old.core new.core x.1.2)
comes_below apart now port bytes old new (inl (inr x)) = inr (port, bytes, refl, ap (λ (v : RateLimiterView (WithStaticsView CountedView)). v.core) x.3)
comes_below apart now port bytes old new (inr (inl (inl x))) = inl (apart now (Comes port bytes) old.core new.core x.1.2)
comes_below apart now port bytes old new (inr (inl (inr x))) = inr (port, bytes, refl, ap (λ (v : RateLimiterView (WithStaticsView CountedView)). v.core) x.3)
comes_below apart now port bytes old new (inr (inr (inl (inl x)))) = inl (apart now (Comes port bytes) old.core new.core x.1.2)
comes_below apart now port bytes old new (inr (inr (inl (inr x)))) = inr (port, bytes, refl, ap (λ (v : RateLimiterView (WithStaticsView CountedView)). v.core) x.3)
comes_below apart now port bytes old new (inr (inr (inr x))) = inl (apart now (Comes port bytes) old.core new.core x.3)

-- what comes in fails no source check
abbrev Passes : List CheckedPort → StaticCall → Type 0
Passes ports c = ComesAs (FailsNone ports) c

-- what fails a source check is dropped, and what the core below hears failed none
abbrev DoesOnceChecked : ℕ → StaticCall → List CheckedPort → WithStaticsView CountedView → WithStaticsView CountedView → Type 0
DoesOnceChecked now c ports old new = (DoesStaticCall now c (uncounted old) (uncounted new) × Passes ports c)
    ⊎ ((port : ℕ) × (bytes : List ℕ) × (c ≡ Comes port bytes) × (new ≡ old))

heard_below : StaticsAreCountedSeparately → (now port : ℕ) (bytes : List ℕ) (old new : SiteCore) → SiteHears old port bytes now new → DoesOnceChecked now (Comes port bytes) old.ports old.core.core new.core.core
heard_below apart now port bytes old new (inl dropped) = inr (port, bytes, refl, ap (λ (v : SiteCore). v.core.core) dropped.2)
heard_below apart now port bytes old new (inr heard) = elim (comes_below apart now port bytes old.core new.core heard.1) [
  | inl does ↦ inl (does, heard.0)
  | inr kept ↦ inr kept
]

one_below : StaticsAreCountedSeparately → (now : ℕ) (c : StaticCall) (old new : SiteCore) → DoesSiteCall now c old new → DoesOnceChecked now c old.ports old.core.core new.core.core
one_below apart now (Comes port bytes) old new h = heard_below apart now port bytes old new h
one_below apart now (Asked given) old new h = inl (apart now (Asked given) old.core.core new.core.core h.0.0, tt)
one_below apart now AsksOnceMore old new h = inl (apart now AsksOnceMore old.core.core new.core.core (ap (λ (v : SiteCore). v.core.core) h), tt)

-- no call changes which ports are checked
same_checks : (now : ℕ) (c : StaticCall) (old new : SiteCore) → DoesSiteCall now c old new → new.ports ≡ old.ports
same_checks now (Comes port bytes) old new (inl dropped) = ap (λ (v : SiteCore). v.ports) dropped.2
same_checks now (Comes port bytes) old new (inr heard) = ap (λ (v : SiteCore). v.ports) heard.2
same_checks now (Asked given) old new h = ap (λ (v : SiteCore). v.ports) h.1
same_checks now AsksOnceMore old new h = ap (λ (v : SiteCore). v.ports) h

-- the remaining calls, without some of those whose bytes were dropped. What comes in at them fails no check
abbrev AreLeft : List CheckedPort → List StaticCallAt → List StaticCallAt → Type 0
AreLeft ports [] left = left ≡ []
AreLeft ports (c ∷ cs) left = ((rest : List StaticCallAt) × (left ≡ c ∷ rest) × Passes ports c.call × AreLeft ports cs rest)
    ⊎ ((port : ℕ) × (bytes : List ℕ) × (c.call ≡ Comes port bytes) × AreLeft ports cs left)

all_below : StaticsAreCountedSeparately → (cs : List StaticCallAt) (old new : SiteCore) → DoSiteCalls cs old new
    → (left : List StaticCallAt) × AreLeft old.ports cs left × DoStaticCalls left (uncounted old.core.core) (uncounted new.core.core)
all_below apart [] old new is = ([], refl, ap (λ (v : SiteCore). uncounted v.core.core) is)
all_below apart (c ∷ cs) old new h =
    let (left, are, rest) = all_below apart cs h.0 new h.2 in
    let later : AreLeft old.ports cs left = subst (λ (ports : List CheckedPort). AreLeft ports cs left) (same_checks c.moment c.call old h.0 h.1) are in
    elim (one_below apart c.moment c.call old h.0 h.1) [
      | inl does ↦ (c ∷ left, inl (left, refl, does.1, later), (uncounted h.0.core.core, does.0, rest))
      | inr kept ↦ (
        left,
        inr (kept.0, kept.1, kept.2, later),
        subst (λ (it : WithStaticsView CountedView). DoStaticCalls left (uncounted it) (uncounted new.core.core)) kept.3 rest,
      )
    ]

last_asked : (ports : List CheckedPort) (cs left : List StaticCallAt) → AreLeft ports cs left → (asked : ℕ) → asked_in left asked ≡ asked_in cs asked
last_asked ports [] left is asked = ap (λ it. asked_in it asked) is
last_asked ports (c ∷ cs) left are asked = elim are [
  | inl x ↦ ap (λ it. asked_in it asked) x.1 ∙ last_asked ports cs x.0 x.3 (asked_by c.moment c.call asked)
  | inr x ↦ last_asked ports cs left x.3 asked ∙ sym (ap (λ it. asked_in cs (asked_by c.moment it asked)) x.2)
]

-- a condition on what fails no check
abbrev OncePassed : List CheckedPort → (ℕ → List ℕ → Type 0) → ℕ → List ℕ → Type 0
OncePassed ports IsSuch port bytes = FailsNone ports port bytes → IsSuch port bytes

passed : (ports : List CheckedPort) (IsSuch : ℕ → List ℕ → Type 0) (c : StaticCall) → Passes ports c → ComesAs (OncePassed ports IsSuch) c → ComesAs IsSuch c
passed ports IsSuch (Comes port bytes) none h = h none
passed ports IsSuch (Asked given) none h = h
passed ports IsSuch AsksOnceMore none h = h

each_minute : (ports : List CheckedPort) (IsSuch : ℕ → List ℕ → Type 0) (cs left : List StaticCallAt) → AreLeft ports cs left → (asked : ℕ)
    → IsAskedEachMinute (OncePassed ports IsSuch) cs asked → IsAskedEachMinute IsSuch left asked
each_minute ports IsSuch [] left is asked h = subst (λ it. IsAskedEachMinute IsSuch it asked) (sym is) h
each_minute ports IsSuch (c ∷ cs) left are asked h = elim are [
  | inl x ↦
      subst (λ it. IsAskedEachMinute IsSuch it asked) (sym x.1)
      (h.0, passed ports IsSuch c.call x.2 h.1, each_minute ports IsSuch cs x.0 x.3 (asked_by c.moment c.call asked) h.2)
  | inr x ↦ each_minute ports IsSuch cs left x.3 asked (subst (λ it. IsAskedEachMinute (OncePassed ports IsSuch) cs (asked_by c.moment it asked)) x.2 h.2)
]

-- the core below runs by the remaining calls
run_below : StaticsAreCountedSeparately → (s : RouterConfig) (start : ℕ) (calls : List StaticCallAt) (old new : SiteCore) → RunsAsSite s start calls old new
    → (left : List StaticCallAt) × AreLeft old.ports calls left × RunsByFile s start left (uncounted old.core.core) (uncounted new.core.core)
run_below apart s start calls old new run =
    let (left, are, goes_on) = all_below apart calls run.first new run.goes_on in (
      left,
      subst (λ (ports : List CheckedPort). AreLeft ports calls left) (same_checks start (Asked run.given) old run.first run.begins) are,
      record {
        to_hear = run.to_hear;
        ports = run.ports;
        given = run.given;
        first = uncounted run.first.core.core;
        begins = apart start (Asked run.given) old.core.core run.first.core.core run.begins.0.0;
        goes_on = goes_on;
        room = run.room;
      },
    )

pub routes_of_sites : StaticsAreCountedSeparately → RoutesOfFilesHold → RoutesOfSitesHold
routes_of_sites apart law text s described start calls old new run h at e word quiet now within =
    let (left, are, below) = run_below apart s start calls old new run in
    law text s described start left (uncounted old.core.core) (uncounted new.core.core) below h at e word
    (λ n by. each_minute old.ports (λ port bytes. (x : RipEntry) → DependsOnRoute s (uncounted old.core.core) (uncounted new.core.core) h e x → TellsItself (router_ports s.ports.items) n x.network port bytes → ⊥) calls left are start (quiet n by))
    now (subst (λ it. now ≤ it + 60000) (sym (last_asked old.ports calls left are start)) within)

pub services_of_sites : StaticsAreCountedSeparately → ServicesOfFilesHold → ServicesOfSitesHold
services_of_sites apart law text s described start calls old new run h at e word quiet now within =
    let (left, are, below) = run_below apart s start calls old new run in
    law text s described start left (uncounted old.core.core) (uncounted new.core.core) below h at e word
    (λ n by. each_minute old.ports (λ port bytes. (x : ServiceEntry) → DependsOnService s (uncounted old.core.core) (uncounted new.core.core) h e x → OffersItself (router_ports s.ports.items) n (key_of_service x) port bytes → ⊥) calls left are start (quiet n by))
    now (subst (λ it. now ≤ it + 60000) (sym (last_asked old.ports calls left are start)) within)
