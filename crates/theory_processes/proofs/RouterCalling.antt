-- Each call on the core of `ipx route`, as the lives of some routers.
use Rattle.std.proofs.Common.{◌≡◌, ◌⊎◌, ℕ, All, true, List, [], ◌++◌, Option, None, Some, refl, sym, ◌∙◌, inl, inr, ap, subst}
use Rattle.std.specs.Prelude.{Contains, flat_map}
use Rattle.std.proofs.lemmas.Grind.{flat_map-append}
use Rattle.std.proofs.lemmas.List.Elements.{Contains-append_left, Contains-append_right}
use Rattle.ipx_router.specs.NewRouter.{IsOwnNetwork}
use Rattle.ipx_router.specs.RouterPackets.{SendingView}
use Rattle.ipx_router.specs.RouterView.{RouterView}
use Rattle.ipx_router.specs.declared.port.Port.{Port}
use Rattle.ipx_carrier.specs.OutcomeCounters.{outcome_counted}
use Rattle.ipx_carrier.specs.PriorityRouterCore.{PriorityCoreView, PriorityGives, PriorityHears, PriorityNextOutOfMemory, TakesByPriority}
use Rattle.ipx_carrier.specs.RouterQueues.{given_of}
use Rattle.ipx_carrier.specs.Turns.{Given}
use Rattle.ipx_metrics.specs.MeteredRouter.{CountedView, CountsAsItGives, CountsHeard, CountsMissed, CountsWithheld, without_counts}
use Rattle.ipx_static.specs.StaticAdvertisements.{AreStaticAdvertisements}
use Rattle.ipx_static.specs.WithStatics.{GivesWithStatics, HearOutOfMemoryUnder, HearsUnder, NextOutOfMemoryWithStatics, WithStaticsView}
use Rattle.ipx_rate_limits.specs.RateLimiter.{HearOutOfMemoryBelow, HearsRateLimited, RateLimiterView}
use Rattle.ipx_site.specs.SiteCore.{SiteCore, SiteHears}
use Rattle.theory_processes.specs.HostCalls.{Source}
use Rattle.theory_processes.specs.Loops.{if_given, router_gave}
use Rattle.theory_processes.specs.RouterCalls.{HearsOn, HearOutOfMemoryOn, NextOutOfMemoryAt, Passes, RouterCall, StartsAgain}
use Rattle.theory_processes.specs.Lives.{DoneByLives, IsSound, Life, SiteCallsAreRouterCalls, given_by, ports_in, router_in}
use Rattle.theory_processes.proofs.Holding.{contains_cases}
use Rattle.theory_processes.proofs.Living.{Lives, answer_lives, first_lives, told_lives}
use Rattle.theory_processes.proofs.Queues.{Queued, answer_keeps, answer_queued, first_queued, given_queued, ready_queued, sent_in, taken_queued, taken_router}
use Rattle.theory_processes.proofs.Quiet.{AllQuiet, OneIpx, OneRip, OneSap, statics_quiet}
use Rattle.theory_processes.proofs.Statics.{Keeps, KeepsStatics, keeps_same, missed, ports_of, statics_heard, statics_missed}
use Rattle.theory_processes.proofs.Lists.{contains_none}
use Rattle.theory_processes.proofs.Staying.{not_told_stays}

abbrev W : Type 0
W = WithStaticsView CountedView

-- ---- what a call leaves

-- packets that waited, or that lives give
abbrev From : {ports : List Port} {call : RouterCall} → CountedView → List (Life ports call) → SendingView → Type 0
From old lives s = Queued old.queues s ⊎ Contains (given_by lives) (given_of s)

-- with the packets that it gave
record Leaves (call : RouterCall) (old new : W) (lives : List (Life (ports_of old.core) call)) : Type 0 where
  pub queued : (s : SendingView) → Queued new.core.queues s → From old.core lives s
  pub gave : (g : Given) → Contains (router_gave call) g → (s : SendingView) × (given_of s ≡ g) × From old.core lives s
  pub ports : ports_of new.core ≡ ports_of old.core
  pub statics : new.advertisements ≡ old.advertisements

done : (call : RouterCall) (old new : SiteCore) → IsSound old → (lives : List (Life (ports_in old) call)) → Leaves call old.core.core new.core.core lives → DoneByLives call old new
done call old new sound lives l = record {
  lives = lives;
  gave = λ g is. (let it = l.gave g is in elim it.2 [ inl was ↦ inl (it.0, was, it.1) | inr by ↦ inr (subst (Contains (given_by lives)) it.1 by) ]);
  waits = λ g is. elim (l.queued is.0 is.1) [ inl was ↦ inl (is.0, was, is.2) | inr by ↦ inr (subst (Contains (given_by lives)) is.2 by) ];
  same = l.ports;
  sound = record {
    networks = subst (All IsOwnNetwork) (sym l.ports) sound.networks;
    neighbours = sound.neighbours;
    statics = subst (AreStaticAdvertisements sound.neighbours) (sym l.statics) sound.statics;
  };
}

-- a call that gives nothing, after which nothing more waits
rests : (call : RouterCall) (old new : W) → router_gave call ≡ [] → KeepsStatics old new → Leaves call old new []
rests call old new none k = record {
  queued = λ s is. inl (k.core.queued s is);
  gave = λ g is. absurd (contains_none g (subst (λ gs. Contains gs g) none is));
  ports = k.core.ports;
  statics = k.statics;
}

same_below : (old new : W) → new ≡ old → KeepsStatics old new
same_below old new same = record { core = keeps_same old.core new.core (ap (λ (w : W). w.core) same); statics = ap (λ (w : W). w.advertisements) same }

-- ---- it receives

-- what came is dropped, or the router below receives it
abbrev Arrives : W → ℕ → List ℕ → ℕ → W → Type 0
Arrives old port bytes now new = (new ≡ old) ⊎ HearsUnder CountsHeard old port bytes now new

limited : (old new : RateLimiterView W) (port : ℕ) (bytes : List ℕ) (now : ℕ) → HearsRateLimited (HearsUnder CountsHeard) old port bytes now new → Arrives old.core port bytes now new.core
limited old new port bytes now h = elim h [
  | inl query ↦ elim query [ inl heard ↦ inr heard.1.2 | inr drop ↦ inl (ap (λ (c : RateLimiterView W). c.core) drop.3) ]
  | inr others ↦ elim others [
    | inl narrow ↦ elim narrow [ inl heard ↦ inr heard.1.2 | inr drop ↦ inl (ap (λ (c : RateLimiterView W). c.core) drop.3) ]
    | inr more ↦ elim more [
      | inl directed ↦ elim directed [ inl heard ↦ inr heard.1.2 | inr drop ↦ inl (ap (λ (c : RateLimiterView W). c.core) drop.3) ]
      | inr any ↦ inr any.3
    ]
  ]
]

-- or it runs out of memory
lost_below : (old new : RateLimiterView W) (port : ℕ) (bytes : List ℕ) (now : ℕ) → HearOutOfMemoryBelow (HearOutOfMemoryUnder CountsMissed) old port bytes now new
    → HearOutOfMemoryUnder CountsMissed old.core port bytes now new.core
lost_below old new port bytes now h = elim h [
  | inl query ↦ query.1.2
  | inr others ↦ elim others [
    | inl narrow ↦ narrow.1.2
    | inr more ↦ elim more [ inl directed ↦ directed.1.2 | inr any ↦ any.3 ]
  ]
]

arrives : (old new : SiteCore) (port : ℕ) (bytes : List ℕ) (now : ℕ) → SiteHears old port bytes now new → Arrives old.core.core port bytes now new.core.core
arrives old new port bytes now h = elim h [
  | inl failed ↦ inl (ap (λ (c : SiteCore). c.core.core) failed.2)
  | inr passed ↦ limited old.core new.core port bytes now passed.1
]

answered : (old new : W) (source : Source) (port : ℕ) (bytes : List ℕ) (now : ℕ) → All IsOwnNetwork (ports_of old.core) → HearsUnder CountsHeard old port bytes now new
    → (lives : List (Life (ports_of old.core) (HearsOn source port bytes now))) × Leaves (HearsOn source port bytes now) old new lives
answered old new source port bytes now own h =
    let p : PriorityHears (without_counts old.core) port bytes now (without_counts new.core) = h.0.0 in
    let heard : PriorityCoreView = record (without_counts old.core) { router = p.1; outcomes = outcome_counted p.0 old.core.outcomes } in
    let made : Lives (ports_of old.core) (HearsOn source port bytes now) (sent_in p.0) = answer_lives (ports_of old.core) old.core.router p.1 old.core.outcomes source port bytes now p.0 own refl p.2 in (
      made.lives,
      record {
        queued = λ s is. elim (answer_queued p.0 heard s (subst (λ (c : PriorityCoreView). Queued c.queues s) p.3 is)) [ inl was ↦ inl was | inr new ↦ inr (made.gave s new) ];
        gave = λ g is. absurd (contains_none g is);
        ports = ap (λ (c : PriorityCoreView). c.router.ports) p.3 ∙ ap (λ (r : RouterView). r.ports) (answer_keeps p.0 heard) ∙ p.2.rest.ports;
        statics = ap (λ (w : W). w.advertisements) h.1;
      },
    )

-- ---- it is polled

both : (ports : List Port) (call : RouterCall) (a b : List (Life ports call)) → given_by (a ++ b) ≡ given_by a ++ given_by b
both ports call a b = flat_map-append (λ (l : Life ports call). flat_map router_gave l.calls) a b

polled : (mid : CountedView) (new : CountedView) (now : ℕ) (given : Option Given) (ports : List Port) (call : RouterCall) → All IsOwnNetwork (ports_of mid) → ports_of mid ≡ ports
    → PriorityGives (without_counts mid) now given (without_counts new)
    → (lives : List (Life ports call)) × ((s : SendingView) → Queued new.queues s → From mid lives s)
    × ((g : Given) → Contains (if_given given) g → (s : SendingView) × (given_of s ≡ g) × From mid lives s) × (ports_of new ≡ ports_of mid)
polled mid new now given ports call own there g =
    let first : List SendingView = g.1.0 in
    let told : List SendingView = g.1.1 in
    let router : RouterView = g.1.2 in
    let started : PriorityCoreView = record (without_counts mid) { router = router; started = true } in
    let ones : Lives ports call first = first_lives ports call mid.router mid.outcomes mid.started first own there g.1.3 in
    let twos : Lives ports call told = told_lives ports call mid.router router mid.outcomes now told own there g.1.4 in
    let lives : List (Life ports call) = ones.lives ++ twos.lives in
    let ready : (s : SendingView) → Queued g.0.queues s → From mid lives s = λ s is. elim (ready_queued first told started s (subst (λ (c : PriorityCoreView). Queued c.queues s) g.1.5 is)) [
      | inl was ↦ inl was
      | inr new' ↦ elim new' [
        | inl of_first ↦ inr (subst (λ gs. Contains gs (given_of s)) (sym (both ports call ones.lives twos.lives)) (Contains-append_left (given_by ones.lives) (given_by twos.lives) (given_of s) (ones.gave s of_first)))
        | inr of_told ↦ inr (subst (λ gs. Contains gs (given_of s)) (sym (both ports call ones.lives twos.lives)) (Contains-append_right (given_by ones.lives) (given_by twos.lives) (given_of s) (twos.gave s of_told)))
      ]
    ] in (
      lives,
      λ s is. ready s (taken_queued g.0 (without_counts new) given g.2 s is),
      λ p is. from given g.2 lives ready p is,
      ap (λ (r : RouterView). r.ports) (taken_router g.0 (without_counts new) given g.2) ∙ ap (λ (c : PriorityCoreView). c.router.ports) g.1.5 ∙ g.1.4.2.ports,
    )
  where
    from : (given' : Option Given) → TakesByPriority g.0 given' (without_counts new) → (lives : List (Life ports call)) → ((s : SendingView) → Queued g.0.queues s → From mid lives s)
        → (p : Given) → Contains (if_given given') p → (s : SendingView) × (given_of s ≡ p) × From mid lives s
    from None t lives ready p is = absurd (contains_none p is)
    from (Some q) t lives ready p is =
        let it = given_queued g.0 (without_counts new) q t in
        let same : q ≡ p = elim (contains_cases q [] p is) [ inl here ↦ here | inr later ↦ absurd (contains_none p later) ] in
        (it.0, it.2 ∙ same, ready it.0 it.1)

earlier : {ports : List Port} {call : RouterCall} (old mid : CountedView) → Keeps old mid → (lives : List (Life ports call)) → (s : SendingView) → From mid lives s → From old lives s
earlier old mid k lives s is = elim is [ inl was ↦ inl (k.queued s was) | inr by ↦ inr by ]

gives : (old new : W) (now : ℕ) (given : Option Given) → All IsOwnNetwork (ports_of old.core) → AllQuiet old.advertisements → GivesWithStatics CountsHeard CountsAsItGives old now given new
    → (lives : List (Life (ports_of old.core) (Passes now given))) × Leaves (Passes now given) old new lives
gives old new now given own quiet g =
    let k : KeepsStatics old g.0 = statics_heard now old g.0 quiet g.1 in
    let call : RouterCall = Passes now given in
    let p = polled g.0.core new.core now given (ports_of old.core) call (subst (All IsOwnNetwork) (sym k.core.ports) own) k.core.ports g.2.0 in (
      p.0,
      record {
        queued = λ s is. earlier old.core g.0.core k.core p.0 s (p.1 s is);
        gave = λ q is. (let it = p.2 q is in (it.0, it.1, earlier old.core g.0.core k.core p.0 it.0 it.2));
        ports = p.3 ∙ k.core.ports;
        statics = ap (λ (w : W). w.advertisements) g.3 ∙ k.statics;
      },
    )

-- ---- out of memory

withheld : (mid new : CountedView) (now : ℕ) (ports : List Port) (call : RouterCall) → All IsOwnNetwork (ports_of mid) → ports_of mid ≡ ports → PriorityNextOutOfMemory (without_counts mid) now (without_counts new)
    → (lives : List (Life ports call)) × ((s : SendingView) → Queued new.queues s → From mid lives s) × (ports_of new ≡ ports_of mid)
withheld mid new now ports call own there w = elim w [
  | inl start ↦ (
    [],
    λ s is. inl (subst (λ (c : PriorityCoreView). Queued c.queues s) start.1 is),
    ap (λ (c : PriorityCoreView). c.router.ports) start.1,
  )
  | inr tell ↦
      let started : PriorityCoreView = record (without_counts mid) { router = tell.1; started = true } in
      let ones : Lives ports call tell.0 = first_lives ports call mid.router mid.outcomes mid.started tell.0 own there tell.2 in (
        ones.lives,
        λ s is. elim (first_queued tell.0 started s (subst (λ (c : PriorityCoreView). Queued c.queues s) tell.3 is)) [ inl was ↦ inl was | inr new' ↦ inr (ones.gave s new') ],
        ap (λ (c : PriorityCoreView). c.router.ports) tell.3 ∙ not_told_stays mid.router tell.1 now new.queues.own tell.4,
      )
]

out_of_memory : (old new : W) (now : ℕ) → All IsOwnNetwork (ports_of old.core) → AllQuiet old.advertisements → NextOutOfMemoryWithStatics CountsHeard CountsMissed CountsWithheld old now new
    → (lives : List (Life (ports_of old.core) (NextOutOfMemoryAt now))) × Leaves (NextOutOfMemoryAt now) old new lives
out_of_memory old new now own quiet m = elim m [
  | inl hearing ↦ (
    [],
    rests (NextOutOfMemoryAt now) old new refl
        (record { core = statics_missed now old.advertisements old.core new.core quiet hearing.1; statics = ap (λ (w : W). w.advertisements) hearing.2 }),
  )
  | inr asked ↦
      let k : KeepsStatics old asked.0 = statics_heard now old asked.0 quiet asked.1 in
      let call : RouterCall = NextOutOfMemoryAt now in
      let p = withheld asked.0.core new.core now (ports_of old.core) call (subst (All IsOwnNetwork) (sym k.core.ports) own) k.core.ports asked.2.0 in (
        p.0,
        record {
          queued = λ s is. earlier old.core asked.0.core k.core p.0 s (p.1 s is);
          gave = λ g is. absurd (contains_none g is);
          ports = p.2 ∙ k.core.ports;
          statics = ap (λ (w : W). w.advertisements) asked.3 ∙ k.statics;
        },
      )
]

-- ---- any call

module _ (one_ipx : OneIpx) (one_rip : OneRip) (one_sap : OneSap) where
  quiet : (core : SiteCore) → IsSound core → AllQuiet core.core.core.advertisements
  quiet core sound = statics_quiet one_ipx one_rip one_sap sound.neighbours core.core.core.advertisements sound.statics

  pub call_done : SiteCallsAreRouterCalls
  call_done (HearsOn source port bytes now) old new sound does = elim (arrives old new port bytes now does) [
    | inl dropped ↦ done (HearsOn source port bytes now) old new sound [] (rests (HearsOn source port bytes now) old.core.core new.core.core refl (same_below old.core.core new.core.core dropped))
    | inr heard ↦
        let it = answered old.core.core new.core.core source port bytes now sound.networks heard in
        done (HearsOn source port bytes now) old new sound it.0 it.1
  ]
  call_done (HearOutOfMemoryOn port bytes now) old new sound does =
      done (HearOutOfMemoryOn port bytes now) old new sound []
      (rests (HearOutOfMemoryOn port bytes now) old.core.core new.core.core refl
      (let below = lost_below old.core new.core port bytes now does.1 in
      record { core = missed (router_in old) (router_in new) port bytes now below.0.0; statics = ap (λ (w : W). w.advertisements) below.1 }))
  call_done (Passes now given) old new sound does =
      let it = gives old.core.core new.core.core now given sound.networks (quiet old sound) does.0.0 in
      done (Passes now given) old new sound it.0 it.1
  call_done (NextOutOfMemoryAt now) old new sound does =
      let it = out_of_memory old.core.core new.core.core now sound.networks (quiet old sound) does.0.0 in
      done (NextOutOfMemoryAt now) old new sound it.0 it.1
  call_done StartsAgain old new sound does =
      done StartsAgain old new sound []
      (rests StartsAgain old.core.core new.core.core refl
      (record {
        core = record { queued = λ s is. subst (λ (c : SiteCore). Queued (router_in c).queues s) does is; ports = ap ports_in does };
        statics = ap (λ (c : SiteCore). c.core.core.advertisements) does;
      }))
