-- No call changes the address of a host or the ports of a router, so what was in place stays so.
use Rattle.std.proofs.Common.{◌≡◌, ℕ, List, [], ◌∷◌, ◌++◌, Option, None, Some, refl, sym, ◌∙◌, inl, inr, ap, subst}
use Rattle.std.specs.Prelude.{slice_get}
use Rattle.ipx_router.specs.RouterPackets.{SendingView}
use Rattle.ipx_router.specs.RouterView.{RouterView}
use Rattle.ipx_router.specs.declared.port.Port.{Port}
use Rattle.spx_messages.specs.Arrives.{Answers}
use Rattle.spx_messages.specs.EndpointView.{EndpointView}
use Rattle.spx_messages.specs.declared.arrived.Arrived.{Arrived}
use Rattle.spx_messages.specs.declared.arrived.Arrived.TheVariants as Arriveds
use Rattle.ipx_carrier.specs.OutcomeCounters.{outcome_counted}
use Rattle.ipx_carrier.specs.RouterCore.{CoreView}
use Rattle.ipx_carrier.specs.RouterQueues.{IsNotAdvertised}
use Rattle.theory_processes.specs.Course.{AtHost, AtRouter, Call, Came, HostHeard, RouterHeard, given_on, host_mail, on_network, router_mail}
use Rattle.theory_processes.specs.HostCalls.{AsksAgain, Begins, Closes, Dials, DoesHostCall, Fails, Gives, HandsIn, Hears, HostCall, Paces, Releases, Takes}
use Rattle.theory_processes.specs.Loops.{AreInPlace, HostIsThere, IsInPlace, RouterIsThere, mail_of, mail_of_host, mail_of_router}
use Rattle.theory_processes.specs.RouterCalls.{DoesRouterCall, HearsOn, HearOutOfMemoryOn, NextOutOfMemoryAt, Passes, RouterCall, StartsAgain, network_of}
use Rattle.theory_processes.specs.Site.{Datagram, Site}
use Rattle.theory_processes.specs.Together.{AreInside, inside_at, router_inside}
use Rattle.theory_processes.proofs.Waiting.{answer_router, taken_router}

-- ---- a host

answer_stays : (old new : EndpointView) (bytes : List ℕ) (now : ℕ) (a : Arrived) → Answers old bytes now a new → new.network ≡ old.network
answer_stays old new bytes now (Arriveds.Bad f) is = is.1.same.self.network
answer_stays old new bytes now Arriveds.NotOurs is = is.1.same.self.network
answer_stays old new bytes now (Arriveds.BadSpx f) is = is.1.same.self.network
answer_stays old new bytes now Arriveds.NoListener is = is.1.same.self.network
answer_stays old new bytes now Arriveds.NoRoom is = is.1.same.self.network
answer_stays old new bytes now Arriveds.Stranger is = is.1.same.self.network
answer_stays old new bytes now (Arriveds.Accepted id) is = is.adds.self.network
answer_stays old new bytes now (Arriveds.Link id r) is = elim is [ inl again ↦ again.0.changes.self.network | inr read ↦ read.changes.self.network ]

pub host_stays : (call : HostCall) (old new : EndpointView) → DoesHostCall call old new → new.network ≡ old.network
host_stays (Hears source bytes now answer) old new does = answer_stays old new bytes now answer does.answers
host_stays (Gives now given) old new does = does.3.self.network
host_stays (Dials socket to buffers now id) old new does = does.adds.self.network
host_stays (HandsIn id m) old new does = does.queues.becomes.changes.self.network
host_stays (Closes id) old new does = does.becomes.changes.self.network
host_stays (Takes id answer) old new does = does.changes.self.network
host_stays (Paces id window manual) old new does = does.changes.self.network
host_stays (AsksAgain id place) old new does = does.changes.self.network
host_stays (Releases id) old new does = does.releases.self.network
host_stays (Begins socket buffers) old new does = does.listens.network
host_stays Fails old new does = does.self.network

-- ---- a router

abbrev pub ports_of : CoreView → List Port
ports_of core = core.router.ports

pub not_told_stays : (old new : RouterView) (now : ℕ) (queue : List SendingView) → IsNotAdvertised old now queue new → new.ports ≡ old.ports
not_told_stays old new now queue n = elim n [ inl refused ↦ refused.4.ports | inr lost ↦ lost.1.2.ports ]

pub router_stays : (call : RouterCall) (old new : CoreView) → DoesRouterCall call old new → ports_of new ≡ ports_of old
router_stays (HearsOn source port bytes now) old new does =
    ap ports_of does.3 ∙ ap (λ (z : RouterView). z.ports) (answer_router does.0 (record old { router = does.1; outcomes = outcome_counted does.0 old.outcomes })) ∙ does.2.rest.ports
router_stays (HearOutOfMemoryOn port bytes now) old new does = elim does.1 [
  | inl refused ↦ ap ports_of refused.0 ∙ refused.1.1.ports
  | inr lost ↦ ap ports_of lost.1 ∙ lost.2.rest.ports
]
router_stays (Passes now given) old new does = ap (λ (z : RouterView). z.ports) (taken_router does.0 new given does.2) ∙ ap ports_of does.1.5 ∙ does.1.4.2.ports
router_stays (NextOutOfMemoryAt now) old new does = elim does [
  | inl start ↦ ap ports_of start.1
  | inr tell ↦ ap ports_of tell.3 ∙ not_told_stays old.router tell.1 now new.queue tell.4
]
router_stays StartsAgain old new does = ap ports_of does

-- what it receives and gives depends on its ports alone
pub heard_same : (call : RouterCall) (c d : CoreView) (mail : List Datagram) → ports_of d ≡ ports_of c → RouterHeard call c mail → RouterHeard call d mail
heard_same (HearsOn source port bytes now) c d mail same heard =
    subst (λ n. Came source (on_network n bytes) mail) (ap (λ ps. network_of (slice_get ps port)) (sym same)) heard
heard_same (HearOutOfMemoryOn port bytes now) c d mail same heard = tt
heard_same (Passes now given) c d mail same heard = tt
heard_same (NextOutOfMemoryAt now) c d mail same heard = tt
heard_same StartsAgain c d mail same heard = tt

pub mail_same : (call : RouterCall) (c d : CoreView) → ports_of d ≡ ports_of c → router_mail call d ≡ router_mail call c
mail_same (HearsOn source port bytes now) c d same = refl
mail_same (HearOutOfMemoryOn port bytes now) c d same = refl
mail_same (Passes now given) c d same = ap (λ (ps : List Port). given_on (λ port. network_of (slice_get ps port)) given) same
mail_same (NextOutOfMemoryAt now) c d same = refl
mail_same StartsAgain c d same = refl

-- ---- so networks do not change

pub record SameNetworks (a b : Site) : Type 0 where
  pub hosts : (k : ℕ) (e : EndpointView) → slice_get a.hosts k ≡ Some e → (f : EndpointView) × (slice_get b.hosts k ≡ Some f) × (f.network ≡ e.network)
  pub routers : (k : ℕ) (c : CoreView) → slice_get a.routers k ≡ Some c → (d : CoreView) × (slice_get b.routers k ≡ Some d) × (ports_of d ≡ ports_of c)

module _ (a b : Site) (same : SameNetworks a b) where
  abbrev Kept : Call → List Datagram → Type 0
  Kept call mail = IsInPlace b call mail × (mail_of b call ≡ mail_of a call)

  host_on : (k : ℕ) (call : HostCall) (mail : List Datagram) (o : Option EndpointView) → slice_get a.hosts k ≡ o → HostIsThere o call mail → Kept (AtHost k call) mail
  host_on k call mail None at there = absurd there
  host_on k call mail (Some e) at there =
      let it = same.hosts k e at in (
        subst (λ o. HostIsThere o call mail) (sym it.1) (subst (λ n. HostHeard call n mail) (sym it.2) there),
        ap (λ o. mail_of_host o call) it.1 ∙ ap (host_mail call) it.2 ∙ ap (λ o. mail_of_host o call) (sym at),
      )

  router_on : (k : ℕ) (call : RouterCall) (mail : List Datagram) (o : Option CoreView) → slice_get a.routers k ≡ o → RouterIsThere o call mail → Kept (AtRouter k call) mail
  router_on k call mail None at there = absurd there
  router_on k call mail (Some c) at there =
      let it = same.routers k c at in (
        subst (λ o. RouterIsThere o call mail) (sym it.1) (heard_same call c it.0 mail it.2 there),
        ap (λ o. mail_of_router o call) it.1 ∙ mail_same call c it.0 it.2 ∙ ap (λ o. mail_of_router o call) (sym at),
      )

  place_on : (call : Call) (mail : List Datagram) → IsInPlace a call mail → Kept call mail
  place_on (AtHost k call) mail is = host_on k call mail (slice_get a.hosts k) refl is
  place_on (AtRouter k call) mail is = router_on k call mail (slice_get a.routers k) refl is

  pub places_on : (calls : List Call) (mail : List Datagram) → AreInPlace a calls mail → AreInPlace b calls mail
  places_on [] mail are = tt
  places_on (call ∷ calls) mail are =
      let one : Kept call mail = place_on call mail are.0 in
      (one.0, subst (λ ds. AreInPlace b calls (mail ++ ds)) (sym one.1) (places_on calls (mail ++ mail_of a call) are.1))

  router_inside_on : (k : ℕ) (call : RouterCall) (o : Option CoreView) → slice_get a.routers k ≡ o → inside_at o call → inside_at (slice_get b.routers k) call
  router_inside_on k call None at is = absurd is
  router_inside_on k call (Some c) at is =
      let it = same.routers k c at in
      subst (λ o. inside_at o call) (sym it.1) (subst (λ ps. router_inside ps call) (sym it.2) is)

  pub inside_on : (calls : List Call) → AreInside a calls → AreInside b calls
  inside_on [] are = tt
  inside_on (AtHost k call ∷ calls) are = (are.0, inside_on calls are.1)
  inside_on (AtRouter k call ∷ calls) are = (router_inside_on k call (slice_get a.routers k) refl are.0, inside_on calls are.1)
