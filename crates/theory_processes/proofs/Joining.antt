-- Hosts and routers of `ipx route`, in whatever way their calls interleave, take a course.
use Rattle.std.proofs.Common.{◌≡◌, ◌⊎◌, ◌==◌, ℕ, zero, suc, true, false, List, [], ◌∷◌, ◌++◌, map, set, Option, None, Some, refl, sym, ◌∙◌, inl, inr, ap, subst, if◌then◌else◌}
use Rattle.std.specs.Prelude.{Contains, slice_get}
use Rattle.std.proofs.lemmas.Bool.{cases_eq, cond-false, cond-true, ne_eqb}
use Rattle.std.proofs.lemmas.Bool.Decides.{Decides-eqb}
use Rattle.std.proofs.lemmas.List.Elements.{Contains-append_cases, Contains-append_left, Contains-append_right}
use Rattle.spx_messages.specs.EndpointView.{EndpointView}
use Rattle.ipx_carrier.specs.RouterCore.{CoreView}
use Rattle.ipx_carrier.specs.Turns.{Given}
use Rattle.ipx_site.specs.SiteCore.{SiteCore}
use Rattle.theory_processes.specs.Course.{AtHost, AtRouter, Call, DoesCall, HostHeard, IsNewCore, RouterHeard, connections_after, host_mail, host_outside, on_network, router_mail}
use Rattle.theory_processes.specs.HostCalls.{AsksAgain, Begins, ByACore, Closes, Dials, DoesHostCall, Fails, FromOutside, Gives, HandsIn, Hears, HostCall, Paces, Releases, Takes}
use Rattle.theory_processes.specs.Loops.{AreInPlace, HostIsThere, HostRuns, RouterIsThere, host_calls, mail_of, mail_of_host, mail_of_router, router_calls}
use Rattle.theory_processes.specs.RouterCalls.{RouterCall}
use Rattle.theory_processes.specs.Site.{Datagram, Site}
use Rattle.theory_processes.specs.Lives.{DoneByLives, IsSound, SiteCallsAreRouterCalls, WaitsIn, given_by, ports_in}
use Rattle.theory_processes.specs.SiteCalls.{SiteRuns}
use Rattle.theory_processes.specs.Together.{AreInside, RunEachAlone, RunningRoutersTakeCourses, host_inside, inside_at, places_of, router_inside, with_ports_of}
use Rattle.theory_processes.proofs.Adding.{AllNew, Goes, Grows, Lived, adding, came_on, heard_on, leaves_on, lives_go, mail_given}
use Rattle.theory_processes.proofs.Staying.{SameNetworks, host_stays, inside_on, places_on}
use Rattle.theory_processes.proofs.Lists.{get_map, get_other, get_set, get_set_here, map_got, same_some}

own_test : (j : ℕ) → (j == j) ≡ true
own_test j = (Decides-eqb j j).1 refl

-- ---- what is so between calls

-- a site has these hosts, and all that was given. So it has all that waits in the routers
record Agrees (es : List EndpointView) (cs : List SiteCore) (t : Site) (mail : List Datagram) : Type 0 where
  pub hosts : t.hosts ≡ es
  pub given : Grows mail t.mail
  pub waits : (k : ℕ) (c : SiteCore) → slice_get cs k ≡ Some c → (g : Given) → WaitsIn c g → Contains t.mail (leaves_on (ports_in c) g)
  pub sound : (k : ℕ) (c : SiteCore) → slice_get cs k ≡ Some c → IsSound c

abbrev Later : List EndpointView → List Call → Type 0
Later ends calls = (es : List EndpointView) (cs : List SiteCore) (t : Site) (mail : List Datagram) → Agrees es cs t mail → RunEachAlone calls es ends cs → AreInPlace (places_of es cs) calls mail
    → Goes (AreInside (places_of es cs) calls) calls es ends t

-- ---- a call of a host

host_heard_on : (call : HostCall) (e : EndpointView) (mail more : List Datagram) → Grows mail more → HostHeard call e.network mail → HostHeard call e.network more
host_heard_on (Hears source bytes now answer) e mail more grows heard = came_on source (on_network e.network bytes) mail more grows heard
host_heard_on (Gives now given) e mail more grows heard = tt
host_heard_on (Dials socket to buffers now id) e mail more grows heard = tt
host_heard_on (HandsIn id m) e mail more grows heard = tt
host_heard_on (Closes id) e mail more grows heard = tt
host_heard_on (Takes id answer) e mail more grows heard = tt
host_heard_on (Paces id window manual) e mail more grows heard = tt
host_heard_on (AsksAgain id place) e mail more grows heard = tt
host_heard_on (Releases id) e mail more grows heard = tt
host_heard_on (Begins socket buffers) e mail more grows heard = tt
host_heard_on Fails e mail more grows heard = tt

none_outside : (call : HostCall) (e : EndpointView) → host_inside call → host_outside call e.network ≡ []
none_outside (Hears ByACore bytes now answer) e inside = refl
none_outside (Hears FromOutside bytes now answer) e inside = absurd (cc inside)
none_outside (Gives now given) e inside = refl
none_outside (Dials socket to buffers now id) e inside = refl
none_outside (HandsIn id m) e inside = refl
none_outside (Closes id) e inside = refl
none_outside (Takes id answer) e inside = refl
none_outside (Paces id window manual) e inside = refl
none_outside (AsksAgain id place) e inside = refl
none_outside (Releases id) e inside = refl
none_outside (Begins socket buffers) e inside = refl
none_outside Fails e inside = refl

same_calls : (k j : ℕ) (call : HostCall) (a b : List Call) → host_calls k a ≡ host_calls k b → host_calls k (AtHost j call ∷ a) ≡ host_calls k (AtHost j call ∷ b)
same_calls k j call a b same = ap (λ (xs : List HostCall). if j == k then call ∷ xs else xs) same

abbrev host_after : Site → ℕ → HostCall → EndpointView → EndpointView → Site
host_after t j call e m = record {
  hosts = set t.hosts j m;
  routers = t.routers;
  connections = connections_after j call t.connections;
  mail = t.mail ++ host_mail call e.network;
  sent = t.sent ++ host_mail call e.network;
  outside = t.outside ++ host_outside call e.network;
}

host_step : (t : Site) (more : List CoreView) (j : ℕ) (call : HostCall) (e m : EndpointView) → slice_get t.hosts j ≡ Some e → HostHeard call e.network t.mail → DoesHostCall call e m
    → DoesCall (AtHost j call) (adding more t) (adding more (host_after t j call e m))
host_step t more j call e m there heard does = record {
  before = e;
  there = there;
  heard = heard;
  after = m;
  does = does;
  hosts = refl;
  routers = refl;
  connections = refl;
  mail = refl;
  sent = refl;
  outside = refl;
}

host_goes : (ends : List EndpointView) (es : List EndpointView) (cs : List SiteCore) (t : Site) (mail : List Datagram) (j : ℕ) (call : HostCall) (calls : List Call) → Later ends calls → Agrees es cs t mail
    → RunEachAlone (AtHost j call ∷ calls) es ends cs → AreInPlace (places_of es cs) (AtHost j call ∷ calls) mail → (o : Option EndpointView) → slice_get es j ≡ o → Goes (AreInside (places_of es cs) (AtHost j call ∷ calls)) (AtHost j call ∷ calls) es ends t
host_goes ends es cs t mail j call calls later a runs are None at = absurd (subst (λ o. HostIsThere o call mail) at are.0)
host_goes ends es cs t mail j call calls later a runs are (Some e) at =
    let its = runs.of_hosts j e at in
    let own : HostRuns (call ∷ host_calls j calls) e its.0 = subst (λ cs'. HostRuns cs' e its.0) (cond-true (j == j) (call ∷ host_calls j calls) (host_calls j calls) (own_test j)) its.2 in
    let m : EndpointView = own.0 in
    let gave : List Datagram = host_mail call e.network in
    let u : Site = host_after t j call e m in
    let same : SameNetworks (places_of es cs) (places_of (set es j m) cs) = record {
      hosts = λ k f there. elim (cases_eq k j) [
        | inl here ↦
            let is : f ≡ e = same_some f e (sym there ∙ ap (slice_get es) here ∙ at) in
            (m, ap (slice_get (set es j m)) here ∙ get_set_here es j e m at, host_stays call e m own.1 ∙ ap (λ (z : EndpointView). z.network) (sym is))
        | inr other ↦ (f, get_other es j k m other ∙ there, refl)
      ];
      routers = λ k c there. (c, there, refl);
    } in
    let each : RunEachAlone calls (set es j m) ends cs = record {
      of_hosts = λ k f there. elim (get_set es j k m f there) [
        | inl here ↦ (its.0, ap (slice_get ends) (sym here.0) ∙ its.1, subst (λ i. HostRuns (host_calls i calls) f its.0) here.0 (subst (λ z. HostRuns (host_calls j calls) z its.0) here.1 own.2))
        | inr other ↦
            let it = runs.of_hosts k f other.1 in
            (it.0, it.1, subst (λ cs'. HostRuns cs' f it.0) (cond-false (j == k) (call ∷ host_calls k calls) (host_calls k calls) (ne_eqb j k other.0)) it.2)
      ];
      of_routers = runs.of_routers;
    } in
    let given : mail_of (places_of es cs) (AtHost j call) ≡ gave = ap (λ o. mail_of_host o call) at in
    let agrees : Agrees (set es j m) cs u (mail ++ gave) = record {
      hosts = ap (λ hs. set hs j m) a.hosts;
      given = λ d is. elim (Contains-append_cases mail gave d is) [ inl was ↦ Contains-append_left t.mail gave d (a.given d was) | inr new ↦ Contains-append_right t.mail gave d new ];
      waits = λ k c there g is. Contains-append_left t.mail gave (leaves_on (ports_in c) g) (a.waits k c there g is);
      sound = a.sound;
    } in
    let rest : Goes (AreInside (places_of (set es j m) cs) calls) calls (set es j m) ends u =
    later (set es j m) cs u (mail ++ gave) agrees each
    (places_on (places_of es cs) (places_of (set es j m) cs) same calls (mail ++ gave) (subst (λ ds. AreInPlace (places_of es cs) calls (mail ++ ds)) given are.1)) in
    record {
      more = rest.more;
      new = rest.new;
      steps = AtHost j call ∷ rest.steps;
      site = rest.site;
      course = (
        adding rest.more u,
        host_step t rest.more j call e m (ap (λ hs. slice_get hs j) a.hosts ∙ at) (host_heard_on call e mail t.mail a.given (subst (λ o. HostIsThere o call mail) at are.0)) own.1,
        rest.course,
      );
      ends_are = λ k f there. (let it = same.hosts k f there in rest.ends_are k it.0 it.1);
      same = λ k. same_calls k j call rest.steps calls (rest.same k);
      connections_are = rest.connections_are;
      stays = λ inside none. rest.stays (inside_on (places_of es cs) (places_of (set es j m) cs) same calls inside.1) (ap (λ ds. ds ++ host_outside call e.network) none ∙ none_outside call e inside.0);
    }

-- ---- a call of a router

router_goes : SiteCallsAreRouterCalls → (ends : List EndpointView) (es : List EndpointView) (cs : List SiteCore) (t : Site) (mail : List Datagram) (j : ℕ) (call : RouterCall) (calls : List Call) → Later ends calls → Agrees es cs t mail
    → RunEachAlone (AtRouter j call ∷ calls) es ends cs → AreInPlace (places_of es cs) (AtRouter j call ∷ calls) mail → (o : Option CoreView) → slice_get (map with_ports_of cs) j ≡ o
    → Goes (AreInside (places_of es cs) (AtRouter j call ∷ calls)) (AtRouter j call ∷ calls) es ends t
router_goes law ends es cs t mail j call calls later a runs are None at = absurd (subst (λ o. RouterIsThere o call mail) at are.0)
router_goes law ends es cs t mail j call calls later a runs are (Some place) at =
    let found = map_got with_ports_of cs j place at in
    let c : SiteCore = found.0 in
    let there : slice_get cs j ≡ Some c = found.1 in
    let f : CoreView = with_ports_of c in
    let at' : slice_get (map with_ports_of cs) j ≡ Some f = get_map with_ports_of cs j c there in
    let its = runs.of_routers j c there in
    let own : SiteRuns (call ∷ router_calls j calls) c its.0 = subst (λ xs. SiteRuns xs c its.0) (cond-true (j == j) (call ∷ router_calls j calls) (router_calls j calls) (own_test j)) its.1 in
    let m : SiteCore = own.0 in
    let d : DoneByLives call c m = law call c m (a.sound j c there) own.1 in
    let same : SameNetworks (places_of es cs) (places_of es (set cs j m)) = record {
      hosts = λ k e is. (e, is, refl);
      routers = λ k p is. (let one = map_got with_ports_of cs k p is in elim (cases_eq k j) [
        | inl here ↦
            let is' : one.0 ≡ c = same_some one.0 c (sym one.1 ∙ ap (slice_get cs) here ∙ there) in (
              with_ports_of m,
              get_map with_ports_of (set cs j m) k m (ap (slice_get (set cs j m)) here ∙ get_set_here cs j c m there),
              d.same ∙ ap ports_in (sym is') ∙ ap (λ (x : CoreView). x.router.ports) one.2,
            )
        | inr other ↦ (
          p,
          get_map with_ports_of (set cs j m) k one.0 (get_other cs j k m other ∙ one.1) ∙ ap Some one.2,
          refl,
        )
      ]);
    } in
    let each : RunEachAlone calls es ends (set cs j m) = record {
      of_hosts = runs.of_hosts;
      of_routers = λ k e is. elim (get_set cs j k m e is) [
        | inl here ↦ (its.0, subst (λ i. SiteRuns (router_calls i calls) e its.0) here.0 (subst (λ z. SiteRuns (router_calls j calls) z its.0) here.1 own.2))
        | inr other ↦
            let it = runs.of_routers k e other.1 in
            (it.0, subst (λ xs. SiteRuns xs e it.0) (cond-false (j == k) (call ∷ router_calls k calls) (router_calls k calls) (ne_eqb j k other.0)) it.1)
      ];
    } in
    let gave : List Datagram = router_mail call f in
    let given : mail_of (places_of es cs) (AtRouter j call) ≡ gave = ap (λ o. mail_of_router o call) at' in
    let places : AreInPlace (places_of es (set cs j m)) calls (mail ++ gave) =
    places_on (places_of es cs) (places_of es (set cs j m)) same calls (mail ++ gave) (subst (λ ds. AreInPlace (places_of es cs) calls (mail ++ ds)) given are.1) in
    let heard : RouterHeard call f mail = subst (λ o. RouterIsThere o call mail) at' are.0 in
    let all : Type 0 = AreInside (places_of es cs) (AtRouter j call ∷ calls) in
    let is_inside : all → router_inside (ports_in c) call = λ p. subst (λ o. inside_at o call) at' p.0 in
    let on : (u : Site) → Lived all calls es ends call f is_inside t u d.lives → Goes all calls es ends u = λ u lived.
    (let by : (g : Given) → WaitsIn c g ⊎ Contains (given_by d.lives) g → Contains u.mail (leaves_on (ports_in c) g) = λ g is. elim is [
      | inl was ↦ lived.grows (leaves_on (ports_in c) g) (a.waits j c there g was)
      | inr new ↦ lived.gave g new
    ] in
    let agrees : Agrees es (set cs j m) u (mail ++ gave) = record {
      hosts = lived.hosts_are ∙ a.hosts;
      given = λ x is. elim (Contains-append_cases mail gave x is) [
        | inl was ↦ lived.grows x (a.given x was)
        | inr new ↦ let it = mail_given call f x new in subst (Contains u.mail) it.2 (by it.0 (d.gave it.0 it.1))
      ];
      waits = λ k e is g waits. elim (get_set cs j k m e is) [
        | inl here ↦
            subst (λ ps. Contains u.mail (leaves_on ps g)) (sym d.same ∙ ap ports_in here.1) (by g (d.waits g (subst (λ z. WaitsIn z g) (sym here.1) waits)))
        | inr other ↦ lived.grows (leaves_on (ports_in e) g) (a.waits k e other.1 g waits)
      ];
      sound = λ k e is. elim (get_set cs j k m e is) [ inl here ↦ subst IsSound here.1 d.sound | inr other ↦ a.sound k e other.1 ];
    } in
    let rest : Goes (AreInside (places_of es (set cs j m)) calls) calls es ends u = later es (set cs j m) u (mail ++ gave) agrees each places in
    record {
      more = rest.more;
      new = rest.new;
      steps = rest.steps;
      site = rest.site;
      course = rest.course;
      ends_are = rest.ends_are;
      same = rest.same;
      connections_are = rest.connections_are;
      stays = λ inside none. rest.stays (inside_on (places_of es cs) (places_of es (set cs j m)) same calls inside.1) none;
    }) in
    let goes : Goes all calls es ends t = lives_go all calls es ends call f is_inside d.lives t (heard_on call f mail t.mail a.given heard) on in
    record {
      more = goes.more;
      new = goes.new;
      steps = goes.steps;
      site = goes.site;
      course = goes.course;
      ends_are = goes.ends_are;
      same = goes.same;
      connections_are = goes.connections_are;
      stays = goes.stays;
    }

-- ---- all of them

goes : SiteCallsAreRouterCalls → (ends : List EndpointView) (calls : List Call) → Later ends calls
goes law ends [] es cs t mail a runs are = record {
  more = [];
  new = tt;
  steps = [];
  site = adding [] t;
  course = refl;
  ends_are = λ k e there. (let it = runs.of_hosts k e there in ap (λ hs. slice_get hs k) a.hosts ∙ there ∙ ap Some (sym it.2) ∙ sym it.1);
  same = λ k. refl;
  connections_are = refl;
  stays = λ inside none. none;
}
goes law ends (AtHost j call ∷ calls) es cs t mail a runs are = host_goes ends es cs t mail j call calls (goes law ends calls) a runs are (slice_get es j) refl
goes law ends (AtRouter j call ∷ calls) es cs t mail a runs are = router_goes law ends es cs t mail j call calls (goes law ends calls) a runs are (slice_get (map with_ports_of cs) j) refl

each_new : (cores : List CoreView) → AllNew cores → (k : ℕ) (c : CoreView) → slice_get cores k ≡ Some c → IsNewCore c
each_new [] new k c at = cc at
each_new (x ∷ xs) new zero c at = subst IsNewCore (same_some x c at) new.0
each_new (x ∷ xs) new (suc k) c at = each_new xs new.1 k c at

pub take_course : SiteCallsAreRouterCalls → RunningRoutersTakeCourses
take_course law hosts ends cores calls new_hosts new_cores runs are =
    let t : Site = record { hosts = hosts; routers = []; connections = []; mail = []; sent = []; outside = [] } in
    let agrees : Agrees hosts cores t [] = record {
      hosts = refl;
      given = λ d is. is;
      waits = λ k c there g is. absurd ((new_cores k c there).none g is);
      sound = λ k c there. (new_cores k c there).sound;
    } in
    let g : Goes (AreInside (places_of hosts cores) calls) calls hosts ends t = goes law ends calls hosts cores t [] agrees runs are in
    record {
      start = adding g.more t;
      site = g.site;
      steps = g.steps;
      new = record {
        hosts = new_hosts;
        routers = each_new g.more g.new;
        connections = refl;
        mail = refl;
        sent = refl;
        outside = refl;
      };
      course = g.course;
      hosts_are = refl;
      ends_are = g.ends_are;
      same = g.same;
      connections_are = g.connections_are;
      inside = λ inside. g.stays inside refl;
    }
