-- Routers that live for one call take part in a course, each after those that are there.
use Rattle.std.proofs.Common.{◌≡◌, ℕ, List, [], ◌∷◌, ◌++◌, length, map, None, Some, refl, sym, ◌∙◌, inl, inr, ap, subst}
use Rattle.std.specs.Prelude.{Contains, flat_map, slice_get}
use Rattle.std.proofs.lemmas.List.{append-nil, append_assoc}
use Rattle.std.proofs.lemmas.List.Elements.{Contains-append_cases, Contains-append_left, Contains-append_right}
use Rattle.spx_messages.specs.EndpointView.{EndpointView}
use Rattle.ipx_router.specs.declared.port.Port.{Port}
use Rattle.ipx_carrier.specs.RouterCore.{CoreView}
use Rattle.ipx_carrier.specs.Turns.{Given}
use Rattle.theory_processes.specs.Course.{AtRouter, Call, Came, Course, IsNewCore, RouterHeard, on_network, router_mail, router_outside}
use Rattle.theory_processes.specs.HostCalls.{ByACore, FromOutside, Source}
use Rattle.theory_processes.specs.Loops.{RouterRuns, host_calls, router_gave, router_heard}
use Rattle.theory_processes.specs.RouterCalls.{HearsOn, HearOutOfMemoryOn, NextOutOfMemoryAt, Passes, RouterCall, StartsAgain, network_of}
use Rattle.theory_processes.specs.Site.{Datagram, Site}
use Rattle.theory_processes.specs.Lives.{HearOnly, IsUnanswered, Life, given_by}
use Rattle.theory_processes.specs.Together.{connections_by, router_inside}
use Rattle.theory_processes.proofs.Holding.{contains_cases, contains_here, put_past}
use Rattle.theory_processes.proofs.Staying.{heard_same, mail_same, ports_of, router_stays}
use Rattle.theory_processes.proofs.Lists.{contains_none, get_past}

-- a packet, on the network of its port
abbrev pub leaves_on : List Port → Given → Datagram
leaves_on ports g = on_network (network_of (slice_get ports g.port)) g.bytes

pub course_more : (a b : List Call) (x y z : Site) → Course a x y → Course b y z → Course (a ++ b) x z
course_more [] b x y z first later = subst (λ s. Course b s z) first later
course_more (c ∷ a) b x y z first later = (first.0, first.1, course_more a b first.0 y z first.2 later)

-- ---- what was given stays given

abbrev pub Grows : List Datagram → List Datagram → Type 0
Grows mail more = (d : Datagram) → Contains mail d → Contains more d

pub came_on : (source : Source) (d : Datagram) (mail more : List Datagram) → Grows mail more → Came source d mail → Came source d more
came_on ByACore d mail more grows came = grows d came
came_on FromOutside d mail more grows came = tt

pub heard_on : (call : RouterCall) (core : CoreView) (mail more : List Datagram) → Grows mail more → RouterHeard call core mail → RouterHeard call core more
heard_on (HearsOn source port bytes now) core mail more grows heard = came_on source _ mail more grows heard
heard_on (HearOutOfMemoryOn port bytes now) core mail more grows heard = tt
heard_on (Passes now given) core mail more grows heard = tt
heard_on (NextOutOfMemoryAt now) core mail more grows heard = tt
heard_on StartsAgain core mail more grows heard = tt

-- ---- what receives nothing

nothing_heard : (c : RouterCall) (core : CoreView) (mail : List Datagram) → router_heard c ≡ [] → RouterHeard c core mail
nothing_heard (HearsOn source port bytes now) core mail deaf = absurd (cc deaf)
nothing_heard (HearOutOfMemoryOn port bytes now) core mail deaf = tt
nothing_heard (Passes now given) core mail deaf = tt
nothing_heard (NextOutOfMemoryAt now) core mail deaf = tt
nothing_heard StartsAgain core mail deaf = tt

nothing_outside : (c : RouterCall) (core : CoreView) → router_heard c ≡ [] → router_outside c core ≡ []
nothing_outside (HearsOn source port bytes now) core deaf = absurd (cc deaf)
nothing_outside (HearOutOfMemoryOn port bytes now) core deaf = refl
nothing_outside (Passes now given) core deaf = refl
nothing_outside (NextOutOfMemoryAt now) core deaf = refl
nothing_outside StartsAgain core deaf = refl

inside_outside : (c : RouterCall) (core : CoreView) (ports : List Port) → router_inside ports c → (IsUnanswered ports c → ⊥) → router_outside c core ≡ []
inside_outside (HearsOn ByACore port bytes now) core ports inside answered = refl
inside_outside (HearsOn FromOutside port bytes now) core ports inside answered = elim inside [ inl given ↦ absurd (cc given) | inr quiet ↦ absurd (answered quiet) ]
inside_outside (HearOutOfMemoryOn port bytes now) core ports inside answered = refl
inside_outside (Passes now given) core ports inside answered = refl
inside_outside (NextOutOfMemoryAt now) core ports inside answered = refl
inside_outside StartsAgain core ports inside answered = refl

-- ---- one life

abbrev mail_in : CoreView → List RouterCall → List Datagram
mail_in core calls = flat_map (λ c. router_mail c core) calls

abbrev outside_in : CoreView → List RouterCall → List Datagram
outside_in core calls = flat_map (λ c. router_outside c core) calls

outside_same : (c : RouterCall) (x y : CoreView) → ports_of y ≡ ports_of x → router_outside c y ≡ router_outside c x
outside_same (HearsOn ByACore port bytes now) x y same = refl
outside_same (HearsOn FromOutside port bytes now) x y same = ap (λ (ps : List Port). on_network (network_of (slice_get ps port)) bytes ∷ []) same
outside_same (HearOutOfMemoryOn port bytes now) x y same = refl
outside_same (Passes now given) x y same = refl
outside_same (NextOutOfMemoryAt now) x y same = refl
outside_same StartsAgain x y same = refl

none_outside : (call : RouterCall) (core : CoreView) (ports : List Port) (calls : List RouterCall) → router_inside ports call → HearOnly ports call calls → outside_in core calls ≡ []
none_outside call core ports [] inside hears = refl
none_outside call core ports (c ∷ cs) inside hears =
    let here : router_outside c core ≡ [] = elim hears.0 [
      | inl is ↦ ap (λ x. router_outside x core) is.0 ∙ inside_outside call core ports inside is.1
      | inr deaf ↦ nothing_outside c core deaf
    ] in
    ap (λ ds. ds ++ outside_in core cs) here ∙ none_outside call core ports cs inside hears.1

-- a packet that is given is in what was given
given_mail : (c : RouterCall) (core : CoreView) (g : Given) → Contains (router_gave c) g → Contains (router_mail c core) (leaves_on (ports_of core) g)
given_mail (HearsOn source port bytes now) core g is = absurd (contains_none g is)
given_mail (HearOutOfMemoryOn port bytes now) core g is = absurd (contains_none g is)
given_mail (Passes now None) core g is = absurd (contains_none g is)
given_mail (Passes now (Some p)) core g is = elim (contains_cases p [] g is) [
  | inl here ↦ subst (λ (q : Given). Contains (leaves_on (ports_of core) p ∷ []) (leaves_on (ports_of core) q)) here (contains_here (leaves_on (ports_of core) p) [])
  | inr later ↦ absurd (contains_none g later)
]
given_mail (NextOutOfMemoryAt now) core g is = absurd (contains_none g is)
given_mail StartsAgain core g is = absurd (contains_none g is)

-- and what was given are such packets
pub mail_given : (c : RouterCall) (core : CoreView) (d : Datagram) → Contains (router_mail c core) d → (g : Given) × Contains (router_gave c) g × (leaves_on (ports_of core) g ≡ d)
mail_given (HearsOn source port bytes now) core d is = absurd (contains_none d is)
mail_given (HearOutOfMemoryOn port bytes now) core d is = absurd (contains_none d is)
mail_given (Passes now None) core d is = absurd (contains_none d is)
mail_given (Passes now (Some p)) core d is = elim (contains_cases (leaves_on (ports_of core) p) [] d is) [
  | inl here ↦ (p, contains_here p [], here)
  | inr later ↦ absurd (contains_none d later)
]
mail_given (NextOutOfMemoryAt now) core d is = absurd (contains_none d is)
mail_given StartsAgain core d is = absurd (contains_none d is)

gave_mail : (calls : List RouterCall) (core : CoreView) (g : Given) → Contains (flat_map router_gave calls) g → Contains (mail_in core calls) (leaves_on (ports_of core) g)
gave_mail [] core g is = absurd (contains_none g is)
gave_mail (c ∷ cs) core g is = elim (Contains-append_cases (router_gave c) (flat_map router_gave cs) g is) [
  | inl here ↦ Contains-append_left (router_mail c core) (mail_in core cs) (leaves_on (ports_of core) g) (given_mail c core g here)
  | inr later ↦ Contains-append_right (router_mail c core) (mail_in core cs) (leaves_on (ports_of core) g) (gave_mail cs core g later)
]

abbrev with_routers : Site → List CoreView → List Datagram → List Datagram → Site
with_routers t routers mail outside = record t { routers = routers; mail = mail; outside = outside }

module _ (t : Site) (before later : List CoreView) (first : CoreView) (ports : List Port) (call : RouterCall) where
  abbrev now_at : CoreView → List Datagram → List Datagram → Site
  now_at core mail outside = with_routers t (before ++ core ∷ later) mail outside

  life_goes : (calls : List RouterCall) (core last : CoreView) (mail outside : List Datagram) → ports_of core ≡ ports_of first → RouterRuns calls core last → HearOnly ports call calls → RouterHeard call first mail
      → Course (map (AtRouter (length before)) calls) (now_at core mail outside) (now_at last (mail ++ mail_in first calls) (outside ++ outside_in first calls))
  life_goes [] core last mail outside same runs hears heard =
      ap (λ (c : CoreView). now_at c (mail ++ []) (outside ++ [])) runs ∙ ap (λ ds. now_at core ds (outside ++ [])) (append-nil mail) ∙ ap (λ ds. now_at core mail ds) (append-nil outside)
  life_goes (c ∷ cs) core last mail outside same runs hears heard =
      let mid : CoreView = runs.0 in
      let mail' : List Datagram = mail ++ router_mail c first in
      let outside' : List Datagram = outside ++ router_outside c first in
      let grows : Grows mail mail' = λ d is. Contains-append_left mail (router_mail c first) d is in
      let here : RouterHeard c core mail = elim hears.0 [
        | inl is ↦ heard_same c first core mail same (subst (λ x. RouterHeard x first mail) (sym is.0) heard)
        | inr deaf ↦ nothing_heard c core mail deaf
      ] in
      let rest : Course (map (AtRouter (length before)) cs) (now_at mid mail' outside') (now_at last (mail' ++ mail_in first cs) (outside' ++ outside_in first cs)) =
      life_goes cs mid last mail' outside' (router_stays c core mid runs.1 ∙ same) runs.2 hears.1 (heard_on call first mail mail' grows heard) in (
        now_at mid mail' outside',
        record {
          before = core;
          there = get_past before core later;
          heard = here;
          after = mid;
          does = runs.1;
          routers = sym (put_past before core mid later);
          hosts = refl;
          connections = refl;
          mail = ap (λ ds. mail ++ ds) (sym (mail_same c first core same));
          sent = refl;
          outside = ap (λ ds. outside ++ ds) (sym (outside_same c first core same));
        },
        subst (λ ds. Course (map (AtRouter (length before)) cs) (now_at mid mail' outside') (now_at last ds (outside ++ outside_in first (c ∷ cs)))) (append_assoc mail (router_mail c first) (mail_in first cs))
            (subst (λ ds. Course (map (AtRouter (length before)) cs) (now_at mid mail' outside') (now_at last (mail' ++ mail_in first cs) ds)) (append_assoc outside (router_outside c first) (outside_in first cs)) rest),
      )

-- ---- all of them

-- a site with more routers
abbrev pub adding : List CoreView → Site → Site
adding more t = record t { routers = t.routers ++ more }

abbrev pub AllNew : List CoreView → Type 0
AllNew [] = Unit {0}
AllNew (c ∷ cs) = IsNewCore c × AllNew cs

-- more routers, and a course with these calls of hosts, which end as these
pub record Goes (inside : Type 0) (calls : List Call) (hosts ends : List EndpointView) (t : Site) : Type 0 where
  pub more : List CoreView
  pub new : AllNew more
  pub steps : List Call
  pub site : Site
  pub course : Course steps (adding more t) site
  pub ends_are : (k : ℕ) (e : EndpointView) → slice_get hosts k ≡ Some e → slice_get site.hosts k ≡ slice_get ends k
  pub same : (k : ℕ) → host_calls k steps ≡ host_calls k calls
  pub connections_are : site.connections ≡ connections_by calls t.connections
  pub stays : inside → t.outside ≡ [] → site.outside ≡ []

no_host_calls : (k n : ℕ) (calls : List RouterCall) (steps : List Call) → host_calls k (map (AtRouter n) calls ++ steps) ≡ host_calls k steps
no_host_calls k n [] steps = refl
no_host_calls k n (c ∷ cs) steps = no_host_calls k n cs steps

module _ (inside : Type 0) (calls : List Call) (hosts ends : List EndpointView) (call : RouterCall) (core : CoreView) (is_inside : inside → router_inside (ports_of core) call) where
  -- after some lives, what was given before still is, and so is what they give
  pub record Lived (t u : Site) (lives : List (Life (ports_of core) call)) : Type 0 where
    pub hosts_are : u.hosts ≡ t.hosts
    pub grows : Grows t.mail u.mail
    pub gave : (g : Given) → Contains (given_by lives) g → Contains u.mail (leaves_on (ports_of core) g)

  one_goes : (l : Life (ports_of core) call) (t : Site) → RouterHeard call core t.mail
      → Goes inside calls hosts ends (with_routers t (t.routers ++ l.last ∷ []) (t.mail ++ mail_in l.first l.calls) (t.outside ++ outside_in l.first l.calls)) → Goes inside calls hosts ends t
  one_goes l t heard rest =
      let mail' : List Datagram = t.mail ++ mail_in l.first l.calls in
      let outside' : List Datagram = t.outside ++ outside_in l.first l.calls in
      let u : Site = with_routers t (t.routers ++ l.last ∷ []) mail' outside' in
      let lived : Course (map (AtRouter (length t.routers)) l.calls) (adding (l.first ∷ rest.more) t) (with_routers t (t.routers ++ l.last ∷ rest.more) mail' outside') =
      life_goes t t.routers rest.more l.first (ports_of core) call l.calls l.first l.last t.mail t.outside refl l.runs l.hears (heard_same call core l.first t.mail l.there heard) in
      record {
        more = l.first ∷ rest.more;
        new = (l.new, rest.new);
        steps = map (AtRouter (length t.routers)) l.calls ++ rest.steps;
        site = rest.site;
        course = course_more (map (AtRouter (length t.routers)) l.calls) rest.steps (adding (l.first ∷ rest.more) t) (adding rest.more u) rest.site
            (subst (λ rs. Course (map (AtRouter (length t.routers)) l.calls) (adding (l.first ∷ rest.more) t) (with_routers t rs mail' outside')) (sym (append_assoc t.routers (l.last ∷ []) rest.more)) lived)
            rest.course;
        ends_are = rest.ends_are;
        same = λ k. no_host_calls k (length t.routers) l.calls rest.steps ∙ rest.same k;
        connections_are = rest.connections_are;
        stays = λ p none. rest.stays p (ap (λ ds. ds ++ outside_in l.first l.calls) none ∙ none_outside call l.first (ports_of core) l.calls (is_inside p) l.hears);
      }

  pub lives_go : (lives : List (Life (ports_of core) call)) (t : Site) → RouterHeard call core t.mail → ((u : Site) → Lived t u lives → Goes inside calls hosts ends u) → Goes inside calls hosts ends t
  lives_go [] t heard on = on t (record { hosts_are = refl; grows = λ d is. is; gave = λ g is. absurd (contains_none g is) })
  lives_go (l ∷ ls) t heard on =
      let mail' : List Datagram = t.mail ++ mail_in l.first l.calls in
      let u : Site = with_routers t (t.routers ++ l.last ∷ []) mail' (t.outside ++ outside_in l.first l.calls) in
      let grows : Grows t.mail mail' = λ d is. Contains-append_left t.mail (mail_in l.first l.calls) d is in
      one_goes l t heard
      (lives_go ls u (heard_on call core t.mail mail' grows heard)
      (λ v lived. on v (record {
        hosts_are = lived.hosts_are;
        grows = λ d is. lived.grows d (grows d is);
        gave = λ g is. elim (Contains-append_cases (flat_map router_gave l.calls) (given_by ls) g is) [
          | inl here ↦
              lived.grows (leaves_on (ports_of core) g)
              (Contains-append_right t.mail (mail_in l.first l.calls) (leaves_on (ports_of core) g)
              (subst (λ ps. Contains (mail_in l.first l.calls) (leaves_on ps g)) l.there (gave_mail l.calls l.first g here)))
          | inr later ↦ lived.gave g later
        ];
      })))
