-- The summaries of ends after an event: hosts and states, by the one host that the event may change.
use Rattle.std.proofs.Common.{◌≡◌, ◌≢◌, ◌<◌, ◌⊎◌, inl, inr, ℕ, List, [], ◌∷◌, ◌++◌, length, set, Bool, true, false, cond, Option, Some, None, Result, Ok, Err, refl, sym, ◌∙◌, ap, arith, subst}
use Rattle.std.specs.Prelude.{option_map, slice_get}
use Rattle.std.proofs.lemmas.Bool.{cases_eq}
use Rattle.std.proofs.lemmas.Option.{same_Some, slice_get_within}
use Rattle.spx_theory.specs.Note.{Note}
use Rattle.ipx_router.specs.OutcomeView as Outcomes
use Rattle.ipx_router.specs.OutcomeView.{OutcomeView}
use Rattle.ipx_router.specs.declared.port.Port.{Port}
use Rattle.spx_messages.specs.declared.arrived.Arrived.{Arrived}
use Rattle.spx_messages.specs.declared.arrived.Arrived.TheVariants as Arriveds
use Rattle.spx_messages.specs.declared.fault.EndFault.{EndFault}
use Rattle.spx_messages.specs.Taking.{TakenView, overlong}
use Rattle.spx_link.specs.LinkView.{LinkView}
use Rattle.spx_theory.specs.EndCalls.{ChangesLink, ChangesQuietly, DialsFrom, RefusesAt, ReleasesOf}
use Rattle.spx_theory.specs.HostSteps.{TakesOf, ends_after, marked_over}
use Rattle.spx_theory.specs.World.{EndNow, InOrder, IsEndOf, HostState, World, end_at, held_in, held_of}
use Rattle.ipx_wire.specs.declared.address.Address.{Address}
use Rattle.ipx_wire.specs.declared.address.Socket.{Socket}
use Rattle.ipx_net_hosts.specs.Hosts.{HostsView}
use Rattle.ipx_net_hosts.specs.EndStates.{here_at, here_in, state_on_host, state_of}
use Rattle.ipx_net.specs.AnswerView.{AnswerView}
use Rattle.ipx_net.specs.Ends.{TellsLog, SummaryHasState, SummariesHaveStates, told_of}
use Rattle.ipx_net.specs.HostEvents.{RefusedOf}
use Rattle.ipx_net.specs.NetEvents.{Happens}
use Rattle.ipx_net.specs.NetView.{NetNow}
use Rattle.ipx_net.specs.RouterEvents.{RouterDoes}
use Rattle.ipx_net.specs.EndSummaryChanges.{Resettled, ChangesState, SameHostAndState, HasHostAndState, host_there, hosts_of, logged, state_by, touched_by}
use Rattle.ipx_net.specs.declared.endinfo.EndInfo.{EndInfo}
use Rattle.ipx_net.specs.declared.event.Event.{Event}
use Rattle.ipx_net.specs.declared.event.Event.TheVariants as Events
use Rattle.ipx_net.specs.declared.event.Member.TheVariants as Members
use Rattle.ipx_net.specs.declared.place.Place.TheVariants as Places
use Rattle.ipx_net.proofs.TellingPeers.{get_beside, get_pushed, get_set_is, get_written}

-- ---- an event changes the ends of one host

-- an end after an event: it was made at that host, or it did not change, or it was released there
pub data WasSo (k : Option ℕ) (ends : List EndNow) (who : ℕ) (n' : EndNow) : Type 0 where
  Fresh : k ≡ Some n'.host → n'.released ≡ false → WasSo k ends who n'
  Stayed : (n : EndNow) → slice_get ends who ≡ Some n → n'.host ≡ n.host → n'.id ≡ n.id → n'.released ≡ n.released → WasSo k ends who n'
  Gone : (n : EndNow) → slice_get ends who ≡ Some n → n'.host ≡ n.host → n.released ≡ false → n'.released ≡ true → k ≡ Some n.host → WasSo k ends who n'

pub record OnlyAt (k : Option ℕ) (o n : World) : Type 0 where
  pub elsewhere : (j id : ℕ) → (k ≡ Some j → ⊥) → held_in (slice_get n.hosts j) id ≡ held_in (slice_get o.hosts j) id
  pub stay : (who : ℕ) (n' : EndNow) → slice_get n.ends who ≡ Some n' → WasSo k o.ends who n'

stay_same : (k : Option ℕ) (o n : World) → n.ends ≡ o.ends → (who : ℕ) (n' : EndNow) → slice_get n.ends who ≡ Some n' → WasSo k o.ends who n'
stay_same k o n is who n' at = Stayed n' (ap (λ (es : List EndNow). slice_get es who) (sym is) ∙ at) refl refl refl

at_host : (k : Option ℕ) (o n : World) (host : ℕ) (after : HostState) → n.hosts ≡ set o.hosts host after → k ≡ Some host
    → (j id : ℕ) → (k ≡ Some j → ⊥) → held_in (slice_get n.hosts j) id ≡ held_in (slice_get o.hosts j) id
at_host k o n host after is same j id not =
    ap (λ (hs : List HostState). held_in (slice_get hs j) id) is ∙ ap (λ (s : Option HostState). held_in s id) (get_beside o.hosts host j after (λ e. not (same ∙ ap Some e)))

unmoved : (k : Option ℕ) (o n : World) → n.hosts ≡ o.hosts → n.ends ≡ o.ends → OnlyAt k o n
unmoved k o n hosts ends = record { elsewhere = λ j id not. ap (λ (hs : List HostState). held_in (slice_get hs j) id) hosts; stay = stay_same k o n ends }

refused_only : (k : Option ℕ) (host : ℕ) (o n : World) → RefusesAt o host n → OnlyAt k o n
refused_only k host o n r =
    record {
      elsewhere = λ j id not. elim (cases_eq host j) [
        | inl same ↦
            let here : held_in (slice_get n.hosts host) id ≡ held_in (slice_get o.hosts host) id =
            ap (λ (hs : List HostState). held_in (slice_get hs host) id) r.hosts ∙ ap (λ (s : Option HostState). held_in s id) (get_written o.hosts host r.before r.after r.there)
            ∙ r.same.held id ∙ ap (λ (s : Option HostState). held_in s id) (sym r.there) in
            subst (λ (i : ℕ). held_in (slice_get n.hosts i) id ≡ held_in (slice_get o.hosts i) id) same here
        | inr differ ↦ ap (λ (hs : List HostState). held_in (slice_get hs j) id) r.hosts ∙ ap (λ (s : Option HostState). held_in s id) (get_beside o.hosts host j r.after differ)
      ];
      stay = stay_same k o n r.ends;
    }

host_is : (w : World) (who : ℕ) (e : EndNow) → slice_get w.ends who ≡ Some e → host_there w who ≡ Some e.host
host_is w who e at = ap (option_map (λ (n : EndNow). n.host)) at

changes_only : (o n : World) (who : ℕ) (f : LinkView → LinkView) (note : Note) → ChangesLink o who f note n → OnlyAt (host_there o who) o n
changes_only o n who f note c =
    record {
      elsewhere = at_host (host_there o who) o n c.end'.host c.after c.hosts (host_is o who c.end' c.at);
      stay = stay_same (host_there o who) o n c.ends;
    }

quiet_only : (o n : World) (who : ℕ) (f : LinkView → LinkView) → ChangesQuietly o who f n → OnlyAt (host_there o who) o n
quiet_only o n who f c =
    record {
      elsewhere = at_host (host_there o who) o n c.end'.host c.after c.hosts (host_is o who c.end' c.at);
      stay = stay_same (host_there o who) o n c.ends;
    }

-- an end that was replaced, or another
written_where : (xs : List EndNow) (j k : ℕ) (y x : EndNow) → slice_get (set xs j y) k ≡ Some x → ((j ≡ k) × (x ≡ y)) ⊎ (slice_get xs k ≡ Some x)
written_where xs j k y x is = elim (cases_eq j k) [
  | inl same ↦ inl (same, get_set_is xs j y x (subst (λ (i : ℕ). slice_get (set xs j y) i ≡ Some x) (sym same) is))
  | inr differ ↦ inr (sym (get_beside xs j k y differ) ∙ is)
]

marked_same : (r : Result TakenView EndFault) (e : EndNow) → ((marked_over r e).host ≡ e.host) × ((marked_over r e).id ≡ e.id) × ((marked_over r e).released ≡ e.released)
marked_same (Ok t) e = (refl, refl, refl)
marked_same (Err f) e = (refl, refl, refl)

takes_only : (o n : World) (who : ℕ) (r : Result TakenView EndFault) → TakesOf o who r n → OnlyAt (host_there o who) o n
takes_only o n who r t =
    record {
      elsewhere = at_host (host_there o who) o n t.end'.host t.after t.hosts (host_is o who t.end' t.at);
      stay = λ w n' at. elim (written_where o.ends who w (marked_over r t.end') n' (ap (λ (es : List EndNow). slice_get es w) (sym t.ends) ∙ at)) [
        | inl here ↦
            let m = marked_same r t.end' in
            Stayed t.end' (ap (slice_get o.ends) (sym here.0) ∙ t.at) (ap (λ (e : EndNow). e.host) here.1 ∙ m.0) (ap (λ (e : EndNow). e.id) here.1 ∙ m.1) (ap (λ (e : EndNow). e.released) here.1 ∙ m.2)
        | inr before ↦ Stayed n' before refl refl refl
      ];
    }

releases_only : (o n : World) (who : ℕ) → ReleasesOf o who n → OnlyAt (host_there o who) o n
releases_only o n who t =
    record {
      elsewhere = at_host (host_there o who) o n t.end'.host t.after t.hosts (host_is o who t.end' t.at);
      stay = λ w n' at. elim (written_where o.ends who w (record t.end' { released = true }) n' (ap (λ (es : List EndNow). slice_get es w) (sym t.ends) ∙ at)) [
        | inl here ↦ Gone t.end' (ap (slice_get o.ends) (sym here.0) ∙ t.at) (ap (λ (e : EndNow). e.host) here.1) t.stands (ap (λ (e : EndNow). e.released) here.1) (host_is o who t.end' t.at)
        | inr before ↦ Stayed n' before refl refl refl
      ];
    }

pushed_stay : (k : Option ℕ) (ends : List EndNow) (host id : ℕ) → k ≡ Some host → (who : ℕ) (n' : EndNow)
    → slice_get (ends ++ record { host = host; id = id; released = false; overlong = false } ∷ []) who ≡ Some n' → WasSo k ends who n'
pushed_stay k ends host id is who n' at = elim (get_pushed ends (record { host = host; id = id; released = false; overlong = false }) who n' at) [
  | inl before ↦ Stayed n' before refl refl refl
  | inr last ↦ Fresh (is ∙ ap Some (sym (ap (λ (e : EndNow). e.host) last.1))) (ap (λ (e : EndNow). e.released) last.1)
]

dials_only : (o n : World) (host : ℕ) (socket : Socket) (to : Address) (buffers id : ℕ) → DialsFrom o host socket to buffers id n → OnlyAt (Some host) o n
dials_only o n host socket to buffers id d =
    record {
      elsewhere = at_host (Some host) o n host d.after d.hosts refl;
      stay = λ who n' at. pushed_stay (Some host) o.ends host id refl who n' (ap (λ (es : List EndNow). slice_get es who) (sym d.ends) ∙ at);
    }

ends_stay : (ends : List EndNow) (host : ℕ) (r : Arrived) (who : ℕ) (n' : EndNow) → slice_get (ends_after r host ends) who ≡ Some n' → WasSo (Some host) ends who n'
ends_stay ends host (Arriveds.Bad f) who n' at = Stayed n' at refl refl refl
ends_stay ends host Arriveds.NotOurs who n' at = Stayed n' at refl refl refl
ends_stay ends host (Arriveds.BadSpx f) who n' at = Stayed n' at refl refl refl
ends_stay ends host Arriveds.NoListener who n' at = Stayed n' at refl refl refl
ends_stay ends host Arriveds.NoRoom who n' at = Stayed n' at refl refl refl
ends_stay ends host Arriveds.Stranger who n' at = Stayed n' at refl refl refl
ends_stay ends host (Arriveds.Accepted id) who n' at = pushed_stay (Some host) ends host id refl who n' at
ends_stay ends host (Arriveds.Link id r) who n' at = Stayed n' at refl refl refl

router_only : (parcel router : ℕ) (ports : List Port) (outcome : OutcomeView) (a : AnswerView) (o n : World) → RouterDoes parcel router ports outcome a o n → OnlyAt None o n
router_only parcel router ports (Outcomes.Forward at next bytes) a o n d = unmoved None o n d.1.hosts d.1.ends
router_only parcel router ports (Outcomes.Replies sent) a o n d = unmoved None o n d.1.hosts d.1.ends
router_only parcel router ports (Outcomes.Heard k) a o n d = unmoved None o n (ap (λ (w : World). w.hosts) d.1) (ap (λ (w : World). w.ends) d.1)
router_only parcel router ports (Outcomes.Dropped reason) a o n d = unmoved None o n (ap (λ (w : World). w.hosts) d.1) (ap (λ (w : World). w.ends) d.1)

refused_of : (who : ℕ) (f : EndFault) (a : AnswerView) (o n : World) → RefusedOf who f a o n → OnlyAt (host_there o who) o n
refused_of who f a o n r = refused_only (host_there o who) _ o n r.2.1

pub happens_only : (e : Event) (a : AnswerView) (o n : NetNow) → Happens e a o n → OnlyAt (touched_by o.world e) o.world n.world
happens_only (Events.Dial host socket to buffers) a o n h = elim h.0 [ inl d ↦ dials_only o.world n.world host socket to buffers d.2 d.3 | inr r ↦ refused_only (Some host) host o.world n.world r.2.1 ]
happens_only (Events.Send who message) a o n h = elim h.0 [ inl d ↦ changes_only o.world n.world who _ _ d.2.changes | inr r ↦ refused_of who r.0 a o.world n.world r.2 ]
happens_only (Events.Take who) a o n h = elim h.0 [
  | inl t ↦ takes_only o.world n.world who (Ok t.0) t.2
  | inr more ↦ elim more [ inl l ↦ takes_only o.world n.world who (Err overlong) l.1 | inr r ↦ refused_of who _ a o.world n.world r.1 ]
]
happens_only (Events.Close who) a o n h = elim h.0 [ inl d ↦ changes_only o.world n.world who _ _ d.2 | inr r ↦ refused_of who r.0 a o.world n.world r.2 ]
happens_only (Events.Pace who window manual) a o n h = quiet_only o.world n.world who _ h.0.1
happens_only (Events.Again who place) a o n h = quiet_only o.world n.world who _ h.0.1
happens_only (Events.Release who) a o n h = releases_only o.world n.world who h.0.1
happens_only (Events.Tick now) a o n h = unmoved None o.world n.world h.0.1.hosts h.0.1.ends
happens_only (Events.Poll (Members.Host host)) a o n h =
    let p = h.0.1 in
    record { elsewhere = at_host (Some host) o.world n.world host p.after p.hosts refl; stay = stay_same (Some host) o.world n.world p.ends }
happens_only (Events.Poll (Members.Router router)) a o n h = unmoved None o.world n.world h.tells.hosts h.tells.ends
happens_only (Events.Deliver parcel (Places.Host host)) a o n h =
    let d = h.0.1 in
    record {
      elsewhere = at_host (Some host) o.world n.world host d.after d.hosts refl;
      stay = λ who n' at. ends_stay o.world.ends host h.0.0 who n' (ap (λ (es : List EndNow). slice_get es who) (sym d.ends) ∙ at);
    }
happens_only (Events.Deliver parcel (Places.Port router port)) a o n h = router_only parcel router h.before.router.ports h.outcome a o.world n.world h.does
happens_only (Events.Inject segment next bytes) a o n h = unmoved None o.world n.world h.0.1.hosts h.0.1.ends

-- ---- the summaries of the ends of one host

relog : (log : List Note) (a b : List EndInfo) → length b ≡ length a → ((who : ℕ) → logged (told_of b who) ≡ logged (told_of a who)) → TellsLog log a → TellsLog log b
relog log a b count same t =
    record {
      count = count ∙ t.count;
      each = λ who. let e = same who in let old = t.each who in
          record {
            given = ap (λ (x : EndInfo). x.given) e ∙ old.given;
            out = ap (λ (x : EndInfo). x.out) e ∙ old.out;
            next = ap (λ (x : EndInfo). x.next) e ∙ old.next;
            peer = ap (λ (x : EndInfo). x.peer) e ∙ old.peer;
          };
    }

pub restood_log : (v : HostsView) (k : Option ℕ) (gone : Bool) (a b : List EndInfo) (log : List Note) → ChangesState v k gone a b → TellsLog log a → TellsLog log b
restood_log v None gone a b log r t = subst (TellsLog log) (sym r) t
restood_log v (Some host) gone a b log r t = relog log a b r.count r.log t

restood_here : (v : HostsView) (k : Option ℕ) (gone : Bool) (a b : List EndInfo) → ChangesState v k gone a b → (h id who : ℕ) → k ≡ Some h → end_at (here_at v h) id ≡ Some who → who < length a
    → HasHostAndState h (state_by gone (state_on_host v h id)) (told_of b who)
restood_here v None gone a b r h id who is known within = absurd (cc is)
restood_here v (Some g) gone a b r h id who is known within =
    let there : Resettled v h gone a b = subst (λ (i : ℕ). Resettled v i gone a b) (same_Some g h is) r in
    there.here id who known within

restood_others : (v : HostsView) (k : Option ℕ) (gone : Bool) (a b : List EndInfo) → ChangesState v k gone a b → (who : ℕ) → ((h id : ℕ) → k ≡ Some h → end_at (here_at v h) id ≢ Some who)
    → told_of b who ≡ told_of a who
restood_others v None gone a b r who none = ap (λ (xs : List EndInfo). told_of xs who) r
restood_others v (Some g) gone a b r who none = r.others who (λ id. none g id refl)

known_at : (w : World) → InOrder w → (who : ℕ) (n : EndNow) → slice_get w.ends who ≡ Some n → n.released ≡ false → end_at (here_at (hosts_of w) n.host) n.id ≡ Some who
known_at w order who n at standing =
    let s = order.ends who n at standing in
    ap (λ (o : Option HostState). end_at (here_in o) n.id) s.there ∙ s.known

named_at : (w : World) → InOrder w → (h id who : ℕ) → end_at (here_at (hosts_of w) h) id ≡ Some who → IsEndOf w.ends h id who
named_at w order h id who is = by_station (slice_get w.hosts h) refl is
  where
    by_station : (o : Option HostState) → slice_get w.hosts h ≡ o → end_at (here_in o) id ≡ Some who → IsEndOf w.ends h id who
    by_station None at e = absurd (cc e)
    by_station (Some s) at e = (order.hosts h s at).names id who e

not_elsewhere : (w : World) → InOrder w → (who : ℕ) (n : EndNow) → slice_get w.ends who ≡ Some n → (h : ℕ) → (n.host ≡ h → ⊥) → (id : ℕ) → end_at (here_at (hosts_of w) h) id ≢ Some who
not_elsewhere w order who n at h differ id is =
    let q = named_at w order h id who is in
    let same : n ≡ q.end' = same_Some n q.end' (sym at ∙ q.at) in
    differ (ap (λ (e : EndNow). e.host) same ∙ q.host_is)

not_released : (w : World) → InOrder w → (who : ℕ) (n : EndNow) → slice_get w.ends who ≡ Some n → n.released ≡ true → (h id : ℕ) → end_at (here_at (hosts_of w) h) id ≢ Some who
not_released w order who n at gone h id is =
    let q = named_at w order h id who is in
    let same : n ≡ q.end' = same_Some n q.end' (sym at ∙ q.at) in
    let no : true ≡ false = sym gone ∙ ap (λ (e : EndNow). e.released) same ∙ q.stands in cc

held_standing : (hosts : List HostState) (n : EndNow) → n.released ≡ false → held_of hosts n ≡ held_in (slice_get hosts n.host) n.id
held_standing hosts n is = ap (λ (b : Bool). cond b None (held_in (slice_get hosts n.host) n.id)) is

held_released : (hosts : List HostState) (n : EndNow) → n.released ≡ true → held_of hosts n ≡ None
held_released hosts n is = ap (λ (b : Bool). cond b None (held_in (slice_get hosts n.host) n.id)) is

at_or_not : (k : Option ℕ) (h : ℕ) → (k ≡ Some h) ⊎ (k ≡ Some h → ⊥)
at_or_not None h = inr (λ is. absurd (cc is))
at_or_not (Some g) h = elim (cases_eq g h) [ inl same ↦ inl (ap Some same) | inr differ ↦ inr (λ is. differ (same_Some g h is)) ]

-- the summaries before and after an event, and between
pub record Telling (k : Option ℕ) (w w' : World) (t0 t1 t2 t3 : List EndInfo) : Type 0 where
  pub order : InOrder w
  pub order' : InOrder w'
  pub count : length t0 ≡ length w.ends
  pub count' : length t2 ≡ length w'.ends
  pub only : OnlyAt k w w'
  pub before : SummariesHaveStates w t0
  pub cleared : ChangesState (hosts_of w) k true t0 t1
  pub kept : SameHostAndState t1 t2
  pub settled : ChangesState (hosts_of w') k false t2 t3

is_present_now : (k : Option ℕ) (w w' : World) (t0 t1 t2 t3 : List EndInfo) → Telling k w w' t0 t1 t2 t3 → (who : ℕ) (n : EndNow) → slice_get w'.ends who ≡ Some n → n.released ≡ false → k ≡ Some n.host
    → SummaryHasState w'.hosts n (told_of t3 who)
is_present_now k w w' t0 t1 t2 t3 t who n at standing is =
    let within : who < length t2 = omega (arith, t.count', slice_get_within w'.ends who n at) in
    let s = restood_here (hosts_of w') k false t2 t3 t.settled n.host n.id who is (known_at w' t.order' who n at standing) within in
    record { host = s.host_is; state = s.state_is ∙ ap state_of (sym (held_standing w'.hosts n standing)) }

-- an end that is of another host, or that is released
same_told : (k : Option ℕ) (w w' : World) (t0 t1 t2 t3 : List EndInfo) → Telling k w w' t0 t1 t2 t3 → (who : ℕ)
    → ((h id : ℕ) → k ≡ Some h → end_at (here_at (hosts_of w) h) id ≢ Some who) → ((h id : ℕ) → k ≡ Some h → end_at (here_at (hosts_of w') h) id ≢ Some who)
    → ((told_of t3 who).host ≡ (told_of t0 who).host) × ((told_of t3 who).state ≡ (told_of t0 who).state)
same_told k w w' t0 t1 t2 t3 t who none none' =
    let first = restood_others (hosts_of w) k true t0 t1 t.cleared who none in
    let last = restood_others (hosts_of w') k false t2 t3 t.settled who none' in (
      ap (λ (e : EndInfo). e.host) last ∙ t.kept.host who ∙ ap (λ (e : EndInfo). e.host) first,
      ap (λ (e : EndInfo). e.state) last ∙ t.kept.state who ∙ ap (λ (e : EndInfo). e.state) first,
    )

stayed : (k : Option ℕ) (w w' : World) (t0 t1 t2 t3 : List EndInfo) → Telling k w w' t0 t1 t2 t3 → (who : ℕ) (n' n : EndNow) → slice_get w'.ends who ≡ Some n' → slice_get w.ends who ≡ Some n
    → n'.host ≡ n.host → n'.id ≡ n.id → n'.released ≡ n.released → (b : Bool) → n'.released ≡ b → SummaryHasState w'.hosts n' (told_of t3 who)
stayed k w w' t0 t1 t2 t3 t who n' n at' at host id same true gone =
    let old = t.before who n at in
    let was : n.released ≡ true = sym same ∙ gone in
    let told = same_told k w w' t0 t1 t2 t3 t who (λ h i is. not_released w t.order who n at was h i) (λ h i is. not_released w' t.order' who n' at' gone h i) in
    record {
      host = told.0 ∙ old.host ∙ sym host;
      state = told.1 ∙ old.state ∙ ap state_of (held_released w.hosts n was) ∙ sym (ap state_of (held_released w'.hosts n' gone));
    }
stayed k w w' t0 t1 t2 t3 t who n' n at' at host id same false standing = elim (at_or_not k n'.host) [
  | inl is ↦ is_present_now k w w' t0 t1 t2 t3 t who n' at' standing is
  | inr not ↦
      let old = t.before who n at in
      let was : n.released ≡ false = sym same ∙ standing in
      let told = same_told k w w' t0 t1 t2 t3 t who
      (λ h i is. not_elsewhere w t.order who n at h (λ e. not (is ∙ ap Some (sym e ∙ sym host))) i)
      (λ h i is. not_elsewhere w' t.order' who n' at' h (λ e. not (is ∙ ap Some (sym e))) i) in
      let held : held_in (slice_get w.hosts n.host) n.id ≡ held_in (slice_get w'.hosts n'.host) n'.id =
      ap (λ (h : ℕ). held_in (slice_get w.hosts h) n.id) (sym host) ∙ ap (held_in (slice_get w.hosts n'.host)) (sym id) ∙ sym (t.only.elsewhere n'.host n'.id not) in
      record {
        host = told.0 ∙ old.host ∙ sym host;
        state = told.1 ∙ old.state ∙ ap state_of (held_standing w.hosts n was ∙ held ∙ sym (held_standing w'.hosts n' standing));
      }
]

gone_now : (k : Option ℕ) (w w' : World) (t0 t1 t2 t3 : List EndInfo) → Telling k w w' t0 t1 t2 t3 → (who : ℕ) (n' n : EndNow) → slice_get w'.ends who ≡ Some n' → slice_get w.ends who ≡ Some n
    → n'.host ≡ n.host → n.released ≡ false → n'.released ≡ true → k ≡ Some n.host → SummaryHasState w'.hosts n' (told_of t3 who)
gone_now k w w' t0 t1 t2 t3 t who n' n at' at host standing gone is =
    let within : who < length t0 = omega (arith, t.count, slice_get_within w.ends who n at) in
    let s = restood_here (hosts_of w) k true t0 t1 t.cleared n.host n.id who is (known_at w t.order who n at standing) within in
    let last = restood_others (hosts_of w') k false t2 t3 t.settled who (λ h i e. not_released w' t.order' who n' at' gone h i) in
    record {
      host = ap (λ (e : EndInfo). e.host) last ∙ t.kept.host who ∙ s.host_is ∙ sym host;
      state = ap (λ (e : EndInfo). e.state) last ∙ t.kept.state who ∙ s.state_is ∙ sym (ap state_of (held_released w'.hosts n' gone));
    }

pub tells_holds : (k : Option ℕ) (w w' : World) (t0 t1 t2 t3 : List EndInfo) → Telling k w w' t0 t1 t2 t3 → SummariesHaveStates w' t3
tells_holds k w w' t0 t1 t2 t3 t who n' at' = by (t.only.stay who n' at')
  where
    by : WasSo k w.ends who n' → SummaryHasState w'.hosts n' (told_of t3 who)
    by (Fresh is standing) = is_present_now k w w' t0 t1 t2 t3 t who n' at' standing is
    by (Stayed n at host id same) = stayed k w w' t0 t1 t2 t3 t who n' n at' at host id same n'.released refl
    by (Gone n at host standing gone is) = gone_now k w w' t0 t1 t2 t3 t who n' n at' at host standing gone is
