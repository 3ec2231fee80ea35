-- A call on a host or an end, a clock tick, and a packet from outside each have one outcome, unless out of
-- memory.
use Rattle.std.proofs.Common.{ℕ, ◌≡◌, ◌≢◌, ◌⊎◌, inl, inr, true, false, List, [], ◌∷◌, ◌++◌, length, set, Option, Some, None, Result, Ok, Err, refl, sym, ◌∙◌, ap, arith, subst, length-set}
use Rattle.std.specs.Prelude.{IsSome, slice_get}
use Rattle.std.proofs.lemmas.Bool.{cases_eq, cases_lt}
use Rattle.std.proofs.lemmas.Option.{same_Some}
use Rattle.ipx_wire.specs.declared.address.Address.{Address}
use Rattle.ipx_wire.specs.declared.address.Network.{Network}
use Rattle.ipx_wire.specs.declared.address.Node.{Node}
use Rattle.ipx_wire.specs.declared.address.Socket.{Socket}
use Rattle.ipx_net_hosts.specs.Refusing.{CloseIsRefused, SendIsRefused, close_fault, send_fault}
use Rattle.spx_link.specs.LinkView.{LinkView}
use Rattle.spx_link.specs.Links.{IsNextFree, LinksView, id_after, link_at}
use Rattle.spx_messages.specs.Changes.{AddsEnd, ChangesEnd, ReleasesEnd, SameBut, SameSelf}
use Rattle.spx_messages.specs.EndpointView.{EndpointView, Held, held_at}
use Rattle.spx_messages.specs.Taking.{TakenView, overlong, take_end}
use Rattle.spx_messages.specs.declared.fault.EndFault.{EndFault}
use Rattle.spx_link.specs.Offer.{again_link, dialed, end_link, first_of, offer_link, pace_link}
use Rattle.spx_messages.specs.Cut.{cut_of}
use Rattle.spx_messages.specs.Message.{MessageView, message_view}
use Rattle.spx_theory.specs.EndCalls.{ChangesLink, ChangesQuietly, Closes, DialsFrom, InjectsInto, RefusesAt, ReleasesOf, SendsTo, Ticks}
use Rattle.spx_theory.specs.HostSteps.{TakesOf, marked_over, unit_notes, whole_notes}
use Rattle.spx_theory.specs.World.{EndNow, HostState, World, end_at}
use Rattle.ipx_net.specs.AnswerView.{AnswerView, Refused, Taken}
use Rattle.ipx_net.specs.HostEvents.{Dialling, IsDoneOrRefused, RefusedOf, TakingFrom, held_under}
use Rattle.ipx_net.specs.NetView.{NetNow}
use Rattle.ipx_net.specs.OneOutcome.{AreAlike, AreAlikeRouters, AreSameNets, IsForMemory}
use Rattle.ipx_net.specs.NetEvents.{Happens}
use Rattle.ipx_net.specs.declared.event.Event.{Event}
use Rattle.ipx_net.specs.declared.event.Event.TheVariants as Events
use Rattle.ipx_net.specs.declared.routers.RouterNow.{RouterNow}
use Rattle.ipx_net.proofs.TellingPeers.{get_beside, get_set_is}
use Rattle.spx_theory.specs.Note as Notes
use Rattle.spx_theory.specs.Note.{Note}

-- ---- endpoints

pub one_some : {A : Type 0} {x y : A} → Some x ≡ Some y → x ≡ y
one_some {A} {x} {y} is = same_Some x y is

pub same_read : {A : Type 0} (xs : List A) (j k : ℕ) (x y : A) → j ≡ k → slice_get xs j ≡ Some x → slice_get xs k ≡ Some y → x ≡ y
same_read xs j k x y same one two = one_some (sym one ∙ ap (slice_get xs) same ∙ two)

self_both : (e a b : EndpointView) → SameSelf e a → SameSelf e b → SameSelf a b
self_both e a b x y =
    record {
      network = y.network ∙ sym x.network;
      node = y.node ∙ sym x.node;
      router = y.router ∙ sym x.router;
      buffers = λ socket. y.buffers socket ∙ sym (x.buffers socket);
    }

alike_refl : (s : HostState) → AreAlike s s
alike_refl s = record { endpoint = record { held = λ q. refl; last = refl; count = refl; self = record { network = refl; node = refl; router = refl; buffers = λ k. refl } }; here = λ id. refl }

-- what an id holds, if both hold the same under one id and the others are unchanged
held_both : (e a b : EndpointView) (id : ℕ) → held_at b id ≡ held_at a id → ((q : ℕ) → q ≢ id → held_at a q ≡ held_at e q) → ((q : ℕ) → q ≢ id → held_at b q ≡ held_at e q)
    → (q : ℕ) → held_at b q ≡ held_at a q
held_both e a b id at one two q =
    elim (cases_eq q id) [
      | inl same ↦ ap (held_at b) same ∙ at ∙ ap (held_at a) (sym same)
      | inr differ ↦ two q differ ∙ sym (one q differ)
    ]

changes_both : (e a b : EndpointView) (id : ℕ) (h : Held) → ChangesEnd e a id h → ChangesEnd e b id h → SameBut a b
changes_both e a b id h x y =
    record {
      held = held_both e a b id (y.held ∙ sym x.held) x.others y.others;
      last = y.last ∙ sym x.last;
      count = y.count ∙ sym x.count;
      self = self_both e a b x.self y.self;
    }

adds_both : (e a b : EndpointView) (id : ℕ) (l : LinkView) → AddsEnd e a id l → AddsEnd e b id l → SameBut a b
adds_both e a b id l x y =
    record {
      held = held_both e a b id (y.held ∙ sym x.held) x.others y.others;
      last = y.last ∙ sym x.last;
      count = y.count ∙ sym x.count;
      self = self_both e a b x.self y.self;
    }

releases_both : (e a b : EndpointView) (id : ℕ) → ReleasesEnd e a id → ReleasesEnd e b id → SameBut a b
releases_both e a b id x y =
    record {
      held = held_both e a b id (y.gone ∙ sym x.gone) x.others y.others;
      last = y.last ∙ sym x.last;
      count = omega (arith, x.count, y.count);
      self = self_both e a b x.self y.self;
    }

but_both : (e a b : EndpointView) → SameBut e a → SameBut e b → SameBut a b
but_both e a b x y =
    record {
      held = λ q. y.held q ∙ sym (x.held q);
      last = y.last ∙ sym x.last;
      count = y.count ∙ sym x.count;
      self = self_both e a b x.self y.self;
    }

-- ---- hosts

-- one host of a list changed in both
pub hosts_both : (old xs ys : List HostState) (host : ℕ) (a b : HostState) → xs ≡ set old host a → ys ≡ set old host b → AreAlike a b
    → (k : ℕ) (s t : HostState) → slice_get xs k ≡ Some s → slice_get ys k ≡ Some t → AreAlike s t
hosts_both old xs ys host a b is is' alike k s t at at' =
    elim (cases_eq host k) [
      | inl same ↦
          let one : s ≡ a = get_set_is old host a s (ap (λ zs. slice_get zs host) (sym is) ∙ ap (slice_get xs) same ∙ at) in
          let two : t ≡ b = get_set_is old host b t (ap (λ zs. slice_get zs host) (sym is') ∙ ap (slice_get ys) same ∙ at') in
          subst (λ z. AreAlike s z) (sym two) (subst (λ z. AreAlike z b) (sym one) alike)
      | inr differ ↦
          let one : slice_get old k ≡ Some s = sym (get_beside old host k a differ) ∙ ap (λ zs. slice_get zs k) (sym is) ∙ at in
          let two : slice_get old k ≡ Some t = sym (get_beside old host k b differ) ∙ ap (λ zs. slice_get zs k) (sym is') ∙ at' in
          subst (AreAlike s) (one_some (sym one ∙ two)) (alike_refl s)
    ]

pub hosts_same : (old xs ys : List HostState) → xs ≡ old → ys ≡ old → (k : ℕ) (s t : HostState) → slice_get xs k ≡ Some s → slice_get ys k ≡ Some t → AreAlike s t
hosts_same old xs ys is is' k s t at at' =
    subst (AreAlike s) (one_some (sym at ∙ ap (λ zs. slice_get zs k) (is ∙ sym is') ∙ at')) (alike_refl s)

-- the worlds after one event that changes no router
pub record AreSameWorlds (x y : World) : Type 0 where
  pub count : length y.hosts ≡ length x.hosts
  pub hosts : (k : ℕ) (a b : HostState) → slice_get x.hosts k ≡ Some a → slice_get y.hosts k ≡ Some b → AreAlike a b
  pub ends : y.ends ≡ x.ends
  pub parcels : y.parcels ≡ x.parcels
  pub log : y.log ≡ x.log
  pub moment : y.moment ≡ x.moment

router_alike : (r : RouterNow) → AreAlikeRouters r r
router_alike r =
    record { kept = record { ports = refl; most_routes = refl; most_services = refl }; routes = λ p. refl; services = λ p. refl; told = refl; started = refl }

-- the same routers are alike
pub routers_same : (xs ys : List RouterNow) → xs ≡ ys → (k : ℕ) (a b : RouterNow) → slice_get xs k ≡ Some a → slice_get ys k ≡ Some b → AreAlikeRouters a b
routers_same xs ys is k a b at at' = subst (AreAlikeRouters a) (one_some (sym at ∙ ap (λ zs. slice_get zs k) is ∙ at')) (router_alike a)

-- one router of a list changed in both
pub routers_both : (old xs ys : List RouterNow) (router : ℕ) (a b : RouterNow) → xs ≡ set old router a → ys ≡ set old router b → AreAlikeRouters a b
    → (k : ℕ) (s t : RouterNow) → slice_get xs k ≡ Some s → slice_get ys k ≡ Some t → AreAlikeRouters s t
routers_both old xs ys router a b is is' alike k s t at at' =
    elim (cases_eq router k) [
      | inl same ↦
          let one : s ≡ a = get_set_is old router a s (ap (λ zs. slice_get zs router) (sym is) ∙ ap (slice_get xs) same ∙ at) in
          let two : t ≡ b = get_set_is old router b t (ap (λ zs. slice_get zs router) (sym is') ∙ ap (slice_get ys) same ∙ at') in
          subst (λ z. AreAlikeRouters s z) (sym two) (subst (λ z. AreAlikeRouters z b) (sym one) alike)
      | inr differ ↦
          let one : slice_get old k ≡ Some s = sym (get_beside old router k a differ) ∙ ap (λ zs. slice_get zs k) (sym is) ∙ at in
          let two : slice_get old k ≡ Some t = sym (get_beside old router k b differ) ∙ ap (λ zs. slice_get zs k) (sym is') ∙ at' in
          subst (AreAlikeRouters s) (one_some (sym one ∙ two)) (router_alike s)
    ]

pub same_nets : (old x y : NetNow) → AreSameWorlds x.world y.world → x.routers ≡ old.routers → y.routers ≡ old.routers → AreSameNets x y
same_nets old x y w one two =
    record {
      count = w.count;
      hosts = w.hosts;
      ends = w.ends;
      parcels = w.parcels;
      log = w.log;
      moment = w.moment;
      router_count = ap length (two ∙ sym one);
      routers = routers_same x.routers y.routers (one ∙ sym two);
    }

pub count_both : (old xs ys : List HostState) (host : ℕ) (a b : HostState) → xs ≡ set old host a → ys ≡ set old host b → length ys ≡ length xs
count_both old xs ys host a b is is' = ap length is' ∙ length-set old host b ∙ sym (length-set old host a) ∙ sym (ap length is)

-- ---- ids

same_ok : (t u : TakenView) → ◌≡◌ {A = Result TakenView EndFault} (Ok t) (Ok u) → t ≡ u
same_ok t u is = cc is

live_free : (o : Option LinkView) → IsSome o → o ≡ None → ⊥
live_free None live none = cc live
live_free (Some l) live none = cc none

free_both : (s : LinksView) (i j : ℕ) → IsNextFree s i → IsNextFree s j → i ≡ j
free_both s i j one two =
    elim (cases_lt one.steps two.steps) [
      | inl before ↦ absurd (live_free (link_at s (id_after s.last one.steps)) (two.passed one.steps before) (ap (link_at s) (sym one.is) ∙ one.free))
      | inr past ↦ elim (cases_lt two.steps one.steps) [
        | inl after ↦ absurd (live_free (link_at s (id_after s.last two.steps)) (one.passed two.steps after) (ap (link_at s) (sym two.is) ∙ two.free))
        | inr same ↦
            let steps : one.steps ≡ two.steps = omega (arith, past, same) in
            one.is ∙ ap (id_after s.last) steps ∙ sym two.is
      ]
    ]

-- ---- each call

module _ (old x y : World) where
  quiet_both : (who : ℕ) (f : LinkView → LinkView) → ChangesQuietly old who f x → ChangesQuietly old who f y → AreSameWorlds x y
  quiet_both who f one two =
      let e : two.end' ≡ one.end' = same_read old.ends who who two.end' one.end' refl two.at one.at in
      let b : two.before ≡ one.before = same_read old.hosts two.end'.host one.end'.host two.before one.before (ap (λ (z : EndNow). z.host) e) two.there one.there in
      let id : two.end'.id ≡ one.end'.id = ap (λ (z : EndNow). z.id) e in
      let h : two.held ≡ one.held = one_some (sym two.holds ∙ ap (λ (z : HostState). held_at z.endpoint two.end'.id) b ∙ ap (held_at one.before.endpoint) id ∙ one.holds) in
      let changes : ChangesEnd one.before.endpoint two.after.endpoint one.end'.id (record one.held { link = f one.held.link }) =
      subst (λ (z : HostState). ChangesEnd z.endpoint two.after.endpoint one.end'.id (record one.held { link = f one.held.link })) b
      (subst (λ i. ChangesEnd two.before.endpoint two.after.endpoint i (record one.held { link = f one.held.link })) id
      (subst (λ (z : Held). ChangesEnd two.before.endpoint two.after.endpoint two.end'.id (record z { link = f z.link })) h two.changes)) in
      let alike : AreAlike one.after two.after = record {
        endpoint = changes_both one.before.endpoint one.after.endpoint two.after.endpoint one.end'.id _ one.changes changes;
        here = λ i. ap (λ ps. end_at ps i) (two.here ∙ ap (λ (z : HostState). z.here) b ∙ sym one.here);
      } in
      let hosts : y.hosts ≡ set old.hosts one.end'.host two.after = two.hosts ∙ ap (λ k. set old.hosts k two.after) (ap (λ (z : EndNow). z.host) e) in
      record {
        count = count_both old.hosts x.hosts y.hosts one.end'.host one.after two.after one.hosts hosts;
        hosts = hosts_both old.hosts x.hosts y.hosts one.end'.host one.after two.after one.hosts hosts alike;
        ends = two.ends ∙ sym one.ends;
        parcels = two.parcels ∙ sym one.parcels;
        log = two.log ∙ sym one.log;
        moment = two.moment ∙ sym one.moment;
      }

  link_both : (who : ℕ) (f : LinkView → LinkView) (n : Note) → ChangesLink old who f n x → ChangesLink old who f n y → AreSameWorlds x y
  link_both who f n one two =
      let e : two.end' ≡ one.end' = same_read old.ends who who two.end' one.end' refl two.at one.at in
      let b : two.before ≡ one.before = same_read old.hosts two.end'.host one.end'.host two.before one.before (ap (λ (z : EndNow). z.host) e) two.there one.there in
      let id : two.end'.id ≡ one.end'.id = ap (λ (z : EndNow). z.id) e in
      let h : two.held ≡ one.held = one_some (sym two.holds ∙ ap (λ (z : HostState). held_at z.endpoint two.end'.id) b ∙ ap (held_at one.before.endpoint) id ∙ one.holds) in
      let changes : ChangesEnd one.before.endpoint two.after.endpoint one.end'.id (record one.held { link = f one.held.link }) =
      subst (λ (z : HostState). ChangesEnd z.endpoint two.after.endpoint one.end'.id (record one.held { link = f one.held.link })) b
      (subst (λ i. ChangesEnd two.before.endpoint two.after.endpoint i (record one.held { link = f one.held.link })) id
      (subst (λ (z : Held). ChangesEnd two.before.endpoint two.after.endpoint two.end'.id (record z { link = f z.link })) h two.changes)) in
      let alike : AreAlike one.after two.after = record {
        endpoint = changes_both one.before.endpoint one.after.endpoint two.after.endpoint one.end'.id _ one.changes changes;
        here = λ i. ap (λ ps. end_at ps i) (two.here ∙ ap (λ (z : HostState). z.here) b ∙ sym one.here);
      } in
      let hosts : y.hosts ≡ set old.hosts one.end'.host two.after = two.hosts ∙ ap (λ k. set old.hosts k two.after) (ap (λ (z : EndNow). z.host) e) in
      record {
        count = count_both old.hosts x.hosts y.hosts one.end'.host one.after two.after one.hosts hosts;
        hosts = hosts_both old.hosts x.hosts y.hosts one.end'.host one.after two.after one.hosts hosts alike;
        ends = two.ends ∙ sym one.ends;
        parcels = two.parcels ∙ sym one.parcels;
        log = two.log ∙ sym one.log;
        moment = two.moment ∙ sym one.moment;
      }

  -- a refusal changes nothing, at any host
  refuses_both : (host host' : ℕ) → host' ≡ host → RefusesAt old host x → RefusesAt old host' y → AreSameWorlds x y
  refuses_both host host' same one two =
      let b : two.before ≡ one.before = same_read old.hosts host' host two.before one.before same two.there one.there in
      let but : SameBut one.before.endpoint two.after.endpoint = subst (λ (z : HostState). SameBut z.endpoint two.after.endpoint) b two.same in
      let alike : AreAlike one.after two.after = record {
        endpoint = but_both one.before.endpoint one.after.endpoint two.after.endpoint one.same but;
        here = λ i. ap (λ ps. end_at ps i) (two.here ∙ ap (λ (z : HostState). z.here) b ∙ sym one.here);
      } in
      let hosts : y.hosts ≡ set old.hosts host two.after = two.hosts ∙ ap (λ k. set old.hosts k two.after) same in
      record {
        count = count_both old.hosts x.hosts y.hosts host one.after two.after one.hosts hosts;
        hosts = hosts_both old.hosts x.hosts y.hosts host one.after two.after one.hosts hosts alike;
        ends = two.ends ∙ sym one.ends;
        parcels = two.parcels ∙ sym one.parcels;
        log = two.log ∙ sym one.log;
        moment = two.moment ∙ sym one.moment;
      }

  releases : (who : ℕ) → ReleasesOf old who x → ReleasesOf old who y → AreSameWorlds x y
  releases who one two =
      let e : two.end' ≡ one.end' = same_read old.ends who who two.end' one.end' refl two.at one.at in
      let b : two.before ≡ one.before = same_read old.hosts two.end'.host one.end'.host two.before one.before (ap (λ (z : EndNow). z.host) e) two.there one.there in
      let id : two.end'.id ≡ one.end'.id = ap (λ (z : EndNow). z.id) e in
      let gone : ReleasesEnd one.before.endpoint two.after.endpoint one.end'.id =
      subst (λ (z : HostState). ReleasesEnd z.endpoint two.after.endpoint one.end'.id) b
      (subst (λ i. ReleasesEnd two.before.endpoint two.after.endpoint i) id two.releases) in
      let alike : AreAlike one.after two.after = record {
        endpoint = releases_both one.before.endpoint one.after.endpoint two.after.endpoint one.end'.id one.releases gone;
        here = λ q. elim (cases_eq q one.end'.id) [
          | inl same ↦ ap (end_at two.after.here) (same ∙ sym id) ∙ two.forgotten ∙ sym (ap (end_at one.after.here) same ∙ one.forgotten)
          | inr differ ↦ two.known q (λ at. differ (at ∙ id)) ∙ ap (λ (z : HostState). end_at z.here q) b ∙ sym (one.known q differ)
        ];
      } in
      let hosts : y.hosts ≡ set old.hosts one.end'.host two.after = two.hosts ∙ ap (λ k. set old.hosts k two.after) (ap (λ (z : EndNow). z.host) e) in
      record {
        count = count_both old.hosts x.hosts y.hosts one.end'.host one.after two.after one.hosts hosts;
        hosts = hosts_both old.hosts x.hosts y.hosts one.end'.host one.after two.after one.hosts hosts alike;
        ends = two.ends ∙ ap (λ (z : EndNow). set old.ends who (record z { released = true })) e ∙ sym one.ends;
        parcels = two.parcels ∙ sym one.parcels;
        log = two.log ∙ sym one.log;
        moment = two.moment ∙ sym one.moment;
      }

  ticks : (now : ℕ) → Ticks old now x → Ticks old now y → AreSameWorlds x y
  ticks now one two =
      record {
        count = ap length (two.hosts ∙ sym one.hosts);
        hosts = hosts_same old.hosts x.hosts y.hosts one.hosts two.hosts;
        ends = two.ends ∙ sym one.ends;
        parcels = two.parcels ∙ sym one.parcels;
        log = two.log ∙ sym one.log;
        moment = two.moment ∙ sym one.moment;
      }

  injects : (segment : Network) (next : Node) (bytes : List ℕ) → InjectsInto old segment next bytes x → InjectsInto old segment next bytes y → AreSameWorlds x y
  injects segment next bytes one two =
      record {
        count = ap length (two.hosts ∙ sym one.hosts);
        hosts = hosts_same old.hosts x.hosts y.hosts one.hosts two.hosts;
        ends = two.ends ∙ sym one.ends;
        parcels = two.parcels ∙ sym one.parcels;
        log = two.log ∙ sym one.log;
        moment = two.moment ∙ sym one.moment;
      }

  takes : (who : ℕ) (r r' : Result TakenView EndFault) → TakesOf old who r x → TakesOf old who r' y → (r' ≡ r) × AreSameWorlds x y
  takes who r r' one two =
      let e : two.end' ≡ one.end' = same_read old.ends who who two.end' one.end' refl two.at one.at in
      let b : two.before ≡ one.before = same_read old.hosts two.end'.host one.end'.host two.before one.before (ap (λ (z : EndNow). z.host) e) two.there one.there in
      let id : two.end'.id ≡ one.end'.id = ap (λ (z : EndNow). z.id) e in
      let h : two.held ≡ one.held = one_some (sym two.holds ∙ ap (λ (z : HostState). held_at z.endpoint two.end'.id) b ∙ ap (held_at one.before.endpoint) id ∙ one.holds) in
      let answer : r' ≡ r = two.answers ∙ ap (λ (z : Held). (take_end z).0) h ∙ sym one.answers in
      let changes : ChangesEnd one.before.endpoint two.after.endpoint one.end'.id (take_end one.held).1 =
      subst (λ (z : HostState). ChangesEnd z.endpoint two.after.endpoint one.end'.id (take_end one.held).1) b
      (subst (λ i. ChangesEnd two.before.endpoint two.after.endpoint i (take_end one.held).1) id
      (subst (λ (z : Held). ChangesEnd two.before.endpoint two.after.endpoint two.end'.id (take_end z).1) h two.changes)) in
      let alike : AreAlike one.after two.after = record {
        endpoint = changes_both one.before.endpoint one.after.endpoint two.after.endpoint one.end'.id _ one.changes changes;
        here = λ i. ap (λ ps. end_at ps i) (two.here ∙ ap (λ (z : HostState). z.here) b ∙ sym one.here);
      } in
      let hosts : y.hosts ≡ set old.hosts one.end'.host two.after = two.hosts ∙ ap (λ k. set old.hosts k two.after) (ap (λ (z : EndNow). z.host) e) in (
        answer,
        record {
          count = count_both old.hosts x.hosts y.hosts one.end'.host one.after two.after one.hosts hosts;
          hosts = hosts_both old.hosts x.hosts y.hosts one.end'.host one.after two.after one.hosts hosts alike;
          ends = two.ends ∙ ap (λ z. set old.ends who (marked_over z two.end')) answer ∙ ap (λ z. set old.ends who (marked_over r z)) e ∙ sym one.ends;
          parcels = two.parcels ∙ sym one.parcels;
          log = two.log
              ∙ ap (λ z. old.log ++ unit_notes z (first_of two.held.link.held) who ++ whole_notes z who) answer
              ∙ ap (λ (z : Held). old.log ++ unit_notes r (first_of z.link.held) who ++ whole_notes r who) h
              ∙ sym one.log;
          moment = two.moment ∙ sym one.moment;
        },
      )

  dials : (host : ℕ) (socket : Socket) (to : Address) (buffers i j : ℕ) → DialsFrom old host socket to buffers i x → DialsFrom old host socket to buffers j y → AreSameWorlds x y
  dials host socket to buffers i j one two =
      let b : two.before ≡ one.before = same_read old.hosts host host two.before one.before refl two.there one.there in
      let id : j ≡ i = free_both one.before.endpoint.links j i (subst (λ (z : HostState). IsNextFree z.endpoint.links j) b two.free) one.free in
      let adds : AddsEnd one.before.endpoint two.after.endpoint i (dialed i socket to buffers old.moment) =
      subst (λ (z : HostState). AddsEnd z.endpoint two.after.endpoint i (dialed i socket to buffers old.moment)) b
      (subst (λ k. AddsEnd two.before.endpoint two.after.endpoint k (dialed k socket to buffers old.moment)) id two.adds) in
      let alike : AreAlike one.after two.after = record {
        endpoint = adds_both one.before.endpoint one.after.endpoint two.after.endpoint i _ one.adds adds;
        here = λ q. ap (λ ps. end_at ps q) (two.here ∙ ap (λ k. two.before.here ++ (k, length old.ends) ∷ []) id ∙ ap (λ (z : HostState). z.here ++ (i, length old.ends) ∷ []) b ∙ sym one.here);
      } in
      record {
        count = count_both old.hosts x.hosts y.hosts host one.after two.after one.hosts two.hosts;
        hosts = hosts_both old.hosts x.hosts y.hosts host one.after two.after one.hosts two.hosts alike;
        ends = two.ends ∙ ap (λ k. old.ends ++ record { host = host; id = k; released = false; overlong = false } ∷ []) id ∙ sym one.ends;
        parcels = two.parcels ∙ sym one.parcels;
        log = two.log ∙ sym one.log;
        moment = two.moment ∙ sym one.moment;
      }

  -- ---- with their answers

  refused_both : (who : ℕ) (f g : EndFault) (a b : AnswerView) → f ≡ g → RefusedOf who f a old x → RefusedOf who g b old y → (b ≡ a) × AreSameWorlds x y
  refused_both who f g a b same one two =
      let e : two.0 ≡ one.0 = same_read old.ends who who two.0 one.0 refl two.1 one.1 in (
        two.2.0 ∙ ap Refused (sym same) ∙ sym one.2.0,
        refuses_both one.0.host two.0.host (ap (λ (z : EndNow). z.host) e) one.2.1 two.2.1,
      )

  done_both : (P : World → World → Type 0) (fault : World → Option EndFault) (IsRefused : World → EndFault → Type 0) (who : ℕ) (a b : AnswerView)
      → (P old x → P old y → AreSameWorlds x y) → ((f : EndFault) → IsRefused old f → (fault old ≡ Some f) ⊎ IsForMemory (Refused f))
      → ¬ IsForMemory a → ¬ IsForMemory b → IsDoneOrRefused P fault IsRefused who a old x → IsDoneOrRefused P fault IsRefused who b old y → (b ≡ a) × AreSameWorlds x y
  done_both P fault IsRefused who a b both is_fault na nb one two =
      elim one [
        | inl did ↦ elim two [
          | inl did' ↦ (did'.0 ∙ sym did.0, both did.2 did'.2)
          | inr left ↦ elim (is_fault left.0 left.1) [
            | inl meets ↦ absurd (cc (sym did.1 ∙ meets))
            | inr memory ↦ absurd (nb (subst IsForMemory (sym left.2.2.0) memory))
          ]
        ]
        | inr left ↦ elim (is_fault left.0 left.1) [
          | inr memory ↦ absurd (na (subst IsForMemory (sym left.2.2.0) memory))
          | inl meets ↦ elim two [
            | inl did ↦ absurd (cc (sym did.1 ∙ meets))
            | inr left' ↦ elim (is_fault left'.0 left'.1) [
              | inr memory ↦ absurd (nb (subst IsForMemory (sym left'.2.2.0) memory))
              | inl meets' ↦ refused_both who left.0 left'.0 a b (one_some (sym meets ∙ meets')) left.2 left'.2
            ]
          ]
        ]
      ]

  dial_both : (host : ℕ) (socket : Socket) (to : Address) (buffers : ℕ) (a b : AnswerView) → ¬ IsForMemory a → ¬ IsForMemory b
      → Dialling host socket to buffers a old x → Dialling host socket to buffers b old y → (b ≡ a) × AreSameWorlds x y
  dial_both host socket to buffers a b na nb one two =
      elim one [
        | inl did ↦ elim two [
          | inl did' ↦ (did'.0 ∙ sym did.0, dials host socket to buffers did.2 did'.2 did.3 did'.3)
          | inr left ↦ elim left.1 [
            | inl meets ↦ absurd (cc (sym did.1 ∙ meets))
            | inr memory ↦ absurd (nb (inr (inl (left.2.0 ∙ ap Refused memory.0))))
          ]
        ]
        | inr left ↦ elim left.1 [
          | inr memory ↦ absurd (na (inr (inl (left.2.0 ∙ ap Refused memory.0))))
          | inl meets ↦ elim two [
            | inl did ↦ absurd (cc (sym did.1 ∙ meets))
            | inr left' ↦ elim left'.1 [
              | inr memory ↦ absurd (nb (inr (inl (left'.2.0 ∙ ap Refused memory.0))))
              | inl meets' ↦ (left'.2.0 ∙ ap Refused (sym (one_some (sym meets ∙ meets'))) ∙ sym left.2.0, refuses_both host host refl left.2.1 left'.2.1)
            ]
          ]
        ]
      ]

  take_both : (who : ℕ) (a b : AnswerView) → ¬ IsForMemory a → ¬ IsForMemory b → TakingFrom who a old x → TakingFrom who b old y → (b ≡ a) × AreSameWorlds x y
  take_both who a b na nb one two =
      elim one [
        | inl t ↦ elim two [
          | inl u ↦ let r = takes who (Ok t.0) (Ok u.0) t.2 u.2 in (u.1 ∙ ap Taken (same_ok u.0 t.0 r.0) ∙ sym t.1, r.1)
          | inr rest ↦ elim rest [
            | inl over ↦ let r = takes who (Ok t.0) (Err overlong) t.2 over.1 in absurd (cc r.0)
            | inr memory ↦ absurd (nb (inl memory.1.2.0))
          ]
        ]
        | inr rest ↦ elim rest [
          | inr memory ↦ absurd (na (inl memory.1.2.0))
          | inl over ↦ elim two [
            | inl u ↦ let r = takes who (Err overlong) (Ok u.0) over.1 u.2 in absurd (cc r.0)
            | inr rest' ↦ elim rest' [
              | inl over' ↦ let r = takes who (Err overlong) (Err overlong) over.1 over'.1 in (over'.0 ∙ sym over.0, r.1)
              | inr memory ↦ absurd (nb (inl memory.1.2.0))
            ]
          ]
        ]
      ]

closes_fault : (h : Option Held) (f : EndFault) → CloseIsRefused h f → (close_fault h ≡ Some f) ⊎ IsForMemory (Refused f)
closes_fault h f is = elim is [ inl meets ↦ inl meets | inr memory ↦ inr (inr (inr (ap Refused memory.0))) ]

sends_fault : (h : Option Held) (m : MessageView) (f : EndFault) → SendIsRefused h m f → (send_fault h m ≡ Some f) ⊎ IsForMemory (Refused f)
sends_fault h m f is =
    elim is [
      | inl meets ↦ inl meets
      | inr rest ↦ elim rest [
        | inl cut ↦ inr (inl (ap Refused cut.0))
        | inr queue ↦ inr (inr (inr (ap Refused queue.0)))
      ]
    ]

-- every event but a poll and a delivery
abbrev pub IsCall : Event → Type 0
IsCall (Events.Poll member) = ⊥
IsCall (Events.Deliver parcel place) = ⊥
IsCall event = Unit {0}

pub calls_have_one_outcome : (event : Event) (a b : AnswerView) (old x y : NetNow) → IsCall event → Happens event a old x → Happens event b old y → ¬ IsForMemory a → ¬ IsForMemory b → (b ≡ a) × AreSameNets x y
calls_have_one_outcome (Events.Dial host socket to buffers) a b old x y call one two na nb =
    let r = dial_both old.world x.world y.world host socket to buffers a b na nb one.0 two.0 in (r.0, same_nets old x y r.1 one.1 two.1)
calls_have_one_outcome (Events.Send who message) a b old x y call one two na nb =
    let m : MessageView = message_view message in
    let h : Option Held = held_under old.world who in
    let r = done_both old.world x.world y.world (λ v w. SendsTo v who m w) (λ w. send_fault (held_under w who) m) (λ w. SendIsRefused (held_under w who) m) who a b
    (λ s t. link_both old.world x.world y.world who (λ l. offer_link l (cut_of m)) (Notes.HandsIn who m) s.changes t.changes) (sends_fault h m) na nb one.0 two.0 in
    (r.0, same_nets old x y r.1 one.1 two.1)
calls_have_one_outcome (Events.Take who) a b old x y call one two na nb =
    let r = take_both old.world x.world y.world who a b na nb one.0 two.0 in (r.0, same_nets old x y r.1 one.1 two.1)
calls_have_one_outcome (Events.Close who) a b old x y call one two na nb =
    let h : Option Held = held_under old.world who in
    let r = done_both old.world x.world y.world (λ v w. Closes v who w) (λ w. close_fault (held_under w who)) (λ w. CloseIsRefused (held_under w who)) who a b
    (λ s t. link_both old.world x.world y.world who end_link (Notes.AsksEnd who) s t) (closes_fault h) na nb one.0 two.0 in
    (r.0, same_nets old x y r.1 one.1 two.1)
calls_have_one_outcome (Events.Pace who window manual) a b old x y call one two na nb =
    (two.0.0 ∙ sym one.0.0, same_nets old x y (quiet_both old.world x.world y.world who (λ l. pace_link l window manual) one.0.1 two.0.1) one.1 two.1)
calls_have_one_outcome (Events.Again who place) a b old x y call one two na nb =
    (two.0.0 ∙ sym one.0.0, same_nets old x y (quiet_both old.world x.world y.world who (λ l. again_link l place) one.0.1 two.0.1) one.1 two.1)
calls_have_one_outcome (Events.Release who) a b old x y call one two na nb =
    (two.0.0 ∙ sym one.0.0, same_nets old x y (releases old.world x.world y.world who one.0.1 two.0.1) one.1 two.1)
calls_have_one_outcome (Events.Tick now) a b old x y call one two na nb =
    (two.0.0 ∙ sym one.0.0, same_nets old x y (ticks old.world x.world y.world now one.0.1 two.0.1) one.1 two.1)
calls_have_one_outcome (Events.Poll member) a b old x y call one two na nb = absurd call
calls_have_one_outcome (Events.Deliver parcel place) a b old x y call one two na nb = absurd call
calls_have_one_outcome (Events.Inject segment next bytes) a b old x y call one two na nb =
    (two.0.0 ∙ sym one.0.0, same_nets old x y (injects old.world x.world y.world segment next bytes.items one.0.1 two.0.1) one.1 two.1)
