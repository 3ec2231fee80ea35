-- A poll and a delivery have one outcome, and so does each event.
use Rattle.std.proofs.Common.{ℕ, ◌≡◌, ◌++◌, ◌∷◌, [], List, Bool, true, false, length, length-set, set, MatchBool, Option, refl, sym, ◌∙◌, ap, subst}
use Rattle.ipx_router.specs.Answer.{Receives}
use Rattle.ipx_router.specs.Knowledge.{HoldsRoutes, HoldsServices, Known, known_at, routes_in, services_in, tables}
use Rattle.ipx_router.specs.OneValue.{IsOneHolding, IsOneStart, AdvertisementsAreDetermined}
use Rattle.ipx_router.specs.OutcomeView.{OutcomeView}
use Rattle.ipx_router.specs.OutcomeView as Outcomes
use Rattle.ipx_router.specs.RouterPackets.{SendingView}
use Rattle.ipx_router.specs.RouterView.{RouterView}
use Rattle.ipx_router.specs.Starting.{AreStarts}
use Rattle.ipx_router.specs.declared.port.Port.{Port}
use Rattle.spx_messages.specs.Arrives.{Arrives}
use Rattle.spx_messages.specs.Changes.{SameBut}
use Rattle.spx_messages.specs.EndpointView.{EndpointView, Held, held_at}
use Rattle.spx_messages.specs.OneValue.{IsOnePoll}
use Rattle.spx_messages.specs.declared.arrived.Arrived.{Arrived}
use Rattle.spx_messages.specs.declared.arrived.Arrived.TheVariants as Arriveds
use Rattle.spx_theory.specs.Note as Notes
use Rattle.spx_theory.specs.HostSteps.{arrival_notes, buffers_of, ends_after, heard_notes, here_after}
use Rattle.spx_theory.specs.Routers.{GivesOwnLetters, told_notes}
use Rattle.spx_theory.specs.World.{HostState, ParcelView, World, end_at}
use Rattle.ipx_net.specs.AnswerView.{AnswerView, ArrivedAt, Parcels}
use Rattle.ipx_net.specs.HostEvents.{DeliveringToHost, arrival_answer, end_for}
use Rattle.ipx_net.specs.NetView.{NetNow}
use Rattle.ipx_net.specs.OneOutcome.{AreAlike, AreAlikeRouters, AreSameNets, EventsHaveOneOutcome}
use Rattle.ipx_net.specs.RouterEvents.{DeliveringToRouter, PollingRouter, RouterDoes, numbers}
use Rattle.ipx_net.specs.RouterMembers.{IsPolled, letters_of}
use Rattle.ipx_net.specs.declared.event.Event.TheVariants as Events
use Rattle.ipx_net.specs.declared.event.Member.TheVariants as Members
use Rattle.ipx_net.specs.declared.place.Place.TheVariants as Places
use Rattle.ipx_net.specs.declared.routers.RouterNow.{RouterNow}
use Rattle.ipx_net.proofs.OneOutcome.{AreSameWorlds, calls_have_one_outcome, count_both, hosts_both, hosts_same, routers_both, same_nets, same_read}
use Rattle.ipx_net.proofs.PollOutcome.{polls_host_both}

-- what is known to be unique at endpoints and routers
pub record MemberLaws : Type 0 where
  pub answer : (old new other : EndpointView) (bytes : List ℕ) (now : ℕ) (a b : Arrived) → Arrives old bytes now a new → Arrives old bytes now b other → a ≡ b
  pub same : (old new other : EndpointView) (bytes : List ℕ) (now : ℕ) (a b : Arrived) → Arrives old bytes now a new → Arrives old bytes now b other → SameBut new other
  pub heard : (old new other : EndpointView) (bytes : List ℕ) (now : ℕ) (a b : Arrived) → Arrives old bytes now a new → Arrives old bytes now b other → other.heard ≡ new.heard
  pub outcome : (old new other : RouterView) (port : ℕ) (bytes : List ℕ) (now : ℕ) (a b : OutcomeView) → Receives old port bytes now a new → Receives old port bytes now b other → a ≡ b
  pub offers : (old new other : RouterView) (port : ℕ) (bytes : List ℕ) (now : ℕ) (a b : OutcomeView) → Receives old port bytes now a new → Receives old port bytes now b other
      → HoldsRoutes new.routes (routes_in other.routes) × HoldsServices new.services (services_in other.services)
  pub poll : IsOnePoll
  pub telling : AdvertisementsAreDetermined
  pub holding : IsOneHolding
  pub start : IsOneStart

-- ---- a parcel is delivered to a host

notes_same : (r : Arrived) (s t : HostState) (n parcel : ℕ) → ((q : ℕ) → held_at t.endpoint q ≡ held_at s.endpoint q) → t.here ≡ s.here → t.endpoint.heard ≡ s.endpoint.heard
    → arrival_notes r t n parcel ≡ arrival_notes r s n parcel
notes_same (Arriveds.Bad f) s t n parcel held here heard = refl
notes_same Arriveds.NotOurs s t n parcel held here heard = refl
notes_same (Arriveds.BadSpx f) s t n parcel held here heard = refl
notes_same Arriveds.NoListener s t n parcel held here heard = refl
notes_same Arriveds.NoRoom s t n parcel held here heard = refl
notes_same Arriveds.Stranger s t n parcel held here heard = refl
notes_same (Arriveds.Accepted id) s t n parcel held here heard = ap (λ (h : Option Held). Notes.Accepted n parcel (buffers_of h) ∷ Notes.Got n parcel ∷ []) (held id)
notes_same (Arriveds.Link id r) s t n parcel held here heard =
    ap (λ hs. heard_notes hs t.endpoint.heard r parcel) here ∙ ap (λ o. heard_notes s.here o r parcel) heard

ends_same : (r : Arrived) (s t : HostState) (n : ℕ) → t.here ≡ s.here → end_for r t n ≡ end_for r s n
ends_same (Arriveds.Bad f) s t n here = refl
ends_same Arriveds.NotOurs s t n here = refl
ends_same (Arriveds.BadSpx f) s t n here = refl
ends_same Arriveds.NoListener s t n here = refl
ends_same Arriveds.NoRoom s t n here = refl
ends_same Arriveds.Stranger s t n here = refl
ends_same (Arriveds.Accepted id) s t n here = refl
ends_same (Arriveds.Link id r) s t n here = ap (λ hs. end_at hs id) here

module _ (laws : MemberLaws) (old x y : World) where
  delivers_host_both : (parcel host : ℕ) (a b : AnswerView) → DeliveringToHost parcel host a old x → DeliveringToHost parcel host b old y → (b ≡ a) × AreSameWorlds x y
  delivers_host_both parcel host a b p q =
      let one = p.1 in
      let two = q.1 in
      let n : ℕ = length old.ends in
      let same : two.before ≡ one.before = same_read old.hosts host host two.before one.before refl two.there one.there in
      let letter : two.letter ≡ one.letter = same_read old.parcels parcel parcel two.letter one.letter refl two.comes one.comes in
      let arrives : Arrives one.before.endpoint one.letter.bytes old.moment q.0 two.after.endpoint =
      subst (λ (z : HostState). Arrives z.endpoint one.letter.bytes old.moment q.0 two.after.endpoint) same
      (subst (λ (z : ParcelView). Arrives two.before.endpoint z.bytes old.moment q.0 two.after.endpoint) letter two.arrives) in
      let answer : q.0 ≡ p.0 = sym (laws.answer one.before.endpoint one.after.endpoint two.after.endpoint one.letter.bytes old.moment p.0 q.0 one.arrives arrives) in
      let but : SameBut one.after.endpoint two.after.endpoint = laws.same one.before.endpoint one.after.endpoint two.after.endpoint one.letter.bytes old.moment p.0 q.0 one.arrives arrives in
      let heard = laws.heard one.before.endpoint one.after.endpoint two.after.endpoint one.letter.bytes old.moment p.0 q.0 one.arrives arrives in
      let here : two.after.here ≡ one.after.here = two.here ∙ ap (λ r. here_after r n two.before.here) answer ∙ ap (λ (z : HostState). here_after p.0 n z.here) same ∙ sym one.here in
      let alike : AreAlike one.after two.after = record { endpoint = but; here = λ i. ap (λ ps. end_at ps i) here } in
      let notes : arrival_notes q.0 two.after n parcel ≡ arrival_notes p.0 one.after n parcel =
      ap (λ r. arrival_notes r two.after n parcel) answer ∙ notes_same p.0 one.after two.after n parcel but.held here heard in
      let said : arrival_answer q.0 two.after n ≡ arrival_answer p.0 one.after n =
      ap (λ r. arrival_answer r two.after n) answer ∙ ap (λ o. ArrivedAt o p.0) (ends_same p.0 one.after two.after n here) in (
        q.2 ∙ said ∙ sym p.2,
        record {
          count = count_both old.hosts x.hosts y.hosts host one.after two.after one.hosts two.hosts;
          hosts = hosts_both old.hosts x.hosts y.hosts host one.after two.after one.hosts two.hosts alike;
          ends = two.ends ∙ ap (λ r. ends_after r host old.ends) answer ∙ sym one.ends;
          parcels = two.parcels ∙ sym one.parcels;
          log = two.log ∙ ap (λ ns. old.log ++ ns) notes ∙ sym one.log;
          moment = two.moment ∙ sym one.moment;
        },
      )

-- ---- a router is polled

asked_one : (b : Bool) (ports : List Port) (asked asked' : List SendingView) → IsOneStart → MatchBool b (asked ≡ []) (AreStarts 1 ports asked) → MatchBool b (asked' ≡ []) (AreStarts 1 ports asked') → asked' ≡ asked
asked_one true ports asked asked' start one two = two ∙ sym one
asked_one false ports asked asked' start one two = sym (start 1 ports asked asked' one two)

polled_one : (laws : MemberLaws) (r one two : RouterNow) (now : ℕ) (sent sent' : List SendingView) → IsPolled r one now sent → IsPolled r two now sent' → (sent' ≡ sent) × AreAlikeRouters one two
polled_one laws r one two now sent sent' p q =
    let k : Known = known_at r.router now in
    let asked : q.asked ≡ p.asked = asked_one r.started r.router.ports p.asked q.asked laws.start p.asks q.asks in
    let told = laws.telling k k r.router.advertised_at now p.told q.told one.router.advertised_at two.router.advertised_at (record { ports = refl; routes = λ s. refl; services = λ s. refl }) p.tells q.tells in
    let holds = laws.holding k (tables one.router) (tables two.router) p.known q.known in (
      q.are ∙ ap (λ xs. xs ++ q.told) asked ∙ ap (λ xs. p.asked ++ xs) (sym told.0) ∙ sym p.are,
      record {
        kept = record {
          ports = q.rest.ports ∙ sym p.rest.ports;
          most_routes = q.rest.most_routes ∙ sym p.rest.most_routes;
          most_services = q.rest.most_services ∙ sym p.rest.most_services;
        };
        routes = holds.0;
        services = holds.1;
        told = sym told.1;
        started = q.started ∙ sym p.started;
      },
    )

-- ---- what routers do to worlds

module _ (old x y : World) where
  own_letters_both : (router : ℕ) (ls ls' : List ParcelView) → ls' ≡ ls → GivesOwnLetters old router ls x → GivesOwnLetters old router ls' y → AreSameWorlds x y
  own_letters_both router ls ls' same one two =
      record {
        count = ap length (two.hosts ∙ sym one.hosts);
        hosts = hosts_same old.hosts x.hosts y.hosts one.hosts two.hosts;
        ends = two.ends ∙ sym one.ends;
        parcels = two.parcels ∙ ap (λ zs. old.parcels ++ zs) same ∙ sym one.parcels;
        log = two.log ∙ ap (λ zs. old.log ++ told_notes router (length old.parcels) zs) same ∙ sym one.log;
        moment = two.moment ∙ sym one.moment;
      }

  stays_both : x ≡ old → y ≡ old → AreSameWorlds x y
  stays_both one two =
      record {
        count = ap (λ (w : World). length w.hosts) (two ∙ sym one);
        hosts = hosts_same old.hosts x.hosts y.hosts (ap (λ (w : World). w.hosts) one) (ap (λ (w : World). w.hosts) two);
        ends = ap (λ (w : World). w.ends) (two ∙ sym one);
        parcels = ap (λ (w : World). w.parcels) (two ∙ sym one);
        log = ap (λ (w : World). w.log) (two ∙ sym one);
        moment = ap (λ (w : World). w.moment) (two ∙ sym one);
      }

  does_both : (parcel router : ℕ) (ports : List Port) (o : OutcomeView) (a b : AnswerView) → RouterDoes parcel router ports o a old x → RouterDoes parcel router ports o b old y → (b ≡ a) × AreSameWorlds x y
  does_both parcel router ports (Outcomes.Forward port next bytes) a b p q =
      let one = p.1 in
      let two = q.1 in (
        q.0 ∙ sym p.0,
        record {
          count = ap length (two.hosts ∙ sym one.hosts);
          hosts = hosts_same old.hosts x.hosts y.hosts one.hosts two.hosts;
          ends = two.ends ∙ sym one.ends;
          parcels = two.parcels ∙ sym one.parcels;
          log = two.log ∙ sym one.log;
          moment = two.moment ∙ sym one.moment;
        },
      )
  does_both parcel router ports (Outcomes.Replies sent) a b p q =
      (q.0 ∙ sym p.0, own_letters_both router (letters_of router ports sent) (letters_of router ports sent) refl p.1 q.1)
  does_both parcel router ports (Outcomes.Heard n) a b p q = (q.0 ∙ sym p.0, stays_both p.1 q.1)
  does_both parcel router ports (Outcomes.Dropped reason) a b p q = (q.0 ∙ sym p.0, stays_both p.1 q.1)

-- ---- networks

router_nets : (old x y : NetNow) (router : ℕ) (a b : RouterNow) → AreSameWorlds x.world y.world → x.routers ≡ set old.routers router a → y.routers ≡ set old.routers router b → AreAlikeRouters a b → AreSameNets x y
router_nets old x y router a b w one two alike =
    record {
      count = w.count;
      hosts = w.hosts;
      ends = w.ends;
      parcels = w.parcels;
      log = w.log;
      moment = w.moment;
      router_count = ap length two ∙ length-set old.routers router b ∙ sym (length-set old.routers router a) ∙ sym (ap length one);
      routers = routers_both old.routers x.routers y.routers router a b one two alike;
    }

module _ (laws : MemberLaws) (old x y : NetNow) where
  polls_router_both : (router : ℕ) (a b : AnswerView) → PollingRouter router a old x → PollingRouter router b old y → (b ≡ a) × AreSameNets x y
  polls_router_both router a b one two =
      let same : two.before ≡ one.before = same_read old.routers router router two.before one.before refl two.there one.there in
      let p = polled_one laws one.before one.after two.after old.world.moment one.sent two.sent one.polled (subst (λ (z : RouterNow). IsPolled z two.after old.world.moment two.sent) same two.polled) in
      let letters : letters_of router two.before.router.ports two.sent ≡ letters_of router one.before.router.ports one.sent =
      ap (λ (z : RouterNow). letters_of router z.router.ports two.sent) same ∙ ap (letters_of router one.before.router.ports) p.0 in (
        two.answer ∙ ap (λ sent. Parcels (numbers (length old.world.parcels) sent)) p.0 ∙ sym one.answer,
        router_nets old x y router one.after two.after (own_letters_both old.world x.world y.world router _ _ letters one.tells two.tells) one.routers two.routers p.1,
      )

  delivers_router_both : (parcel router port : ℕ) (a b : AnswerView) → DeliveringToRouter parcel router port a old x → DeliveringToRouter parcel router port b old y → (b ≡ a) × AreSameNets x y
  delivers_router_both parcel router port a b one two =
      let now : ℕ = old.world.moment in
      let same : two.before ≡ one.before = same_read old.routers router router two.before one.before refl two.there one.there in
      let letter : two.letter ≡ one.letter = same_read old.world.parcels parcel parcel two.letter one.letter refl two.comes one.comes in
      let receives : Receives one.before.router port one.letter.bytes now two.outcome two.after.router =
      subst (λ (z : RouterNow). Receives z.router port one.letter.bytes now two.outcome two.after.router) same
      (subst (λ (z : ParcelView). Receives two.before.router port z.bytes now two.outcome two.after.router) letter two.receives) in
      let outcome : two.outcome ≡ one.outcome = sym (laws.outcome one.before.router one.after.router two.after.router port one.letter.bytes now one.outcome two.outcome one.receives receives) in
      let offers = laws.offers one.before.router one.after.router two.after.router port one.letter.bytes now one.outcome two.outcome one.receives receives in
      let does : RouterDoes parcel router one.before.router.ports one.outcome b old.world y.world =
      subst (λ (z : RouterNow). RouterDoes parcel router z.router.ports one.outcome b old.world y.world) same
      (subst (λ o. RouterDoes parcel router two.before.router.ports o b old.world y.world) outcome two.does) in
      let both = does_both old.world x.world y.world parcel router one.before.router.ports one.outcome a b one.does does in
      let alike : AreAlikeRouters one.after two.after = record {
        kept = record {
          ports = receives.rest.ports ∙ sym one.receives.rest.ports;
          most_routes = receives.rest.most_routes ∙ sym one.receives.rest.most_routes;
          most_services = receives.rest.most_services ∙ sym one.receives.rest.most_services;
        };
        routes = offers.0;
        services = offers.1;
        told = receives.told ∙ sym one.receives.told;
        started = two.started ∙ ap (λ (z : RouterNow). z.started) same ∙ sym one.started;
      } in (
        both.0,
        router_nets old x y router one.after two.after both.1 one.routers two.routers alike,
      )

pub events_have_one_outcome : MemberLaws → EventsHaveOneOutcome
events_have_one_outcome laws (Events.Poll (Members.Host host)) a b old x y one two na nb =
    let r = polls_host_both laws.poll old.world x.world y.world host a b one.0 two.0 in (r.0, same_nets old x y r.1 one.1 two.1)
events_have_one_outcome laws (Events.Poll (Members.Router router)) a b old x y one two na nb = polls_router_both laws old x y router a b one two
events_have_one_outcome laws (Events.Deliver parcel (Places.Host host)) a b old x y one two na nb =
    let r = delivers_host_both laws old.world x.world y.world parcel host a b one.0 two.0 in (r.0, same_nets old x y r.1 one.1 two.1)
events_have_one_outcome laws (Events.Deliver parcel (Places.Port router port)) a b old x y one two na nb = delivers_router_both laws old x y parcel router port a b one two
events_have_one_outcome laws (Events.Dial host socket to buffers) a b old x y one two na nb = calls_have_one_outcome (Events.Dial host socket to buffers) a b old x y tt one two na nb
events_have_one_outcome laws (Events.Send who message) a b old x y one two na nb = calls_have_one_outcome (Events.Send who message) a b old x y tt one two na nb
events_have_one_outcome laws (Events.Take who) a b old x y one two na nb = calls_have_one_outcome (Events.Take who) a b old x y tt one two na nb
events_have_one_outcome laws (Events.Close who) a b old x y one two na nb = calls_have_one_outcome (Events.Close who) a b old x y tt one two na nb
events_have_one_outcome laws (Events.Pace who window manual) a b old x y one two na nb = calls_have_one_outcome (Events.Pace who window manual) a b old x y tt one two na nb
events_have_one_outcome laws (Events.Again who place) a b old x y one two na nb = calls_have_one_outcome (Events.Again who place) a b old x y tt one two na nb
events_have_one_outcome laws (Events.Release who) a b old x y one two na nb = calls_have_one_outcome (Events.Release who) a b old x y tt one two na nb
events_have_one_outcome laws (Events.Tick now) a b old x y one two na nb = calls_have_one_outcome (Events.Tick now) a b old x y tt one two na nb
events_have_one_outcome laws (Events.Inject segment next bytes) a b old x y one two na nb = calls_have_one_outcome (Events.Inject segment next bytes) a b old x y tt one two na nb
