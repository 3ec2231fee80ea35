-- Static routes and services stay over a run.
use Rattle.std.proofs.Common.{◌≡◌, ◌≢◌, ◌≤◌, ◌<◌, ◌+◌, ℕ, true, List, Contains, take, Option, Some, refl, sym, ap, ◌∙◌, subst, inl, inr, arith}
use Rattle.std.specs.List.{All}
use Rattle.ipx_control.specs.declared.rip.packet.RipEntry.{RipEntry}
use Rattle.ipx_control.specs.declared.sap.packet.ServiceEntry.{ServiceEntry}
use Rattle.ipx_tables.specs.declared.source.Source.{Source}
use Rattle.ipx_tables.specs.declared.route.RouteMetric.{RouteMetric}
use Rattle.ipx_tables.specs.declared.service.ServiceMetric.{ServiceMetric}
use Rattle.ipx_tables.specs.Content.{after_age, still}
use Rattle.ipx_tables.specs.Route.{network_cmp, network_exact, route_dead}
use Rattle.ipx_tables.specs.Service.{service_dead, service_key_cmp, service_key_exact}
use Rattle.ipx_router.specs.Answer.{Receives}
use Rattle.ipx_router.specs.OutcomeView.{OutcomeView}
use Rattle.ipx_router.specs.declared.port.Port.{Port}
use Rattle.ipx_router.specs.declared.port.PortNow.{PortNow}
use Rattle.ipx_router.specs.Ports.{IsPort}
use Rattle.ipx_router.specs.Hearing.{is_heard, route_metric, service_metric, source_of}
use Rattle.ipx_router.specs.Knowledge.{routes_in, services_in}
use Rattle.ipx_router.specs.RouterView.{RouterView}
use Rattle.ipx_router.specs.Advertisements.{is_due}
use Rattle.ipx_router.specs.AdvertisedEntries.{key_of_service, route_key}
use Rattle.ipx_carrier.specs.PriorityRouterCore.{PriorityCoreView, PriorityHears}
use Rattle.ipx_static.specs.declared.neighbour.StaticNeighbour.{StaticNeighbour}
use Rattle.ipx_static.specs.WithStatics.{WithStaticsView, HearsIfDue}
use Rattle.ipx_static.specs.StaticOffers.{Counts, FindsSpace, HearsWithStatics, IsAnotherNode, IsAdvertisedAlone, StaticRoutesAreOffers, StaticRoutesAreRefreshed, StaticServicesAreOffers, StaticServicesAreRefreshed, static_source}
use Rattle.ipx_static.specs.StaticRuns.{DependsOn, IsAskedEachMinute, OffersItself, RunsWithStatics, StaticCallAt, StaticRoutesHold, StaticServicesHold, TellsItself, asked_in}
use Rattle.ipx_static.specs.StaticAdvertisements.{AreStaticAdvertisements}
use Rattle.ipx_static.proofs.OneKey.{front_list, leaves}
use Rattle.ipx_static.proofs.QuietPackets.{routes_by, services_by}
use Rattle.ipx_static.proofs.StandingRuns.{AnyRoom, any_of_each, room_of_each, same_or_not, whole_run}
use Rattle.ipx_static.proofs.WordOffers.{Apart, each_service, near_enough, network_total, service_key_total}

-- if the count stays over the whole run, it stays after the first time that the core is asked
room_later : {old first new : PriorityCoreView} → FindsSpace old first → new.outcomes.table_full ≡ old.outcomes.table_full → FindsSpace first new
room_later r same = record { room = same ∙ sym r.room; countable = omega (arith, r.room, r.countable) }

module _ (law : StaticRoutesAreOffers) (again : StaticRoutesAreRefreshed) (apart : Apart) (ns : List StaticNeighbour) (start : ℕ) (calls : List StaticCallAt) (old new : WithStaticsView PriorityCoreView)
    (run : RunsWithStatics ns start calls old new) (n : StaticNeighbour) (there : Contains ns n) (e : RipEntry)
    (alone : (x : RipEntry) → Contains n.routes.items x → DependsOn old new e x → IsAdvertisedAlone route_key route_metric (λ m. m.routes.items) ns n x) where
  -- one of the routes on which that one depends
  record Needed_routes : Type 0 where
    pub entry : RipEntry
    pub among : Contains n.routes.items entry
    pub needed : DependsOn old new e entry
    pub near : entry.hops < 16
    pub heard : is_heard old.core.router.ports entry ≡ true

  abbrev metric_of_routes : Needed_routes → RouteMetric
  metric_of_routes i = route_metric i.entry

  abbrev value_of_routes : Needed_routes → RouterView → Option (RouteMetric × ℕ)
  value_of_routes i r = routes_in r.routes (i.entry.network, static_source n)

  abbrev Quiet_routes : ℕ → List ℕ → Type 0
  Quiet_routes port bytes = (x : RipEntry) → Contains n.routes.items x → DependsOn old new e x → TellsItself old.core.router.ports n x.network port bytes → ⊥

  hears_routes : (v w : WithStaticsView PriorityCoreView) (now : ℕ) → v.core.router.ports ≡ old.core.router.ports → v.advertisements ≡ old.advertisements → is_due v.refreshed_at now ≡ true → HearsIfDue PriorityHears v now w → HearsWithStatics ns now v w
  hears_routes v w now same_ports same_words due heard = record {
    advertisements = subst (AreStaticAdvertisements ns) (sym same_words) run.advertisements;
    others = subst (λ (ps : List Port). All (IsAnotherNode ps) ns) (sym same_ports) run.others;
    due = due;
    heard = heard;
  }

  -- if there is room, each of them is an offer after the advertisements are received
  says_routes : (v w : WithStaticsView PriorityCoreView) (now : ℕ) → v.core.router.ports ≡ old.core.router.ports → v.advertisements ≡ old.advertisements → is_due v.refreshed_at now ≡ true → HearsIfDue PriorityHears v now w
      → FindsSpace v.core w.core → (i : Needed_routes) → value_of_routes i w.core.router ≡ Some (metric_of_routes i, now)
  says_routes v w now same_ports same_words due heard room i =
      law ns now v w (hears_routes v w now same_ports same_words due heard) room n there i.entry i.among (alone i.entry i.among i.needed) (subst (λ (ps : List Port). is_heard ps i.entry ≡ true) (sym same_ports) i.heard) i.near

  -- and if all of them count, for any room
  says_again_routes : (new.core.outcomes.table_full ≢ old.core.outcomes.table_full) → (v w : WithStaticsView PriorityCoreView) (now : ℕ) → v.core.router.ports ≡ old.core.router.ports → v.advertisements ≡ old.advertisements → is_due v.refreshed_at now ≡ true → HearsIfDue PriorityHears v now w
      → ((i : Needed_routes) → Counts (metric_of_routes i) now (value_of_routes i v.core.router)) → (i : Needed_routes) → value_of_routes i w.core.router ≡ Some (metric_of_routes i, now)
  says_again_routes filled v w now same_ports same_words due heard stand i =
      again ns now v w (hears_routes v w now same_ports same_words due heard) n there (λ x m. alone x m (inr filled))
      (λ x m hears near. stand (record { entry = x; among = m; needed = inr filled; near = near; heard = subst (λ (ps : List Port). is_heard ps x ≡ true) same_ports hears }))
      i.entry i.among (subst (λ (ps : List Port). is_heard ps i.entry ≡ true) (sym same_ports) i.heard) i.near

  left_routes : (i : Needed_routes) (before after : RouterView) (port : ℕ) (bytes : List ℕ) (now : ℕ) (a : OutcomeView) → before.ports ≡ old.core.router.ports → Quiet_routes port bytes → Receives before (port + 1) bytes now a after
      → value_of_routes i after ≡ still now (value_of_routes i before)
  left_routes i before after port bytes now a same_ports such h =
      let own = static_source n in
      routes_by before after (port + 1) bytes now h.answers.0 (value_of_routes i after ≡ still now (value_of_routes i before))
      (λ holds. holds (i.entry.network, own))
      (λ d tail ipx class entries rest is k holds.
      let at : PortNow = record { number = port + 1; port = h.answers.0; now = now } in
      holds (i.entry.network, own)
      ∙ leaves network_cmp network_total network_exact apart route_dead route_key route_metric (is_heard before.ports) now i.entry (near_enough i.entry.hops i.near) own (source_of at d.header) (take k entries) (after_age (routes_in before.routes) now)
      (λ same y m key. such i.entry i.among i.needed (d, record { on_port = ap (λ (s : Source). s.port) same; arrived = h.answers.0; there = subst (λ (ps : List Port). IsPort ps (port + 1) h.answers.0) same_ports h.answers.1; tail = tail; packet = ipx; taken = class; of_node = ap (λ (s : Source). s.neighbour) same }, entries, rest, is, y, front_list k entries y m, key)))
      a h.answers.2

  first_routes : (i : Needed_routes) → value_of_routes i run.begins.0.core.router ≡ Some (metric_of_routes i, start)
  first_routes = says_routes old run.begins.0 start refl refl run.due run.begins.1 (room_of_each.words old run.first start run.given run.begins run.room)

  stand_routes : IsAskedEachMinute Quiet_routes calls start → (now : ℕ) → now ≤ asked_in calls start + 60000 → (i : Needed_routes) → Counts (metric_of_routes i) now (value_of_routes i new.core.router)
  stand_routes each now within = elim (same_or_not old.core new.core) [
    | inl same ↦
        whole_run metric_of_routes old.core.router.ports old.advertisements value_of_routes Quiet_routes left_routes (λ i before after now told h. h.1.routes (i.entry.network, static_source n))
        FindsSpace room_of_each (λ v w now same_ports same_words due heard room stand. says_routes v w now same_ports same_words due heard room)
        start run.given calls old run.first new refl refl run.due run.begins first_routes run.goes_on (room_later run.room same) each now within
    | inr filled ↦
        whole_run metric_of_routes old.core.router.ports old.advertisements value_of_routes Quiet_routes left_routes (λ i before after now told h. h.1.routes (i.entry.network, static_source n))
        AnyRoom any_of_each (λ v w now same_ports same_words due heard room stand. says_again_routes filled v w now same_ports same_words due heard stand)
        start run.given calls old run.first new refl refl run.due run.begins first_routes run.goes_on tt each now within
  ]

pub routes_stand : StaticRoutesAreOffers → StaticRoutesAreRefreshed → Apart → StaticRoutesHold
routes_stand law again apart ns start calls old new run n there e among alone hears near each now within =
    stand_routes law again apart ns start calls old new run n there e alone each now within (record { entry = e; among = among; needed = inl refl; near = near; heard = hears })

module _ (law : StaticServicesAreOffers) (again : StaticServicesAreRefreshed) (apart : Apart) (ns : List StaticNeighbour) (start : ℕ) (calls : List StaticCallAt) (old new : WithStaticsView PriorityCoreView)
    (run : RunsWithStatics ns start calls old new) (n : StaticNeighbour) (there : Contains ns n) (e : ServiceEntry)
    (alone : (x : ServiceEntry) → Contains n.services.items x → DependsOn old new e x → IsAdvertisedAlone key_of_service service_metric (λ m. m.services.items) ns n x) where
  -- one of the services on which that one depends
  record Needed_services : Type 0 where
    pub entry : ServiceEntry
    pub among : Contains n.services.items entry
    pub needed : DependsOn old new e entry
    pub near : entry.hops < 16

  abbrev metric_of_services : Needed_services → ServiceMetric
  metric_of_services i = service_metric i.entry

  abbrev value_of_services : Needed_services → RouterView → Option (ServiceMetric × ℕ)
  value_of_services i r = services_in r.services (key_of_service i.entry, static_source n)

  abbrev Quiet_services : ℕ → List ℕ → Type 0
  Quiet_services port bytes = (x : ServiceEntry) → Contains n.services.items x → DependsOn old new e x → OffersItself old.core.router.ports n (key_of_service x) port bytes → ⊥

  hears_services : (v w : WithStaticsView PriorityCoreView) (now : ℕ) → v.core.router.ports ≡ old.core.router.ports → v.advertisements ≡ old.advertisements → is_due v.refreshed_at now ≡ true → HearsIfDue PriorityHears v now w → HearsWithStatics ns now v w
  hears_services v w now same_ports same_words due heard = record {
    advertisements = subst (AreStaticAdvertisements ns) (sym same_words) run.advertisements;
    others = subst (λ (ps : List Port). All (IsAnotherNode ps) ns) (sym same_ports) run.others;
    due = due;
    heard = heard;
  }

  -- if there is room, each of them is an offer after the advertisements are received
  says_services : (v w : WithStaticsView PriorityCoreView) (now : ℕ) → v.core.router.ports ≡ old.core.router.ports → v.advertisements ≡ old.advertisements → is_due v.refreshed_at now ≡ true → HearsIfDue PriorityHears v now w
      → FindsSpace v.core w.core → (i : Needed_services) → value_of_services i w.core.router ≡ Some (metric_of_services i, now)
  says_services v w now same_ports same_words due heard room i =
      law ns now v w (hears_services v w now same_ports same_words due heard) room n there i.entry i.among (alone i.entry i.among i.needed) i.near

  -- and if all of them count, for any room
  says_again_services : (new.core.outcomes.table_full ≢ old.core.outcomes.table_full) → (v w : WithStaticsView PriorityCoreView) (now : ℕ) → v.core.router.ports ≡ old.core.router.ports → v.advertisements ≡ old.advertisements → is_due v.refreshed_at now ≡ true → HearsIfDue PriorityHears v now w
      → ((i : Needed_services) → Counts (metric_of_services i) now (value_of_services i v.core.router)) → (i : Needed_services) → value_of_services i w.core.router ≡ Some (metric_of_services i, now)
  says_again_services filled v w now same_ports same_words due heard stand i =
      again ns now v w (hears_services v w now same_ports same_words due heard) n there (λ x m. alone x m (inr filled))
      (λ x m near. stand (record { entry = x; among = m; needed = inr filled; near = near }))
      i.entry i.among i.near

  left_services : (i : Needed_services) (before after : RouterView) (port : ℕ) (bytes : List ℕ) (now : ℕ) (a : OutcomeView) → before.ports ≡ old.core.router.ports → Quiet_services port bytes → Receives before (port + 1) bytes now a after
      → value_of_services i after ≡ still now (value_of_services i before)
  left_services i before after port bytes now a same_ports such h =
      let own = static_source n in
      services_by before after (port + 1) bytes now h.answers.0 (value_of_services i after ≡ still now (value_of_services i before))
      (λ holds. holds (key_of_service i.entry, own))
      (λ d tail ipx class nearest entries rest is k holds.
      let at : PortNow = record { number = port + 1; port = h.answers.0; now = now } in
      holds (key_of_service i.entry, own)
      ∙ leaves service_key_cmp service_key_total service_key_exact apart service_dead key_of_service service_metric each_service now i.entry (near_enough i.entry.hops i.near) own (source_of at d.header) (take k entries) (after_age (services_in before.services) now)
      (λ same y m key. such i.entry i.among i.needed (d, record { on_port = ap (λ (s : Source). s.port) same; arrived = h.answers.0; there = subst (λ (ps : List Port). IsPort ps (port + 1) h.answers.0) same_ports h.answers.1; tail = tail; packet = ipx; taken = class; of_node = ap (λ (s : Source). s.neighbour) same }, nearest, entries, rest, is, y, front_list k entries y m, key)))
      a h.answers.2

  first_services : (i : Needed_services) → value_of_services i run.begins.0.core.router ≡ Some (metric_of_services i, start)
  first_services = says_services old run.begins.0 start refl refl run.due run.begins.1 (room_of_each.words old run.first start run.given run.begins run.room)

  stand_services : IsAskedEachMinute Quiet_services calls start → (now : ℕ) → now ≤ asked_in calls start + 60000 → (i : Needed_services) → Counts (metric_of_services i) now (value_of_services i new.core.router)
  stand_services each now within = elim (same_or_not old.core new.core) [
    | inl same ↦
        whole_run metric_of_services old.core.router.ports old.advertisements value_of_services Quiet_services left_services (λ i before after now told h. h.1.services (key_of_service i.entry, static_source n))
        FindsSpace room_of_each (λ v w now same_ports same_words due heard room stand. says_services v w now same_ports same_words due heard room)
        start run.given calls old run.first new refl refl run.due run.begins first_services run.goes_on (room_later run.room same) each now within
    | inr filled ↦
        whole_run metric_of_services old.core.router.ports old.advertisements value_of_services Quiet_services left_services (λ i before after now told h. h.1.services (key_of_service i.entry, static_source n))
        AnyRoom any_of_each (λ v w now same_ports same_words due heard room stand. says_again_services filled v w now same_ports same_words due heard stand)
        start run.given calls old run.first new refl refl run.due run.begins first_services run.goes_on tt each now within
  ]

pub services_stand : StaticServicesAreOffers → StaticServicesAreRefreshed → Apart → StaticServicesHold
services_stand law again apart ns start calls old new run n there e among alone near each now within =
    stand_services law again apart ns start calls old new run n there e alone each now within (record { entry = e; among = among; needed = inl refl; near = near })
