-- Static routes and services of a router's file are kept while a router with its ports runs below
-- `WithStatics`.
use Rattle.std.proofs.Common.{◌≡◌, ℕ, true, List, [], ◌∷◌, All, Contains, sym, ap, ◌∙◌, subst}
use Rattle.std.proofs.lemmas.List.Elements.{All-contains}
use Rattle.ipx_control.specs.declared.rip.packet.RipEntry.{RipEntry}
use Rattle.ipx_control.specs.declared.sap.packet.ServiceEntry.{ServiceEntry}
use Rattle.ipx_tables.specs.declared.source.Source.{Source}
use Rattle.ipx_router.specs.declared.port.Port.{Port}
use Rattle.ipx_router.specs.Hearing.{is_heard, route_metric, service_metric}
use Rattle.ipx_router.specs.Knowledge.{routes_in, services_in}
use Rattle.ipx_router.specs.Advertisements.{is_due}
use Rattle.ipx_router.specs.AdvertisedEntries.{key_of_service}
use Rattle.ipx_carrier.specs.PriorityRouterCore.{PriorityCoreView}
use Rattle.ipx_static.specs.declared.neighbour.StaticNeighbour.{StaticNeighbour}
use Rattle.ipx_static.specs.WithStatics.{WithStaticsView}
use Rattle.ipx_static.specs.StaticOffers.{Counts, IsAnotherNode}
use Rattle.ipx_static.specs.StaticRuns.{Asked, AsksOnceMore, Comes, ComesAs, DependsOn, IsAskedEachMinute, OffersItself, StaticCall, StaticCallAt, StaticRoutesHold, RunsWithStatics, StaticServicesHold, TellsItself, asked_by}
use Rattle.ipx_static.specs.StaticAdvertisements.{AreStaticAdvertisements}
use Rattle.ipx_config.specs.declared.statics.StaticEntry.{StaticEntry}
use Rattle.ipx_config.specs.declared.statics.StaticItem.{StaticItem}
use Rattle.ipx_config.specs.declared.statics.StaticItem.TheVariants.{Route, Service}
use Rattle.ipx_config.specs.declared.site.RouterConfig.{RouterConfig}
use Rattle.ipx_site.specs.StaticsHold.{DependsOnRoute, DependsOnService, NeighbourMayAdvertise, MayAdvertise, RoutesOfFilesHold, RunsByFile, ServicesOfFilesHold}
use Rattle.ipx_config.specs.SitePorts.{router_ports}
use Rattle.ipx_site.proofs.StandingEntries.{files_stand, route_entry, service_entry}

-- it is such a run of the silent neighbours
run_of : (s : RouterConfig) (start : ℕ) (calls : List StaticCallAt) (old new : WithStaticsView PriorityCoreView) → RunsByFile s start calls old new
    → (ns : List StaticNeighbour) → AreStaticAdvertisements ns old.advertisements → is_due old.refreshed_at start ≡ true
    → All (IsAnotherNode (router_ports s.ports.items)) ns → RunsWithStatics ns start calls old new
run_of s start calls old new run ns words due others = record {
  advertisements = words;
  others = subst (λ (ps : List Port). All (IsAnotherNode ps) ns) (sym run.ports) others;
  due = due;
  given = run.given;
  first = run.first;
  begins = run.begins;
  goes_on = run.goes_on;
  room = run.room;
}

-- a condition on what comes in holds if a stronger one does
comes_as : (A B : ℕ → List ℕ → Type 0) → ((port : ℕ) (bytes : List ℕ) → A port bytes → B port bytes) → (c : StaticCall) → ComesAs A c → ComesAs B c
comes_as A B less (Comes port bytes) h = less port bytes h
comes_as A B less (Asked given) h = h
comes_as A B less AsksOnceMore h = h

asked_as : (A B : ℕ → List ℕ → Type 0) → ((port : ℕ) (bytes : List ℕ) → A port bytes → B port bytes) → (cs : List StaticCallAt) (asked : ℕ) → IsAskedEachMinute A cs asked → IsAskedEachMinute B cs asked
asked_as A B less [] asked h = h
asked_as A B less (c ∷ cs) asked h = (h.0, comes_as A B less c.call h.1, asked_as A B less cs (asked_by c.moment c.call asked) h.2)

pub routes_of_files : StaticRoutesHold → RoutesOfFilesHold
routes_of_files law text s described start calls old new run h at e word quiet now within =
    let (ns, silent, words, unsaid) = run.to_hear in
    let ports = router_ports s.ports.items in
    let (others, entries) = files_stand text s described ns silent in
    let (n, among, by, stands) = All-contains (NeighbourMayAdvertise ports ns) s.statics.items h entries at in
    let (there, alone, hears, near) = subst (λ (w : StaticItem). MayAdvertise ports ns n w) word stands in
    let runs = run_of s start calls old new run ns words (ap (λ said. is_due said start) unsaid) others in
    let of_file : (x : RipEntry) → Contains n.routes.items x → (g : StaticEntry) × Contains s.statics.items g × (g.by ≡ h.by) × (g.word ≡ Route x) =
    λ x m. let (g, inside, source, says) = route_entry s.statics.items ns silent n among x m in (g, inside, source ∙ by, says) in
    subst (λ (source : Source). Counts (route_metric e) now (routes_in new.core.router.routes (e.network, source))) by
    (law ns start calls old new runs n among e there
    (λ x m needed k within_ns same.
    let (g, inside, source, says) = of_file x m in
    let (other, found, is, other_holds) = All-contains (NeighbourMayAdvertise ports ns) s.statics.items g entries inside in
    let (listed, said_alone, heard, close) = subst (λ (w : StaticItem). MayAdvertise ports ns other w) says other_holds in
    said_alone k within_ns (same ∙ by ∙ sym source ∙ sym is))
    (subst (λ (ps : List Port). is_heard ps e ≡ true) (sym run.ports) hears) near
    (asked_as (λ port bytes. (x : RipEntry) → DependsOnRoute s old new h e x → TellsItself ports n x.network port bytes → ⊥)
    (λ port bytes. (x : RipEntry) → Contains n.routes.items x → DependsOn old new e x → TellsItself old.core.router.ports n x.network port bytes → ⊥)
    (λ port bytes such x m needed told. let (g, inside, source, says) = of_file x m in such x (needed, g, inside, source, says) (subst (λ (ps : List Port). TellsItself ps n x.network port bytes) run.ports told)) calls start (quiet n by)) now within)

pub services_of_files : StaticServicesHold → ServicesOfFilesHold
services_of_files law text s described start calls old new run h at e word quiet now within =
    let (ns, silent, words, unsaid) = run.to_hear in
    let ports = router_ports s.ports.items in
    let (others, entries) = files_stand text s described ns silent in
    let (n, among, by, stands) = All-contains (NeighbourMayAdvertise ports ns) s.statics.items h entries at in
    let (there, alone, near) = subst (λ (w : StaticItem). MayAdvertise ports ns n w) word stands in
    let runs = run_of s start calls old new run ns words (ap (λ said. is_due said start) unsaid) others in
    let of_file : (x : ServiceEntry) → Contains n.services.items x → (g : StaticEntry) × Contains s.statics.items g × (g.by ≡ h.by) × (g.word ≡ Service x) =
    λ x m. let (g, inside, source, says) = service_entry s.statics.items ns silent n among x m in (g, inside, source ∙ by, says) in
    subst (λ (source : Source). Counts (service_metric e) now (services_in new.core.router.services (key_of_service e, source))) by
    (law ns start calls old new runs n among e there
    (λ x m needed k within_ns same.
    let (g, inside, source, says) = of_file x m in
    let (other, found, is, other_holds) = All-contains (NeighbourMayAdvertise ports ns) s.statics.items g entries inside in
    let (listed, said_alone, close) = subst (λ (w : StaticItem). MayAdvertise ports ns other w) says other_holds in
    said_alone k within_ns (same ∙ by ∙ sym source ∙ sym is))
    near
    (asked_as (λ port bytes. (x : ServiceEntry) → DependsOnService s old new h e x → OffersItself ports n (key_of_service x) port bytes → ⊥)
    (λ port bytes. (x : ServiceEntry) → Contains n.services.items x → DependsOn old new e x → OffersItself old.core.router.ports n (key_of_service x) port bytes → ⊥)
    (λ port bytes such x m needed told. let (g, inside, source, says) = of_file x m in such x (needed, g, inside, source, says) (subst (λ (ps : List Port). OffersItself ps n (key_of_service x) port bytes) run.ports told)) calls start (quiet n by)) now within)
