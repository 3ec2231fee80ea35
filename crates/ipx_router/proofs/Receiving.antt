-- From the answer after old offers were removed to what the router answers.
use Rattle.std.proofs.Common.{◌≡◌, ℕ, Bool, List, length, Option, None, Result, Ok, Err, refl, sym, subst}
use Rattle.std.specs.Prelude.{IfOk, IfErr, OnErr, MatchOption, MatchResult, count_by}
use Rattle.std.proofs.Math.Path.{fun_ext}
use Rattle.ipx_wire.specs.declared.address.Network.{Network}
use Rattle.ipx_wire.specs.declared.memory.OutOfMemory.{OutOfMemory}
use Rattle.ipx_wire.specs.Ipx.{PacketView}
use Rattle.ipx_control.specs.declared.fault.ControlFault.{ControlFault}
use Rattle.ipx_control.specs.declared.rip.packet.RipEntry.{RipEntry}
use Rattle.ipx_control.specs.declared.sap.packet.ServiceEntry.{ServiceEntry}
use Rattle.ipx_control.specs.Rip.{RipView, IsRip, rip_entries, rip_fault}
use Rattle.ipx_control.specs.Rip as rip
use Rattle.ipx_control.specs.Sap.{SapView, IsSap, sap_fault, sap_services}
use Rattle.ipx_control.specs.Sap as sap
use Rattle.ipx_tables.specs.declared.fault.TableFault.{TableFault}
use Rattle.ipx_tables.specs.declared.fault.TableFault.TheVariants.{Full, OutOfMemory as out_of_memory}
use Rattle.ipx_tables.specs.declared.route.RouteMetric.{RouteMetric}
use Rattle.ipx_tables.specs.declared.service.ServiceKey.{ServiceKey}
use Rattle.ipx_tables.specs.declared.service.ServiceMetric.{ServiceMetric}
use Rattle.ipx_tables.specs.declared.source.Source.{Source}
use Rattle.ipx_tables.specs.Content.{Table, after_age}
use Rattle.ipx_router.specs.declared.outcome.Outcome.{Outcome}
use Rattle.ipx_router.specs.declared.port.Port.{Port}
use Rattle.ipx_router.specs.declared.port.PortNow.{PortNow}
use Rattle.ipx_router.specs.declared.reason.Reason.TheVariants.{BadControl, TableFull}
use Rattle.ipx_router.specs.RouterView.{RouterView}
use Rattle.ipx_router.specs.Knowledge.{AreTables, KeepsAllButOffers, Routes, Services, HoldsRoutes, HoldsServices, known_aged, known_at, known_in, routes_in, services_in, tables}
use Rattle.ipx_router.specs.Hearing.{AtEntry, GrowsByRoute, GrowsByService, HeardRoutes, HeardServices, IsFullForRoute, IsFullForService, is_heard, source_of}
use Rattle.ipx_router.specs.Ports.{IsPort}
use Rattle.ipx_router.specs.OutcomeView.{OutcomeView, Heard, Dropped, router_outcome}
use Rattle.ipx_router.specs.Answer.{AnswersBytes, AnswersRip, AnswersRipMessage, AnswersSap, AnswersSapMessage, HearsRoutes, HearsServices, Receives}
use Rattle.ipx_router.specs.OutOfMemoryCases.{BytesOutOfMemory, BytesOutOfMemoryInPlace, HearingRoutesOutOfMemory, HearingServicesOutOfMemory, RipOutOfMemory, SapOutOfMemory, RunsOutOfMemory, RunsOutOfMemoryInPlace}
use Rattle.ipx_router.specs.Forwarded.{ForwardsEachReading, ForwardsOneHopOn, ForwardsPacket}

-- what tables say after old offers were removed is what is known then
pub known_same : (ports : List Port) (now : ℕ) (old_routes routes : Table Network RouteMetric) (old_services services : Table ServiceKey ServiceMetric)
    → ((p : Network × Source) → routes_in routes p ≡ after_age (routes_in old_routes) now p) → ((p : ServiceKey × Source) → services_in services p ≡ after_age (services_in old_services) now p)
    → known_in ports routes services ≡ known_aged ports old_routes old_services now
known_same ports now old_routes routes old_services services r s = λ i. record { ports = ports; routes = fun_ext r i; services = fun_ext s i }

-- ---- on the port of this number

module _ {O : Type 0} (old : RouterView) (port now : ℕ) (bytes : List ℕ) (arrived : Port) (is : IsPort old.ports port arrived) where
  pub receives_on : (view : O → OutcomeView) → (new : RouterView) → KeepsAllButOffers old new → new.advertised_at ≡ old.advertised_at → AreTables (tables new)
      → (o : Result O OutOfMemory) → IfOk o (λ x. AnswersBytes (known_at old now) (record { number = port; port = arrived; now = now }) bytes (view x) (tables new))
      → IfOk o (λ x. Receives old port bytes now (view x) new)
  receives_on view new rest told valid (Ok x) a = record { answers = (arrived, is, a); rest = rest; told = told; valid = valid }
  receives_on view new rest told valid (Err e) a = tt

  pub needs_on : (new : RouterView) → (o : Result O OutOfMemory) → OnErr o (BytesOutOfMemory (known_at old now) (record { number = port; port = arrived; now = now }) bytes (tables new))
      → OnErr o (RunsOutOfMemory old port bytes now new)
  needs_on new (Ok x) a = tt
  needs_on new (Err e) a = (arrived, is, a)

  pub needs_in_place : (new : RouterView) → (o : Result O OutOfMemory) → OnErr o (BytesOutOfMemoryInPlace (known_at old now) (record { number = port; port = arrived; now = now }) bytes (tables new))
      → OnErr o (RunsOutOfMemoryInPlace old port bytes now new)
  needs_in_place new (Ok x) a = tt
  needs_in_place new (Err e) a = (arrived, is, a)

  pub forwards_on : (view : O → OutcomeView) → (o : Result O OutOfMemory) → IfOk o (λ x. ForwardsPacket bytes (view x)) → IfOk o (λ x. ForwardsEachReading arrived bytes (view x))
      → IfOk o (λ x. ForwardsOneHopOn old port bytes (view x))
  forwards_on view (Ok x) found one_hop_on = (arrived, is, found, one_hop_on)
  forwards_on view (Err e) found one_hop_on = tt

-- ---- responses

module _ (ports : List Port) (routes : Routes) (at : PortNow) (d : PacketView) (tail : List ℕ) (entries : List RipEntry) (source : Source) (from : source ≡ source_of at d.header)
    (none : rip_fault d.body ≡ None) (is : IsRip (rip.Response entries) d.body tail) (new : Table Network RouteMetric) where
  rip_answer : (a : OutcomeView) → HearsRoutes ports routes source at.now entries a new → AnswersRip ports routes at d a new
  rip_answer a h =
      subst (λ (f : Option ControlFault). MatchOption f ((m : RipView) × (tail : List ℕ) × IsRip m d.body tail × AnswersRipMessage ports routes at d.header m a new) (λ f. (a ≡ Dropped (BadControl f)) × HoldsRoutes new routes)) (sym none)
      (rip.Response entries, tail, is, subst (λ (s : Source). HearsRoutes ports routes s at.now entries a new) from h)

  pub rip_heard : (heard : Result ℕ TableFault) (o : Result Outcome OutOfMemory)
      → IfOk heard (λ n. (n ≡ count_by (is_heard ports) entries) × HeardRoutes ports source at.now entries routes (length entries) new)
      → IfErr heard (λ f. (n : ℕ) × HeardRoutes ports source at.now entries routes n new × (f ≡ Full → AtEntry entries n (IsFullForRoute ports source new)) × (f ≡ out_of_memory → AtEntry entries n (GrowsByRoute ports source new)))
      → IfOk o (λ x. MatchResult heard (λ n. router_outcome x ≡ Heard n) (λ f. (f ≡ Full) × (router_outcome x ≡ Dropped TableFull)))
      → IfOk o (λ x. AnswersRip ports routes at d (router_outcome x) new)
  rip_heard (Ok n) (Ok x) ok err says = subst (λ (a : OutcomeView). AnswersRip ports routes at d a new) (sym says) (rip_answer (Heard n) ok)
  rip_heard (Err f) (Ok x) ok err says = subst (λ (a : OutcomeView). AnswersRip ports routes at d a new) (sym says.1) (rip_answer (Dropped TableFull) (refl, err.0, err.1, err.2 says.0))
  rip_heard (Ok n) (Err e) ok err says = tt
  rip_heard (Err f) (Err e) ok err says = tt

  pub rip_needs : (heard : Result ℕ TableFault) (o : Result Outcome OutOfMemory)
      → IfErr heard (λ f. (n : ℕ) × HeardRoutes ports source at.now entries routes n new × (f ≡ Full → AtEntry entries n (IsFullForRoute ports source new)) × (f ≡ out_of_memory → AtEntry entries n (GrowsByRoute ports source new)))
      → OnErr o (heard ≡ Err out_of_memory) → OnErr o (RipOutOfMemory ports routes at d new)
  rip_needs heard (Ok x) err says = tt
  rip_needs (Ok n) (Err e) err says = cc
  rip_needs (Err f) (Err e) err says =
      let wants : f ≡ out_of_memory = cc in
      (rip.Response entries, tail, is, subst (λ (s : Source). HearingRoutesOutOfMemory ports routes s at.now entries new) from (err.0, err.1, err.3 wants))

module _ (services : Services) (at : PortNow) (d : PacketView) (tail : List ℕ) (nearest : Bool) (entries : List ServiceEntry) (source : Source) (from : source ≡ source_of at d.header)
    (none : sap_fault d.body ≡ None) (is : IsSap (sap.Response nearest entries) d.body tail) (new : Table ServiceKey ServiceMetric) where
  sap_answer : (a : OutcomeView) → HearsServices services source at.now entries a new → AnswersSap services at d a new
  sap_answer a h =
      subst (λ (f : Option ControlFault). MatchOption f ((m : SapView) × (tail : List ℕ) × IsSap m d.body tail × AnswersSapMessage services at d.header m a new) (λ f. (a ≡ Dropped (BadControl f)) × HoldsServices new services)) (sym none)
      (sap.Response nearest entries, tail, is, subst (λ (s : Source). HearsServices services s at.now entries a new) from h)

  pub sap_heard : (heard : Result ℕ TableFault) (o : Result Outcome OutOfMemory)
      → IfOk heard (λ n. (n ≡ length entries) × HeardServices source at.now entries services (length entries) new)
      → IfErr heard (λ f. (n : ℕ) × HeardServices source at.now entries services n new × (f ≡ Full → AtEntry entries n (IsFullForService source new)) × (f ≡ out_of_memory → AtEntry entries n (GrowsByService source new)))
      → IfOk o (λ x. MatchResult heard (λ n. router_outcome x ≡ Heard n) (λ f. (f ≡ Full) × (router_outcome x ≡ Dropped TableFull)))
      → IfOk o (λ x. AnswersSap services at d (router_outcome x) new)
  sap_heard (Ok n) (Ok x) ok err says = subst (λ (a : OutcomeView). AnswersSap services at d a new) (sym says) (sap_answer (Heard n) ok)
  sap_heard (Err f) (Ok x) ok err says = subst (λ (a : OutcomeView). AnswersSap services at d a new) (sym says.1) (sap_answer (Dropped TableFull) (refl, err.0, err.1, err.2 says.0))
  sap_heard (Ok n) (Err e) ok err says = tt
  sap_heard (Err f) (Err e) ok err says = tt

  pub sap_needs : (heard : Result ℕ TableFault) (o : Result Outcome OutOfMemory)
      → IfErr heard (λ f. (n : ℕ) × HeardServices source at.now entries services n new × (f ≡ Full → AtEntry entries n (IsFullForService source new)) × (f ≡ out_of_memory → AtEntry entries n (GrowsByService source new)))
      → OnErr o (heard ≡ Err out_of_memory) → OnErr o (SapOutOfMemory services at d new)
  sap_needs heard (Ok x) err says = tt
  sap_needs (Ok n) (Err e) err says = cc
  sap_needs (Err f) (Err e) err says =
      let wants : f ≡ out_of_memory = cc in
      (sap.Response nearest entries, tail, is, subst (λ (s : Source). HearingServicesOutOfMemory services s at.now entries new) from (err.0, err.1, err.3 wants))
