-- What a table says after one more entry was learned.
use Rattle.std.proofs.Common.{◌≡◌, ℕ, ◌+◌, ◌<◌, Bool, true, false, cond, Result, Err, List, [], ◌∷◌, ◌++◌, length, get_or, take, Option, Some, None, refl, sym, ap, ◌∙◌, subst, inl, inr, arith}
use Rattle.std.specs.declared.cmp.Ordering.{Ordering}
use Rattle.std.specs.declared.cmp.Ordering.TheVariants.{Less, Equal, Greater}
use Rattle.std.specs.Ordering.{ordering_then, is_eq}
use Rattle.std.proofs.lemmas.Bool.{cases_lt}
use Rattle.std.proofs.Math.Seq.{get_or-append_seam}
use Rattle.std.proofs.lemmas.List.{length-append}
use Rattle.std.proofs.lemmas.List.Sums.{fold_more}
use Rattle.std.proofs.lemmas.Map.Lookups.{exact_unsigned}
use Rattle.std.proofs.lemmas.Option.{slice_get-get_or}
use Rattle.ipx_wire.specs.declared.address.Network.{Network}
use Rattle.ipx_control.specs.declared.rip.packet.RipEntry.{RipEntry}
use Rattle.ipx_control.specs.declared.sap.packet.ServiceEntry.{ServiceEntry}
use Rattle.ipx_tables.specs.declared.fault.TableFault.{TableFault}
use Rattle.ipx_tables.specs.declared.fault.TableFault.TheVariants.{Full, OutOfMemory}
use Rattle.ipx_tables.specs.declared.route.RouteMetric.{RouteMetric}
use Rattle.ipx_tables.specs.declared.service.ServiceKey.{ServiceKey}
use Rattle.ipx_tables.specs.declared.service.ServiceMetric.{ServiceMetric}
use Rattle.ipx_tables.specs.declared.source.Source.{Source}
use Rattle.ipx_tables.specs.Content.{Content, IsTable, Table, after_age, after_hear, content, is_same, is_young, source_cmp, still}
use Rattle.ipx_tables.specs.Room.{Fits}
use Rattle.ipx_tables.specs.Route.{network_cmp, route_dead}
use Rattle.ipx_tables.specs.Service.{service_key_cmp, service_dead}
use Rattle.ipx_router.specs.declared.port.Port.{Port}
use Rattle.ipx_router.specs.Knowledge.{Routes, Services, routes_in, services_in}
use Rattle.ipx_router.specs.AdvertisedEntries.{key_of_service}
use Rattle.ipx_router.specs.Hearing.{AtEntry, HeardFirst, HeardRoutes, HeardServices, after_route, after_routes, after_service, after_services, is_heard, route_metric, service_metric}
use Rattle.ipx_router.specs.Ports.{AreFromPorts, IsPortNumber}

module _ {K M E : Type 0} (cmp : K → K → Ordering) (after : List E → Content K M) (entries : List E) where
  -- one more entry was learned, or did not need to be
  pub heard_one_more : (i : ℕ) → i < length entries → (t new : Table K M) → HeardFirst cmp after entries i t → IsTable cmp new → new.capacity ≡ t.capacity
      → ((p : K × Source) → content cmp new.offers p ≡ after (take (i + 1) entries) p) → HeardFirst cmp after entries (i + 1) new
  heard_one_more i lt t new h valid most says = record {
    within = omega arith;
    room = λ m le. elim (cases_lt m (i + 1)) [
      | inl less ↦ subst (λ (k : ℕ). Fits cmp k (after (take m entries))) (sym most) (h.room m (omega arith))
      | inr not_less ↦
          let same : m ≡ i + 1 = omega arith in
          subst (λ (k : ℕ). Fits cmp new.capacity (after (take k entries))) (sym same) (record { table = new; valid = valid; room = refl; says = says })
    ];
    holds = says;
  }

  -- no entry was learned yet
  pub heard_none : (t : Table K M) → IsTable cmp t → ((p : K × Source) → content cmp t.offers p ≡ after (take 0 entries) p) → HeardFirst cmp after entries 0 t
  heard_none t valid says = record {
    within = omega arith;
    room = λ m le.
        let same : m ≡ 0 = omega arith in
        subst (λ (k : ℕ). Fits cmp t.capacity (after (take k entries))) (sym same) (record { table = t; valid = valid; room = refl; says = says });
    holds = says;
  }

  -- if the table refuses an entry, those before it were learned
  pub hearing_stops : (Stops Wants : Table K M → E → Type 0) (i : ℕ) (d e : E) (t new : Table K M) (result : Result (Unit {0}) TableFault) (f : TableFault)
      → i < length entries → get_or entries i d ≡ e → HeardFirst cmp after entries i t → new ≡ t → result ≡ Err f
      → (result ≡ Err Full → Stops t e) → (result ≡ Err OutOfMemory → Wants t e)
      → (n : ℕ) × HeardFirst cmp after entries n new × (f ≡ Full → AtEntry entries n (Stops new)) × (f ≡ OutOfMemory → AtEntry entries n (Wants new))
  hearing_stops Stops Wants i d e t new result f lt there h same is full wants =
      subst (λ (u : Table K M). (n : ℕ) × HeardFirst cmp after entries n u × (f ≡ Full → AtEntry entries n (Stops u)) × (f ≡ OutOfMemory → AtEntry entries n (Wants u))) (sym same) (
        i,
        h,
        λ why. record {
          entry = e;
          there = slice_get-get_or entries i d lt ∙ ap Some there;
          holds = full (is ∙ ap (λ (g : TableFault). let r : Result (Unit {0}) TableFault = Err g in r) why);
        },
        λ why. record {
          entry = e;
          there = slice_get-get_or entries i d lt ∙ ap Some there;
          holds = wants (is ∙ ap (λ (g : TableFault). let r : Result (Unit {0}) TableFault = Err g in r) why);
        },
      )

module _ (ports : List Port) (source : Source) (now : ℕ) (entries : List RipEntry) (routes : Routes) (i : ℕ) (d x : RipEntry) (lt : i < length entries) (there : get_or entries i d ≡ x) (t : Table Network RouteMetric) (h : HeardRoutes ports source now entries routes i t) where
  next : after_routes ports source now routes (take (i + 1) entries) ≡ after_route ports source now (after_routes ports source now routes (take i entries)) x
  next = fold_more (after_route ports source now) routes entries i d lt ∙ ap (λ (y : RipEntry). after_route ports source now (after_routes ports source now routes (take i entries)) y) there

  -- an entry that is not to be learned changes nothing
  pub heard_skip : IsTable network_cmp t → is_heard ports x ≡ false → HeardRoutes ports source now entries routes (i + 1) t
  heard_skip valid e =
      heard_one_more network_cmp (after_routes ports source now routes) entries i lt t t h valid refl (λ p.
      let c : Routes = after_routes ports source now routes (take i entries) in
      h.holds p ∙ sym (ap (λ (r : Routes). r p) next ∙ ap (λ (b : Bool). let r : Routes = cond b (after_hear network_cmp route_dead c (x.network, source) (route_metric x) now) c in r p) e))

  -- an entry that is learned replaces what its source said of its network
  pub heard_more : (new : Table Network RouteMetric) → IsTable network_cmp new → new.capacity ≡ t.capacity → is_heard ports x ≡ true
      → ((p : Network × Source) → routes_in new p ≡ after_hear network_cmp route_dead (routes_in t) (x.network, source) (route_metric x) now p)
      → HeardRoutes ports source now entries routes (i + 1) new
  heard_more new valid most e said =
      heard_one_more network_cmp (after_routes ports source now routes) entries i lt t new h valid most (λ p.
      let c : Routes = after_routes ports source now routes (take i entries) in
      said p
      ∙ ap (λ (o : Option (RouteMetric × ℕ)). cond (is_same network_cmp (x.network, source) p) (cond (route_dead (route_metric x)) None (Some (route_metric x, now))) o) (h.holds p)
      ∙ sym (ap (λ (r : Routes). r p) next ∙ ap (λ (b : Bool). let r : Routes = cond b (after_hear network_cmp route_dead c (x.network, source) (route_metric x) now) c in r p) e))

-- the next item of a walk, by its index among all items
pub walked_to : {E : Type 0} (ys : List E) (e : E) (rest all : List E) (d : E) → ys ++ e ∷ rest ≡ all → (length ys < length all) × (get_or all (length ys) d ≡ e)
walked_to ys e rest all d is =
    (omega (arith, ap length is, length-append ys (e ∷ rest)), ap (λ es. get_or es (length ys) d) (sym is) ∙ get_or-append_seam ys e rest d)

abbrev pub no_entry : RipEntry
no_entry = record { network = record { 0 = 0 }; hops = 0; ticks = 0 }

abbrev pub no_service : ServiceEntry
no_service = record { kind = 0; name = []; at = record { network = record { 0 = 0 }; node = record { 0 = [] }; socket = record { 0 = 0 } }; hops = 0 }

module _ (source : Source) (now : ℕ) (entries : List ServiceEntry) (services : Services) (i : ℕ) (d x : ServiceEntry) (lt : i < length entries) (there : get_or entries i d ≡ x) (t : Table ServiceKey ServiceMetric) (h : HeardServices source now entries services i t) where
  pub service_more : (new : Table ServiceKey ServiceMetric) → IsTable service_key_cmp new → new.capacity ≡ t.capacity
      → ((p : ServiceKey × Source) → services_in new p ≡ after_hear service_key_cmp service_dead (services_in t) (key_of_service x, source) (service_metric x) now p)
      → HeardServices source now entries services (i + 1) new
  service_more new valid most said =
      heard_one_more service_key_cmp (after_services source now services) entries i lt t new h valid most (λ p.
      said p
      ∙ ap (λ (o : Option (ServiceMetric × ℕ)). cond (is_same service_key_cmp (key_of_service x, source) p) (cond (service_dead (service_metric x)) None (Some (service_metric x, now))) o) (h.holds p)
      ∙ sym (ap (λ (s : Services). s p) (fold_more (after_service source now) services entries i d lt ∙ ap (λ (y : ServiceEntry). after_service source now (after_services source now services (take i entries)) y) there)))

-- ---- offers stay on ports that exist

second_equal : (a b : Ordering) → is_eq (ordering_then a b) ≡ true → b ≡ Equal
second_equal Less b h = cc
second_equal Equal Less h = cc
second_equal Equal Equal h = refl
second_equal Equal Greater h = cc
second_equal Greater b h = cc

first_equal : (a b : Ordering) → ordering_then a b ≡ Equal → a ≡ Equal
first_equal Less b h = cc
first_equal Equal b h = refl
first_equal Greater b h = cc

same_port : {K : Type 0} (cmp : K → K → Ordering) (p q : K × Source) → is_same cmp p q ≡ true → p.1.port ≡ q.1.port
same_port cmp p q h = exact_unsigned _ _ (first_equal _ _ (second_equal (cmp p.0 q.0) (source_cmp p.1 q.1) h))

module _ {K M : Type 0} (cmp : K → K → Ordering) where
  sources_at : (count : ℕ) (p q : K × Source) (said old : Option (M × ℕ)) (v : M × ℕ) → IsPortNumber count p.1.port → (old ≡ Some v → IsPortNumber count q.1.port)
      → (b : Bool) → is_same cmp p q ≡ b → cond b said old ≡ Some v → IsPortNumber count q.1.port
  sources_at count p q said old v port ports true e h = subst (IsPortNumber count) (same_port cmp p q e) port
  sources_at count p q said old v port ports false e h = ports h

  -- an offer that is learned on a port that exists keeps all offers on such ports
  pub sources_more : (dead : M → Bool) (count : ℕ) (source : Source) (c new : Content K M) (key : K) (metric : M) (now : ℕ) → IsPortNumber count source.port → AreFromPorts count c
      → ((p : K × Source) → new p ≡ after_hear cmp dead c (key, source) metric now p) → AreFromPorts count new
  sources_more dead count source c new key metric now port ports said q v h =
      sources_at count (key, source) q (cond (dead metric) None (Some (metric, now))) (c q) v port (ports q v) (is_same cmp (key, source) q) refl (sym (said q) ∙ h)

still_some : {M : Type 0} (now : ℕ) (o : Option (M × ℕ)) (v : M × ℕ) → still now o ≡ Some v → o ≡ Some v
still_some now None v h = cc
still_some now (Some w) v h = elim (is_young now w.1) as (λ b. cond b (Some w) None ≡ Some v → Some w ≡ Some v) [ true ↦ λ e. e | false ↦ λ e. cc ] h

pub sources_aged : {K M : Type 0} (count : ℕ) (c new : Content K M) (now : ℕ) → AreFromPorts count c → ((p : K × Source) → new p ≡ after_age c now p) → AreFromPorts count new
sources_aged count c new now ports said q v h = ports q v (still_some now (c q) v (sym (said q) ∙ h))
