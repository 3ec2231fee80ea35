-- What a table holds once one more entry of an answer was learned.
use Rattle.std.proofs.Common.{◌≡◌, ℕ, ◌+◌, ◌<◌, drop, map, set, Bool, true, false, cond, Result, Err, List, [], ◌∷◌, ◌++◌, length, get_or, take, Option, Some, None, refl, sym, ap, ◌∙◌, subst, inl, inr, arith}
use Rattle.std.specs.declared.cmp.Ordering.{Ordering}
use Rattle.std.proofs.lemmas.Bool.{cases_lt}
use Rattle.std.proofs.Math.Seq.{get_or-append_seam}
use Rattle.std.proofs.lemmas.List.{get_or_default, length-append}
use Rattle.std.proofs.lemmas.List.Edits.{map_over_more}
use Rattle.std.proofs.lemmas.List.Sums.{fold_more}
use Rattle.std.proofs.lemmas.Option.{slice_get-get_or}
use Rattle.ipx_wire.specs.declared.address.Network.{Network}
use Rattle.ipx_control.specs.declared.rip.packet.RipEntry.{RipEntry}
use Rattle.ipx_control.specs.declared.sap.packet.ServiceEntry.{ServiceEntry}
use Rattle.ipx_tables.specs.declared.fault.TableFault.{TableFault}
use Rattle.ipx_tables.specs.declared.fault.TableFault.TheVariants.{Full, OutOfMemory}
use Rattle.ipx_tables.specs.declared.route.RouteMetric.{RouteMetric}
use Rattle.ipx_tables.specs.declared.service.ServiceKey.{ServiceKey}
use Rattle.ipx_tables.specs.declared.service.ServiceMetric.{ServiceMetric}
use Rattle.ipx_tables.specs.declared.source.Source.{Source}
use Rattle.ipx_tables.specs.Content.{Content, IsTable, Table, after_hear, content, is_same}
use Rattle.ipx_tables.specs.Room.{Fits}
use Rattle.ipx_tables.specs.Route.{network_cmp, route_dead}
use Rattle.ipx_tables.specs.Service.{service_key_cmp, service_dead}
use Rattle.ipx_router.specs.declared.port.Port.{Port}
use Rattle.ipx_router.specs.Knowledge.{Routes, Services, routes_in, services_in}
use Rattle.ipx_router.specs.AdvertisedEntries.{key_of_service}
use Rattle.ipx_router.specs.Hearing.{AtEntry, HeardFirst, HeardRoutes, HeardServices, after_route, after_routes, after_service, after_services, is_heard, route_metric, service_metric}

module _ {K M E : Type 0} (cmp : K → K → Ordering) (after : List E → Content K M) (entries : List E) where
  -- one more entry was learned, or was not to be
  pub heard_one_more : (i : ℕ) → i < length entries → (t new : Table K M) → HeardFirst cmp after entries i t → IsTable cmp new → new.capacity ≡ t.capacity
      → ((p : K × Source) → content cmp new.offers p ≡ after (take (i + 1) entries) p) → HeardFirst cmp after entries (i + 1) new
  heard_one_more i lt t new h valid most says = record {
    within = omega arith;
    room = λ m le. elim (cases_lt m (i + 1)) [
      | inl less ↦ subst (λ (k : ℕ). Fits cmp k (after (take m entries))) (sym most) (h.room m (omega arith))
      | inr not_less ↦
          let same : m ≡ i + 1 = omega arith in
          subst (λ (k : ℕ). Fits cmp new.capacity (after (take k entries))) (sym same) (record { table = new; valid = valid; room = refl; says = says })
    ];
    holds = says;
  }

  -- none was learned yet
  pub heard_none : (t : Table K M) → IsTable cmp t → ((p : K × Source) → content cmp t.offers p ≡ after (take 0 entries) p) → HeardFirst cmp after entries 0 t
  heard_none t valid says = record {
    within = omega arith;
    room = λ m le.
        let same : m ≡ 0 = omega arith in
        subst (λ (k : ℕ). Fits cmp t.capacity (after (take k entries))) (sym same) (record { table = t; valid = valid; room = refl; says = says });
    holds = says;
  }

  -- if an entry does not fit the table, those before it were learned
  pub hearing_stops : (Stops Wants : Table K M → E → Type 0) (i : ℕ) (d e : E) (t new : Table K M) (result : Result (Unit {0}) TableFault) (f : TableFault)
      → i < length entries → get_or entries i d ≡ e → HeardFirst cmp after entries i t → new ≡ t → result ≡ Err f
      → (result ≡ Err Full → Stops t e) → (result ≡ Err OutOfMemory → Wants t e)
      → (n : ℕ) × HeardFirst cmp after entries n new × (f ≡ Full → AtEntry entries n (Stops new)) × (f ≡ OutOfMemory → AtEntry entries n (Wants new))
  hearing_stops Stops Wants i d e t new result f lt there h same is full wants =
      subst (λ (u : Table K M). (n : ℕ) × HeardFirst cmp after entries n u × (f ≡ Full → AtEntry entries n (Stops u)) × (f ≡ OutOfMemory → AtEntry entries n (Wants u))) (sym same) (
        i,
        h,
        λ why. record {
          entry = e;
          there = slice_get-get_or entries i d lt ∙ ap Some there;
          holds = full (is ∙ ap (λ (g : TableFault). let r : Result (Unit {0}) TableFault = Err g in r) why);
        },
        λ why. record {
          entry = e;
          there = slice_get-get_or entries i d lt ∙ ap Some there;
          holds = wants (is ∙ ap (λ (g : TableFault). let r : Result (Unit {0}) TableFault = Err g in r) why);
        },
      )

module _ (ports : List Port) (source : Source) (now : ℕ) (entries : List RipEntry) (routes : Routes) (i : ℕ) (d x : RipEntry) (lt : i < length entries) (there : get_or entries i d ≡ x) (t : Table Network RouteMetric) (h : HeardRoutes ports source now entries routes i t) where
  next : after_routes ports source now routes (take (i + 1) entries) ≡ after_route ports source now (after_routes ports source now routes (take i entries)) x
  next = fold_more (after_route ports source now) routes entries i d lt ∙ ap (λ (y : RipEntry). after_route ports source now (after_routes ports source now routes (take i entries)) y) there

  -- an entry that is not learned changes nothing
  pub heard_skip : IsTable network_cmp t → is_heard ports x ≡ false → HeardRoutes ports source now entries routes (i + 1) t
  heard_skip valid e =
      heard_one_more network_cmp (after_routes ports source now routes) entries i lt t t h valid refl (λ p.
      let c : Routes = after_routes ports source now routes (take i entries) in
      h.holds p ∙ sym (ap (λ (r : Routes). r p) next ∙ ap (λ (b : Bool). let r : Routes = cond b (after_hear network_cmp route_dead c (x.network, source) (route_metric x) now) c in r p) e))

  -- an entry that is learned replaces what its source advertised of its network
  pub heard_more : (new : Table Network RouteMetric) → IsTable network_cmp new → new.capacity ≡ t.capacity → is_heard ports x ≡ true
      → ((p : Network × Source) → routes_in new p ≡ after_hear network_cmp route_dead (routes_in t) (x.network, source) (route_metric x) now p)
      → HeardRoutes ports source now entries routes (i + 1) new
  heard_more new valid most e said =
      heard_one_more network_cmp (after_routes ports source now routes) entries i lt t new h valid most (λ p.
      let c : Routes = after_routes ports source now routes (take i entries) in
      said p
      ∙ ap (λ (o : Option (RouteMetric × ℕ)). cond (is_same network_cmp (x.network, source) p) (cond (route_dead (route_metric x)) None (Some (route_metric x, now))) o) (h.holds p)
      ∙ sym (ap (λ (r : Routes). r p) next ∙ ap (λ (b : Bool). let r : Routes = cond b (after_hear network_cmp route_dead c (x.network, source) (route_metric x) now) c in r p) e))

-- the item that a walk has next, among all that it had
pub walked_to : {E : Type 0} (ys : List E) (e : E) (rest all : List E) (d : E) → ys ++ e ∷ rest ≡ all → (length ys < length all) × (get_or all (length ys) d ≡ e)
walked_to ys e rest all d is =
    (omega (arith, ap length is, length-append ys (e ∷ rest)), ap (λ es. get_or es (length ys) d) (sym is) ∙ get_or-append_seam ys e rest d)

abbrev pub no_entry : RipEntry
no_entry = record { network = record { 0 = 0 }; hops = 0; ticks = 0 }

abbrev pub no_service : ServiceEntry
no_service = record { kind = 0; name = []; at = record { network = record { 0 = 0 }; node = record { 0 = [] }; socket = record { 0 = 0 } }; hops = 0 }

module _ (source : Source) (now : ℕ) (entries : List ServiceEntry) (services : Services) (i : ℕ) (d x : ServiceEntry) (lt : i < length entries) (there : get_or entries i d ≡ x) (t : Table ServiceKey ServiceMetric) (h : HeardServices source now entries services i t) where
  pub service_more : (new : Table ServiceKey ServiceMetric) → IsTable service_key_cmp new → new.capacity ≡ t.capacity
      → ((p : ServiceKey × Source) → services_in new p ≡ after_hear service_key_cmp service_dead (services_in t) (key_of_service x, source) (service_metric x) now p)
      → HeardServices source now entries services (i + 1) new
  service_more new valid most said =
      heard_one_more service_key_cmp (after_services source now services) entries i lt t new h valid most (λ p.
      said p
      ∙ ap (λ (o : Option (ServiceMetric × ℕ)). cond (is_same service_key_cmp (key_of_service x, source) p) (cond (service_dead (service_metric x)) None (Some (service_metric x, now))) o) (h.holds p)
      ∙ sym (ap (λ (s : Services). s p) (fold_more (after_service source now) services entries i d lt ∙ ap (λ (y : ServiceEntry). after_service source now (after_services source now services (take i entries)) y) there)))

-- one more item of a list was replaced
pub map_one_more : {A : Type 0} (f : A → A) (xs ys : List A) (i : ℕ) (d c' : A) → i < length ys → length ys ≡ length xs
    → ys ≡ map f (take i xs) ++ drop i xs → c' ≡ f (get_or ys i d) → set ys i c' ≡ map f (take (i + 1) xs) ++ drop (i + 1) xs
map_one_more f xs ys i d c' within same so is =
    ap (λ c. set ys i c) is
    ∙ map_over_more f xs ys i (get_or ys i d) (omega arith) so (get_or_default ys i d (get_or ys i d) within)
