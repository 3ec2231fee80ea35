-- Each static route and service of a router's file meets the conditions for being kept.
use Rattle.std.proofs.Common.{◌≡◌, ◌≢◌, ℕ, zero, suc, ◌-◌, ◌<◌, ◌==◌, ◌||◌, Bool, true, false, not, List, [], ◌∷◌, ◌++◌, All, Contains, Option, Some, None, bytes_eq, get_or, option_map, slice_get, if◌then◌else◌, inl, inr, ◌⊎◌, refl, sym, ap, ◌∙◌, subst, arith, eq-eqb, ne_eqb, true≢false}
use Rattle.std.specs.List.{filter_map, list_any}
use Rattle.std.specs.Cmp.Lexicographic.{other_text}
use Rattle.std.proofs.lemmas.Bool.{and_from, and_parts}
use Rattle.std.proofs.lemmas.Bool.Decides.{Decides-eqb}
use Rattle.std.proofs.lemmas.List.Elements.{All-cons, All-contains, All-map, All-nil, Contains-append_cases, Contains-append_left, Contains-get_or, Contains-push}
use Rattle.std.proofs.lemmas.List.Folds.{list_any_none}
use Rattle.std.proofs.lemmas.Option.{same_Some, slice_get-map}
use Rattle.std.proofs.lemmas.Slice.Eq.{bytes_eq-Decides}
use Rattle.toml.specs.Data.{Items, Members, no_items, item}
use Rattle.ipx_control.specs.declared.rip.packet.RipEntry.{RipEntry}
use Rattle.ipx_control.specs.declared.sap.packet.ServiceEntry.{ServiceEntry}
use Rattle.ipx_tables.specs.declared.service.ServiceKey.{ServiceKey}
use Rattle.ipx_tables.specs.declared.source.Source.{Source}
use Rattle.ipx_wire.specs.Assigned.{all_networks, local_network}
use Rattle.ipx_wire.specs.declared.address.Network.{Network}
use Rattle.ipx_wire.specs.declared.address.Node.{Node}
use Rattle.ipx_router.specs.declared.port.Port.{Port}
use Rattle.ipx_router.specs.Classify.{is_node}
use Rattle.ipx_router.specs.Hearing.{is_heard, route_metric, service_metric}
use Rattle.ipx_router.specs.Ports.{IsPort}
use Rattle.ipx_router.specs.AdvertisedEntries.{key_of_service, route_key}
use Rattle.ipx_static.specs.declared.neighbour.StaticNeighbour.{StaticNeighbour}
use Rattle.ipx_static.specs.StaticOffers.{IsAnotherNode, static_source}
use Rattle.ipx_config.specs.declared.statics.StaticEntry.{StaticEntry}
use Rattle.ipx_config.specs.declared.statics.StaticKind.{StaticKind}
use Rattle.ipx_config.specs.declared.statics.StaticKind.TheVariants as Of
use Rattle.ipx_config.specs.declared.statics.StaticItem.{StaticItem}
use Rattle.ipx_config.specs.declared.statics.StaticItem.TheVariants as Says
use Rattle.ipx_config.specs.declared.static_fields.NextHop.{NextHop}
use Rattle.ipx_config.specs.declared.key.Key.TheVariants as Key
use Rattle.ipx_config.specs.declared.site.PortConfig.{PortConfig}
use Rattle.ipx_config.specs.declared.site.PortConfig.TheVariants.{Rfc1234, Ipxnet}
use Rattle.ipx_config.specs.declared.site.PortConfig.TheVariants as configs
use Rattle.ipx_config.specs.Fields.{HoldsOr}
use Rattle.ipx_config.specs.StaticFields.{IsNear, numbered_port, port_index_on}
use Rattle.ipx_config.specs.StaticLists.{AreStatics, AreEntriesOf, AreStaticEntries, again_place, is_one_source, is_same_word, is_repeat_of, named_sources, route_of_item, service_of_item, with_source}
use Rattle.ipx_site.specs.StaticsHold.{FilesMeetPremises, NeighbourMayAdvertise, MayAdvertise}
use Rattle.ipx_config.specs.StaticTables.{IsEntryTable, IsPath}
use Rattle.ipx_config.specs.PortKinds.{network_of_kind}
use Rattle.ipx_site.specs.StaticNeighbours.{AreStaticNeighbours, IsStaticNeighbour}
use Rattle.ipx_config.specs.SitePorts.{router_port_of_kind, router_ports}
use Rattle.ipx_config.specs.Values.{IsCount}
use Rattle.ipx_site.proofs.Among.{each_fails, later, made_of, makes, none_among, of_left, of_right, one_or_later, or_parts}
use Rattle.ipx_site.proofs.StaticNeighbourLists.{neighbours_have, sources_have}

-- ---- the neighbour: another node, on the network of a port that exists

abbrev IsElsewhere : List Port → Source → Type 0
IsElsewhere ports s = (at : Port) × IsPort ports s.port at × (s.neighbour ≢ at.node)

other_node : (a b : Node) → is_node a b ≡ false → a ≢ b
other_node a b apart same = other_text a.0 b.0 (sym apart) (ap (λ (n : Node). n.0) same)

port_there : (ports : List PortConfig) (n : ℕ) (p : PortConfig) → numbered_port ports n ≡ Some p → IsPort (router_ports ports) n (router_port_of_kind p)
port_there ports zero p is = absurd (cc)
port_there ports (suc i) p is =
    let back : suc i - 1 ≡ i = omega arith in
    let found = slice_get-map router_port_of_kind ports i ∙ ap (λ o. option_map router_port_of_kind o) is in
    (omega arith, subst (λ (k : ℕ). slice_get (router_ports ports) k ≡ Some (router_port_of_kind p)) (sym back) found)

near_elsewhere : (ports : List PortConfig) (ms : Members) (near : NextHop) → IsNear ports ms near → IsElsewhere (router_ports ports) near.by
near_elsewhere ports ms near (holds, (p, there, next, cost)) =
    let at = router_port_of_kind p in
    (at, port_there ports near.by.port p there, other_node near.by.neighbour at.node next.1)

-- ---- the network: one that is heard, less than 16 hops away

not_three : (a b c : Bool) → a ≡ false → b ≡ false → c ≡ false → not (a || b || c) ≡ true
not_three a b c x y z = rw (x, y, z) refl

network_kept : (p : PortConfig) → network_of_kind p ≡ (router_port_of_kind p).network
network_kept (Rfc1234 p) = refl
network_kept (configs.Ethernet p) = refl
network_kept (Ipxnet p) = refl

none_own : (ports : List PortConfig) (n : Network) → port_index_on ports n ≡ None → list_any (λ (p : Port). p.network.0 == n.0) (router_ports ports) ≡ false
none_own ports n none =
    let IsOff : Port → Type 0 = λ p. (p.network.0 == n.0) ≡ false in
    list_any_none (λ (p : Port). p.network.0 == n.0) (router_ports ports)
    (All-map IsOff router_port_of_kind ports (λ k d within.
    let q = get_or ports k d in
    let off = each_fails (λ (p : PortConfig). (network_of_kind p).0 == n.0) ports none q (Contains-get_or ports k d within) in
    subst (λ (w : Network). (w.0 == n.0) ≡ false) (network_kept q) off))

hops_low : (ms : Members) (hops : ℕ) → HoldsOr (IsCount 14) Key.Hops ms 1 hops → hops < 16
hops_low ms hops (inl none) = omega (arith, none.1)
hops_low ms hops (inr some) = omega (arith, some.2.2)

abbrev IsAdvertised : List Port → StaticItem → Type 0
IsAdvertised ports (Says.Route r) = (is_heard ports r ≡ true) × (r.hops < 16)
IsAdvertised ports (Says.Service s) = s.hops < 16

path_told : (ports : List PortConfig) (ms : Members) (cost : ℕ) (r : RipEntry) → IsPath ports ms cost r → IsAdvertised (router_ports ports) (Says.Route r)
path_told ports ms cost r path =
    let far = path.network in
    let written = far.0.2.2 in
    let heard = not_three (r.network.0 == local_network) (r.network.0 == all_networks)
    (list_any (λ (p : Port). p.network.0 == r.network.0) (router_ports ports))
    (ne_eqb r.network.0 local_network written.1) (ne_eqb r.network.0 all_networks written.2) (none_own ports r.network far.2) in
    (heard, hops_low ms r.hops path.hops)

abbrev IsGood : List PortConfig → StaticKind → StaticEntry → Type 0
IsGood ports Of.Route e = IsElsewhere (router_ports ports) e.by × IsAdvertised (router_ports ports) e.word
    × ((r : RipEntry) × (e.word ≡ Says.Route r))
IsGood ports Of.Service e = IsElsewhere (router_ports ports) e.by × IsAdvertised (router_ports ports) e.word
    × ((s : ServiceEntry) × (e.word ≡ Says.Service s))

good : (kind : StaticKind) (ports : List PortConfig) (ms : Members) (e : StaticEntry) → IsEntryTable kind ports ms e → IsGood ports kind e
good Of.Route ports ms e table =
    let (near, route, is_near, path, is) = table.says in
    subst (IsGood ports Of.Route) (sym is) (near_elsewhere ports ms near is_near, path_told ports ms near.cost route path, (route, refl))
good Of.Service ports ms e table =
    let (near, service, is_near, offered, is) = table.says in
    subst (IsGood ports Of.Service) (sym is) (near_elsewhere ports ms near is_near, hops_low ms service.hops offered.hops, (service, refl))

-- ---- no entry repeats another one

one_source : (a b : Source) → is_one_source a b ≡ true → a ≡ b
one_source a b h =
    let two = and_parts (a.port == b.port) (bytes_eq a.neighbour.0 b.neighbour.0) h in
    let ports : a.port ≡ b.port = (Decides-eqb a.port b.port).0 two.0 in
    let nodes : a.neighbour.0 ≡ b.neighbour.0 = (bytes_eq-Decides a.neighbour.0 b.neighbour.0).0 two.1 in
    let at : ℕ → Source = λ p. record { port = p; neighbour = a.neighbour } in
    let of : List ℕ → Source = λ n. record { port = b.port; neighbour = record { 0 = n } } in
    ap at ports ∙ ap of nodes

source_is : (a b : Source) → a ≡ b → is_one_source a b ≡ true
source_is a b same =
    and_from (a.port == b.port) (bytes_eq a.neighbour.0 b.neighbour.0)
    (eq-eqb a.port b.port (ap (λ (s : Source). s.port) same))
    ((bytes_eq-Decides a.neighbour.0 b.neighbour.0).1 (ap (λ (s : Source). s.neighbour.0) same))

abbrev SayTheSame : StaticItem → StaticItem → Type 0
SayTheSame (Says.Route a) (Says.Route b) = a.network ≡ b.network
SayTheSame (Says.Service a) (Says.Service b) = key_of_service a ≡ key_of_service b
SayTheSame (Says.Route a) (Says.Service b) = ⊥
SayTheSame (Says.Service a) (Says.Route b) = ⊥

other_way : (a b : StaticItem) → SayTheSame a b → SayTheSame b a
other_way (Says.Route a) (Says.Route b) h = sym h
other_way (Says.Service a) (Says.Service b) h = sym h
other_way (Says.Route a) (Says.Service b) h = h
other_way (Says.Service a) (Says.Route b) h = h

word_is : (a b : StaticItem) → SayTheSame a b → is_same_word a b ≡ true
word_is (Says.Route a) (Says.Route b) h = eq-eqb a.network.0 b.network.0 (ap (λ (n : Network). n.0) h)
word_is (Says.Service a) (Says.Service b) h =
    and_from (a.kind == b.kind) (bytes_eq a.name b.name)
    (eq-eqb a.kind b.kind (ap (λ (k : ServiceKey). k.kind) h))
    ((bytes_eq-Decides a.name b.name).1 (ap (λ (k : ServiceKey). k.name) h))
word_is (Says.Route a) (Says.Service b) h = absurd h
word_is (Says.Service a) (Says.Route b) h = absurd h

abbrev AreAlike : StaticEntry → StaticEntry → Type 0
AreAlike x y = (x.by ≡ y.by) × SayTheSame x.word y.word

turned : (x y : StaticEntry) → AreAlike x y → AreAlike y x
turned x y alike = (sym alike.0, other_way x.word y.word alike.1)

again_is : (x y : StaticEntry) → AreAlike x y → is_repeat_of x y ≡ true
again_is x y alike =
    and_from (is_one_source x.by y.by) (is_same_word x.word y.word) (source_is x.by y.by alike.0) (word_is x.word y.word alike.1)

no_first : (earlier : List StaticEntry) (e : StaticEntry) → again_place earlier e ≡ None → (x y : StaticEntry) → Contains earlier x
    → e ≡ y → AreAlike x y → ⊥
no_first earlier e alone x y before same alike =
    let fails = each_fails (λ (other : StaticEntry). is_repeat_of other e) earlier alone x before in
    let passes = subst (λ (z : StaticEntry). is_repeat_of x z ≡ true) (sym same) (again_is x y alike) in
    true≢false (sym passes ∙ fails)

module _ (kind : StaticKind) (ports : List PortConfig) where
  no_earlier : (earlier : List StaticEntry) (ds : Items) (es : List StaticEntry) → AreStaticEntries kind ports earlier ds es
      → (x y : StaticEntry) → Contains earlier x → Contains es y → AreAlike x y → ⊥
  no_earlier earlier no_items es h x y before at alike = none_among y (subst (λ (l : List StaticEntry). Contains l y) h at)
  no_earlier earlier (item d ds) es h x y before at alike =
      elim (one_or_later h.0 y h.1 (subst (λ (l : List StaticEntry). Contains l y) h.2 at)) [
        | inl same ↦ no_first earlier h.0 h.4 x y before same alike
        | inr behind ↦ no_earlier (earlier ++ h.0 ∷ []) ds h.1 h.5 x y (Contains-append_left earlier (h.0 ∷ []) x before) behind alike
      ]

  same_entry : (earlier : List StaticEntry) (ds : Items) (es : List StaticEntry) → AreStaticEntries kind ports earlier ds es
      → (x y : StaticEntry) → Contains es x → Contains es y → AreAlike x y → x ≡ y
  same_entry earlier no_items es h x y one other alike = absurd (none_among x (subst (λ (l : List StaticEntry). Contains l x) h one))
  same_entry earlier (item d ds) es h x y one other alike =
      let more = earlier ++ h.0 ∷ [] in
      let last : (z : StaticEntry) → h.0 ≡ z → Contains more z = λ z same. subst (Contains more) same (Contains-push earlier h.0) in
      let of_x = one_or_later h.0 x h.1 (subst (λ (l : List StaticEntry). Contains l x) h.2 one) in
      let of_y = one_or_later h.0 y h.1 (subst (λ (l : List StaticEntry). Contains l y) h.2 other) in
      elim of_x [
        | inl here ↦ elim of_y [
          | inl too ↦ sym here ∙ too
          | inr behind ↦ absurd (no_earlier more ds h.1 h.5 x y (last x here) behind alike)
        ]
        | inr there ↦ elim of_y [
          | inl here ↦ absurd (no_earlier more ds h.1 h.5 y x (last y here) there (turned x y alike))
          | inr behind ↦ same_entry more ds h.1 h.5 x y there behind alike
        ]
      ]

  each_good : (earlier : List StaticEntry) (ds : Items) (es : List StaticEntry) → AreStaticEntries kind ports earlier ds es → All (IsGood ports kind) es
  each_good earlier no_items es h = subst (All (IsGood ports kind)) (sym h) (All-nil (IsGood ports kind))
  each_good earlier (item d ds) es h =
      let (ms, is, table) = h.3 in
      subst (All (IsGood ports kind)) (sym h.2)
      (All-cons (IsGood ports kind) h.0 h.1 (good kind ports ms h.0 table) (each_good (earlier ++ h.0 ∷ []) ds h.1 h.5))

  kind_same : (ms : Members) (es : List StaticEntry) → AreEntriesOf kind ports ms es → (x y : StaticEntry) → Contains es x → Contains es y → AreAlike x y → x ≡ y
  kind_same ms es (inl none) x y one other alike = absurd (none_among x (subst (λ (l : List StaticEntry). Contains l x) none.1 one))
  kind_same ms es (inr some) x y one other alike = same_entry [] some.0 es some.2 x y one other alike

  kind_good : (ms : Members) (es : List StaticEntry) → AreEntriesOf kind ports ms es → All (IsGood ports kind) es
  kind_good ms es (inl none) = subst (All (IsGood ports kind)) (sym none.1) (All-nil (IsGood ports kind))
  kind_good ms es (inr some) = each_good [] some.0 es some.2

abbrev IsRight : List PortConfig → StaticEntry → Type 0
IsRight ports e = IsElsewhere (router_ports ports) e.by × IsAdvertised (router_ports ports) e.word

unlike : (ports : List PortConfig) (x y : StaticEntry) → IsGood ports Of.Route x → IsGood ports Of.Service y → SayTheSame x.word y.word → ⊥
unlike ports x y of_x of_y same =
    let (r, is) = of_x.2 in
    let (s, so) = of_y.2 in
    subst (λ (w : StaticItem). SayTheSame (Says.Route r) w) so (subst (λ (w : StaticItem). SayTheSame w y.word) is same)

module _ (ports : List PortConfig) (ms : Members) (es : List StaticEntry) (h : AreStatics ports ms es) where
  of_two : (x : StaticEntry) → Contains es x → Contains h.0 x ⊎ Contains h.1 x
  of_two x at = Contains-append_cases h.0 h.1 x (subst (λ (l : List StaticEntry). Contains l x) h.2 at)

  route_good : (x : StaticEntry) → Contains h.0 x → IsGood ports Of.Route x
  route_good x at = All-contains (IsGood ports Of.Route) h.0 x (kind_good Of.Route ports ms h.0 h.3) at

  service_good : (x : StaticEntry) → Contains h.1 x → IsGood ports Of.Service x
  service_good x at = All-contains (IsGood ports Of.Service) h.1 x (kind_good Of.Service ports ms h.1 h.4) at

  right : (x : StaticEntry) → Contains es x → IsRight ports x
  right x at = elim (of_two x at) [
    | inl route ↦ (let g = route_good x route in (g.0, g.1))
    | inr service ↦ (let g = service_good x service in (g.0, g.1))
  ]

  same_by_static : (x y : StaticEntry) → Contains es x → Contains es y → AreAlike x y → x ≡ y
  same_by_static x y one other alike = elim (of_two x one) [
    | inl route ↦ elim (of_two y other) [
      | inl too ↦ kind_same Of.Route ports ms h.0 h.3 x y route too alike
      | inr service ↦ absurd (unlike ports x y (route_good x route) (service_good y service) alike.1)
    ]
    | inr service ↦ elim (of_two y other) [
      | inl route ↦ absurd (unlike ports y x (route_good y route) (service_good x service) (other_way x.word y.word alike.1))
      | inr too ↦ kind_same Of.Service ports ms h.1 h.4 x y service too alike
    ]
  ]

-- ---- the source of each entry is among the sources

any_is : (known : List Source) (by : Source) → list_any (λ s. is_one_source s by) known ≡ true → Contains known by
any_is [] by h = absurd (cc)
any_is (s ∷ known) by h = elim (or_parts (is_one_source s by) (list_any (λ t. is_one_source t by) known) h) [
  | inl this ↦ (0, omega arith, one_source s by this)
  | inr other ↦ later s by known (any_is known by other)
]

when_known : (known : List Source) (by : Source) (b : Bool) → list_any (λ s. is_one_source s by) known ≡ b
    → Contains (if b then known else known ++ by ∷ []) by
when_known known by true h = any_is known by h
when_known known by false h = Contains-push known by

kept_known : (known : List Source) (by s : Source) (b : Bool) → Contains known s → Contains (if b then known else known ++ by ∷ []) s
kept_known known by s true at = at
kept_known known by s false at = Contains-append_left known (by ∷ []) s at

named_keeps : (known : List Source) (es : List StaticEntry) (s : Source) → Contains known s → Contains (named_sources known es) s
named_keeps known [] s at = at
named_keeps known (e ∷ es) s at =
    named_keeps (with_source known e.by) es s (kept_known known e.by s (list_any (λ t. is_one_source t e.by) known) at)

named_has : (known : List Source) (es : List StaticEntry) (e : StaticEntry) → Contains es e → Contains (named_sources known es) e.by
named_has known [] e at = absurd (none_among e at)
named_has known (x ∷ es) e at =
    let here = when_known known x.by (list_any (λ t. is_one_source t x.by) known) refl in
    elim (one_or_later x e es at) [
      | inl same ↦ named_keeps (with_source known x.by) es e.by (subst (λ (z : StaticEntry). Contains (with_source known x.by) z.by) same here)
      | inr behind ↦ named_has (with_source known x.by) es e behind
    ]

-- ---- what a neighbour advertises of each entry

is_route : (w : StaticItem) (r : RipEntry) → route_of_item w ≡ Some r → w ≡ Says.Route r
is_route (Says.Route a) r is = ap (λ (x : RipEntry). Says.Route x) (same_Some a r is)
is_route (Says.Service s) r is = absurd (cc)

is_service : (w : StaticItem) (s : ServiceEntry) → service_of_item w ≡ Some s → w ≡ Says.Service s
is_service (Says.Service a) s is = ap (λ (x : ServiceEntry). Says.Service x) (same_Some a s is)
is_service (Says.Route r) s is = absurd (cc)

-- the item of an entry, if its source is this one
abbrev Finds : {E : Type 0} → (StaticItem → Option E) → Source → StaticEntry → Option E
Finds in_word s e = if is_one_source e.by s then in_word e.word else None

found_if : {E : Type 0} (in_word : StaticItem → Option E) (s : Source) (e : StaticEntry) (x : E) (b : Bool) → is_one_source e.by s ≡ b
    → (if b then in_word e.word else None) ≡ Some x → (e.by ≡ s) × (in_word e.word ≡ Some x)
found_if in_word s e x true same is = (one_source e.by s same, is)
found_if in_word s e x false same is = absurd (cc)

found_in : {E : Type 0} (in_word : StaticItem → Option E) (s : Source) (e : StaticEntry) (x : E) → Finds in_word s e ≡ Some x
    → (e.by ≡ s) × (in_word e.word ≡ Some x)
found_in in_word s e x is = found_if in_word s e x (is_one_source e.by s) refl is

finds_when : {E : Type 0} (b : Bool) (o : Option E) (x : E) → b ≡ true → o ≡ Some x → (if b then o else None) ≡ Some x
finds_when b o x passes is = rw (passes, is) refl

-- what a neighbour advertises is the item of an entry with this source
of_entry : {E : Type 0} (in_word : StaticItem → Option E) (word_of : E → StaticItem) (said_by : StaticNeighbour → List E) (reads : (w : StaticItem) (x : E) → in_word w ≡ Some x → w ≡ word_of x)
    (es : List StaticEntry) (ns : List StaticNeighbour) → AreStaticNeighbours es ns → ((s : Source) (n : StaticNeighbour) → IsStaticNeighbour es s n → said_by n ≡ filter_map (Finds in_word s) es)
    → (m : StaticNeighbour) → Contains ns m → (y : E) → Contains (said_by m) y → (g : StaticEntry) × Contains es g × (g.by ≡ static_source m) × (g.word ≡ word_of y)
of_entry {E} in_word word_of said_by reads es ns silent said m among y there =
    let (s, is) = of_right (IsStaticNeighbour es) (named_sources [] es) ns silent m among in
    let (f, inside, found) = made_of (Finds in_word s) es y (subst (λ (l : List E). Contains l y) (said s m is) there) in
    let (from, reading) = found_in in_word s f y found in
    (f, inside, from ∙ sym is.source, reads f.word y reading)

pub route_entry : (es : List StaticEntry) (ns : List StaticNeighbour) → AreStaticNeighbours es ns → (m : StaticNeighbour) → Contains ns m → (y : RipEntry) → Contains m.routes.items y
    → (g : StaticEntry) × Contains es g × (g.by ≡ static_source m) × (g.word ≡ Says.Route y)
route_entry es ns silent = of_entry route_of_item (λ (x : RipEntry). Says.Route x) (λ (m : StaticNeighbour). m.routes.items) is_route es ns silent (λ s m of. of.routes)

pub service_entry : (es : List StaticEntry) (ns : List StaticNeighbour) → AreStaticNeighbours es ns → (m : StaticNeighbour) → Contains ns m → (y : ServiceEntry) → Contains m.services.items y
    → (g : StaticEntry) × Contains es g × (g.by ≡ static_source m) × (g.word ≡ Says.Service y)
service_entry es ns silent = of_entry service_of_item (λ (x : ServiceEntry). Says.Service x) (λ (m : StaticNeighbour). m.services.items) is_service es ns silent (λ s m of. of.services)

module _ {E K M : Type 0} (in_word : StaticItem → Option E) (word_of : E → StaticItem) (key_of : E → K) (metric_of : E → M) (said_by : StaticNeighbour → List E)
    (reads : (w : StaticItem) (x : E) → in_word w ≡ Some x → w ≡ word_of x) (in_own : (x : E) → in_word (word_of x) ≡ Some x)
    (alike : (x y : E) → key_of x ≡ key_of y → SayTheSame (word_of x) (word_of y))
    (es : List StaticEntry) (same : (x y : StaticEntry) → Contains es x → Contains es y → AreAlike x y → x ≡ y)
    (ns : List StaticNeighbour) (silent : AreStaticNeighbours es ns)
    (said : (s : Source) (n : StaticNeighbour) → IsStaticNeighbour es s n → said_by n ≡ filter_map (Finds in_word s) es) where
  -- the item of an entry is among those that its neighbour advertises
  says_it : (s : Source) (n : StaticNeighbour) → IsStaticNeighbour es s n → (e : StaticEntry) → Contains es e → e.by ≡ s → (x : E) → e.word ≡ word_of x → Contains (said_by n) x
  says_it s n is e at by x word =
      let found : Finds in_word s e ≡ Some x = finds_when (is_one_source e.by s) (in_word e.word) x (source_is e.by s by) (ap in_word word ∙ in_own x) in
      subst (λ (l : List E). Contains l x) (sym (said s n is)) (makes (Finds in_word s) es e x at found)

  -- and nothing else is advertised there for its key
  says_no_other : (e : StaticEntry) → Contains es e → (x : E) → e.word ≡ word_of x → (m : StaticNeighbour) → Contains ns m → static_source m ≡ e.by
      → (y : E) → Contains (said_by m) y → key_of y ≡ key_of x → metric_of y ≡ metric_of x
  says_no_other e at x word m among by y there key =
      let (s, is) = of_right (IsStaticNeighbour es) (named_sources [] es) ns silent m among in
      let (f, inside, found) = made_of (Finds in_word s) es y (subst (λ (l : List E). Contains l y) (said s m is) there) in
      let (from, reading) = found_in in_word s f y found in
      let says = reads f.word y reading in
      let source : f.by ≡ e.by = from ∙ sym is.source ∙ by in
      let words : SayTheSame f.word e.word = subst (λ (w : StaticItem). SayTheSame w e.word) (sym says)
      (subst (λ (w : StaticItem). SayTheSame (word_of y) w) (sym word) (alike y x key)) in
      let one : f ≡ e = same f e inside at (source, words) in
      let equal : Some y ≡ Some x = sym reading ∙ ap (λ (z : StaticEntry). in_word z.word) one ∙ ap in_word word ∙ in_own x in
      ap metric_of (same_Some y x equal)

module _ (ports : List PortConfig) (ms : Members) (es : List StaticEntry) (h : AreStatics ports ms es) (ns : List StaticNeighbour) (silent : AreStaticNeighbours es ns) where
  word_holds : (e : StaticEntry) → Contains es e → (n : StaticNeighbour) → IsStaticNeighbour es e.by n → (w : StaticItem) → e.word ≡ w → IsAdvertised (router_ports ports) w
      → MayAdvertise (router_ports ports) ns n w
  word_holds e at n is (Says.Route r) word told = (
    says_it route_of_item (λ (x : RipEntry). Says.Route x) route_key route_metric (λ (m : StaticNeighbour). m.routes.items) is_route (λ x. refl) (λ x y key. key)
        es (same_by_static ports ms es h) ns silent (λ s m of. of.routes) e.by n is e at refl r word,
    λ m among by. says_no_other route_of_item (λ (x : RipEntry). Says.Route x) route_key route_metric (λ (m : StaticNeighbour). m.routes.items) is_route (λ x. refl) (λ x y key. key)
        es (same_by_static ports ms es h) ns silent (λ s m of. of.routes) e at r word m among (by ∙ is.source),
    told.0,
    told.1,
  )
  word_holds e at n is (Says.Service v) word told = (
    says_it service_of_item (λ (x : ServiceEntry). Says.Service x) key_of_service service_metric (λ (m : StaticNeighbour). m.services.items) is_service (λ x. refl) (λ x y key. key)
        es (same_by_static ports ms es h) ns silent (λ s m of. of.services) e.by n is e at refl v word,
    λ m among by. says_no_other service_of_item (λ (x : ServiceEntry). Says.Service x) key_of_service service_metric (λ (m : StaticNeighbour). m.services.items) is_service (λ x. refl) (λ x y key. key)
        es (same_by_static ports ms es h) ns silent (λ s m of. of.services) e at v word m among (by ∙ is.source),
    told,
  )

  entry_holds : (e : StaticEntry) → Contains es e → NeighbourMayAdvertise (router_ports ports) ns e
  entry_holds e at =
      let (n, among, is) = of_left (IsStaticNeighbour es) (named_sources [] es) ns silent e.by (named_has [] es e at) in
      (n, among, is.source, word_holds e at n is e.word refl (right ports ms es h e at).1)

  all_elsewhere : All (IsAnotherNode (router_ports ports)) ns
  all_elsewhere =
      let P = IsElsewhere (router_ports ports) in
      let each : All (λ e. P e.by) es = λ k d within. (right ports ms es h (get_or es k d) (Contains-get_or es k d within)).0 in
      neighbours_have P es (named_sources [] es) ns silent (sources_have P [] es (All-nil P) each)

pub files_stand : FilesMeetPremises
files_stand text s (ms, parsed, site) ns silent =
    let es = s.statics.items in (
      all_elsewhere s.ports.items ms es site.statics ns silent,
      λ k d within. entry_holds s.ports.items ms es site.statics ns silent (get_or es k d) (Contains-get_or es k d within),
    )
