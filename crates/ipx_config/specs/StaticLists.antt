-- The static routes and services in the file of a router. Defined by this project. The entry points are
-- `AreStatics` and `IsStaticFault`.
use Rattle.std.specs.Prelude.{◌≡◌, ◌⊎◌, ℕ, ◌+◌, ◌==◌, ◌&&◌, Bool, true, false, nat_le, List, [], ◌∷◌, ◌++◌, length, position, Option, Some, None, All, if◌then◌else◌}
use Rattle.std.specs.Str.{bytes_eq}
use Rattle.toml.specs.Data.{Data, Items, no_items, item, Members, as_array, as_table, get_member}
use Rattle.ipx_tables.specs.declared.source.Source.{Source}
use Rattle.ipx_router.specs.Ports.{IsPortNumber}
use Rattle.ipx_config.specs.declared.fault.ConfigError.{ConfigError}
use Rattle.ipx_config.specs.declared.fault.ConfigError.TheVariants.{Again, Wrong}
use Rattle.ipx_config.specs.declared.statics.StaticEntry.{StaticEntry}
use Rattle.ipx_config.specs.declared.statics.StaticKind.{StaticKind}
use Rattle.ipx_config.specs.declared.statics.StaticKind.TheVariants as Of
use Rattle.ipx_config.specs.declared.statics.StaticItem.{StaticItem}
use Rattle.ipx_config.specs.declared.statics.StaticItem.TheVariants.{Route, Service}
use Rattle.ipx_config.specs.declared.key.Key.{Key}
use Rattle.ipx_config.specs.declared.key.Key.TheVariants as AsKey
use Rattle.ipx_config.specs.declared.site.PortConfig.{PortConfig}
use Rattle.ipx_config.specs.declared.site.RouterConfig.{RouterConfig}
use Rattle.ipx_config.specs.Keys.{key_text}
use Rattle.ipx_config.specs.Fields.{Holds, IsWrong}
use Rattle.ipx_config.specs.StaticTables.{IsEntryFault, IsEntryTable}
use Rattle.ipx_config.specs.Values.{item_count}
use Rattle.std.specs.List.{list_any}
use Rattle.ipx_control.specs.declared.rip.packet.RipEntry.{RipEntry}
use Rattle.ipx_control.specs.declared.sap.packet.ServiceEntry.{ServiceEntry}

-- the key of a kind, and the number of its first table, for the line of a fault: 1 to 16 are ports
abbrev pub entry_key : StaticKind → Key
entry_key Of.Route = AsKey.Route
entry_key Of.Service = AsKey.Service

abbrev pub first_table : StaticKind → ℕ
first_table Of.Route = 17
first_table Of.Service = 273

-- the number of the table after earlier ones
abbrev pub entry_number : StaticKind → List StaticEntry → ℕ
entry_number kind earlier = first_table kind + length earlier

-- two entries come from the same neighbour at the same port
abbrev pub is_one_source : Source → Source → Bool
is_one_source a b = (a.port == b.port) && bytes_eq a.neighbour.0 b.neighbour.0

-- they give the same network, or the same service by type and name
abbrev pub is_same_word : StaticItem → StaticItem → Bool
is_same_word (Route a) (Route b) = a.network.0 == b.network.0
is_same_word (Service a) (Service b) = (a.kind == b.kind) && bytes_eq a.name b.name
is_same_word (Route a) (Service b) = false
is_same_word (Service a) (Route b) = false

-- the index among earlier entries of the first one that this entry repeats
abbrev pub is_repeat_of : StaticEntry → StaticEntry → Bool
is_repeat_of a b = is_one_source a.by b.by && is_same_word a.word b.word

abbrev pub again_place : List StaticEntry → StaticEntry → Option ℕ
again_place earlier e = position (λ other. is_repeat_of other e) earlier

abbrev pub IsAgain : StaticKind → List StaticEntry → StaticEntry → ConfigError → Type 0
IsAgain kind earlier e f = (k : ℕ) × (again_place earlier e ≡ Some k)
    × (f ≡ Again (entry_number kind earlier) (first_table kind + k))

module _ (kind : StaticKind) (ports : List PortConfig) where
  -- the entry that an item of the array describes
  abbrev pub IsEntryItem : Data → StaticEntry → Type 0
  IsEntryItem d e = (ms : Members) × (as_table d ≡ Some ms) × IsEntryTable kind ports ms e

  abbrev pub IsEntryItemFault : ℕ → Data → ConfigError → Type 0
  IsEntryItemFault table d f = ((f ≡ Wrong table (entry_key kind)) × (as_table d ≡ None))
      ⊎ ((ms : Members) × (as_table d ≡ Some ms) × IsEntryFault kind ports ms table f)

  -- item by item, these entries, none of which repeats an earlier one
  abbrev pub AreStaticEntries : List StaticEntry → Items → List StaticEntry → Type 0
  AreStaticEntries earlier no_items es = es ≡ []
  AreStaticEntries earlier (item d ds) es = (e : StaticEntry) × (rest : List StaticEntry) × (es ≡ e ∷ rest)
      × IsEntryItem d e × (again_place earlier e ≡ None) × AreStaticEntries (earlier ++ e ∷ []) ds rest

  -- the first fault of the items: each before it is an entry
  abbrev pub IsFirstEntryFault : List StaticEntry → Items → ConfigError → Type 0
  IsFirstEntryFault earlier no_items f = ⊥
  IsFirstEntryFault earlier (item d ds) f = IsEntryItemFault (entry_number kind earlier) d f
      ⊎ ((e : StaticEntry) × IsEntryItem d e × (IsAgain kind earlier e f
      ⊎ ((again_place earlier e ≡ None) × IsFirstEntryFault (earlier ++ e ∷ []) ds f)))

-- an array of at most 256 values, which are to be tables
abbrev pub IsEntryList : Data → Items → Type 0
IsEntryList d ds = (as_array d ≡ Some ds) × (nat_le (item_count ds) 256 ≡ true)

module _ (kind : StaticKind) (ports : List PortConfig) (ms : Members) where
  -- the entries of a kind; none if there is no such table
  abbrev pub AreEntriesOf : List StaticEntry → Type 0
  AreEntriesOf es = ((get_member (key_text (entry_key kind)) ms ≡ None) × (es ≡ []))
      ⊎ ((ds : Items) × Holds IsEntryList (entry_key kind) ms ds × AreStaticEntries kind ports [] ds es)

  abbrev pub IsEntriesFault : ConfigError → Type 0
  IsEntriesFault f = IsWrong IsEntryList (entry_key kind) ms 0 f
      ⊎ ((ds : Items) × Holds IsEntryList (entry_key kind) ms ds × IsFirstEntryFault kind ports [] ds f)

-- the static entries of a router with these ports: routes, followed by services
abbrev pub AreStatics : List PortConfig → Members → List StaticEntry → Type 0
AreStatics ports ms es = (routes services : List StaticEntry) × (es ≡ routes ++ services)
    × AreEntriesOf Of.Route ports ms routes × AreEntriesOf Of.Service ports ms services

-- each entry of a file is at one of its ports
abbrev pub HearsAtPorts : RouterConfig → Type 0
HearsAtPorts s = All (λ e. IsPortNumber (length s.ports.items) e.by.port) s.statics.items

-- the first fault of static entries
abbrev pub IsStaticFault : List PortConfig → Members → ConfigError → Type 0
IsStaticFault ports ms f = IsEntriesFault Of.Route ports ms f
    ⊎ ((routes : List StaticEntry) × AreEntriesOf Of.Route ports ms routes
    × IsEntriesFault Of.Service ports ms f)

-- the route that an item is, and the service
abbrev pub route_of_item : StaticItem → Option RipEntry
route_of_item (Route r) = Some r
route_of_item (Service s) = None

abbrev pub service_of_item : StaticItem → Option ServiceEntry
service_of_item (Route r) = None
service_of_item (Service s) = Some s

-- the same, if its entry is from this neighbour
abbrev pub route_by : Source → StaticEntry → Option RipEntry
route_by s e = if is_one_source e.by s then route_of_item e.word else None

abbrev pub service_by : Source → StaticEntry → Option ServiceEntry
service_by s e = if is_one_source e.by s then service_of_item e.word else None

-- one more source is added, unless it is already there
abbrev pub with_source : List Source → Source → List Source
with_source known by =
    if list_any (λ s. is_one_source s by) known then known else known ++ by ∷ []

-- the sources of entries, added to these: each once, in the order of their first entries
abbrev pub named_sources : List Source → List StaticEntry → List Source
named_sources known [] = known
named_sources known (e ∷ es) = named_sources (with_source known e.by) es
