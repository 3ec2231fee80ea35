-- The file of a router. Defined by this project.
use Rattle.std.specs.Prelude.{◌≡◌, ◌⊎◌, String, ℕ, ◌+◌, ◌==◌, ◌&&◌, ◌||◌, Bool, true, not, nat_eq, nat_le, List, [], ◌∷◌, ◌++◌, Option, Some, None, position}
use Rattle.std.specs.Global.{Global}
use Rattle.std.specs.Cmp.Lexicographic.{pointwise}
use Rattle.std.specs.Net.Addr.{ipv4_octets}
use Rattle.std.specs.Net.Socket.{v4_ip, v4_port}
use Rattle.std.specs.declared.net.socket_addr.SocketAddrV4.{SocketAddrV4}
use Rattle.toml.specs.Data.{Data, Items, no_items, item, Members, as_array, as_table}
use Rattle.toml.specs.Parse.{parse_document}
use Rattle.ipx_config.specs.declared.fault.ConfigError.{ConfigError}
use Rattle.ipx_config.specs.declared.fault.ConfigError.TheVariants.{SamePlace, Twin, Wrong}
use Rattle.ipx_config.specs.declared.key.Key.TheVariants as Key
use Rattle.ipx_config.specs.declared.site.RouterConfig.{RouterConfig}
use Rattle.ipx_config.specs.declared.site.PortConfig.{PortConfig}
use Rattle.ipx_config.specs.StaticLists.{AreStatics, IsStaticFault}
use Rattle.ipx_config.specs.Keys.{first_unknown, site_keys}
use Rattle.ipx_config.specs.Values.{IsFileName, IsOtherFileName, IsThirdFileName, item_count}
use Rattle.ipx_config.specs.EthernetTable.{IsKindFault, IsPortOfKind}
use Rattle.ipx_config.specs.PortKinds.{network_of_kind, place_of_kind}
use Rattle.ipx_config.specs.Fields.{Holds, HoldsIf, IsFault, IsNoToml, IsRightOr, IsUnknown, IsWrong}

-- one to sixteen of them
abbrev pub is_few : Items → Bool
is_few ds = not (item_count ds == 0) && nat_le (item_count ds) 16

-- an array of one to sixteen values, which are to be tables
abbrev pub IsPortList : Data → Items → Type 0
IsPortList d ds = (as_array d ≡ Some ds) × (is_few ds ≡ true)

-- the index among earlier ports of the first one on the same network
abbrev pub twin_place : List PortConfig → PortConfig → Option ℕ
twin_place earlier p = position (λ q. (network_of_kind q).0 == (network_of_kind p).0) earlier

-- 0.0.0.0, which is each address of this machine
abbrev pub is_any : List ℕ → Bool
is_any ip = pointwise nat_eq ip (0 ∷ 0 ∷ 0 ∷ 0 ∷ [])

-- some address is one of both
abbrev pub are_addresses_shared : List ℕ → List ℕ → Bool
are_addresses_shared a b = pointwise nat_eq a b || is_any a || is_any b

-- two sockets cannot be bound to both places: they have one UDP port, and share an address
abbrev pub are_places_shared : SocketAddrV4 → SocketAddrV4 → Bool
are_places_shared a b =
    (v4_port a == v4_port b) && are_addresses_shared (ipv4_octets (v4_ip a)) (ipv4_octets (v4_ip b))

-- the index among earlier ports of the first one that shares its place
abbrev pub shared_place : List PortConfig → PortConfig → Option ℕ
shared_place earlier p = position (λ q. are_places_shared (place_of_kind q) (place_of_kind p)) earlier

-- a port has its own network, and its own place
abbrev pub IsApart : List PortConfig → PortConfig → Type 0
IsApart earlier p = (twin_place earlier p ≡ None) × (shared_place earlier p ≡ None)

-- the port that an item of the array describes
abbrev pub IsPortItem : Data → PortConfig → Type 0
IsPortItem d p = (ms : Members) × (as_table d ≡ Some ms) × IsPortOfKind ms p

abbrev pub IsPortItemFault : ℕ → Data → ConfigError → Type 0
IsPortItemFault table d f = ((f ≡ Wrong table Key.Port) × (as_table d ≡ None))
    ⊎ ((ms : Members) × (as_table d ≡ Some ms) × IsKindFault table ms f)

-- a port's network is that of an earlier one: the fault names the first such port
abbrev pub IsTwin : List PortConfig → ℕ → PortConfig → ConfigError → Type 0
IsTwin earlier table p f = (k : ℕ) × (twin_place earlier p ≡ Some k)
    × (f ≡ Twin table (network_of_kind p) (k + 1))

-- or, if no network repeats, it shares the place of an earlier one: the fault names the first such port
abbrev pub IsRepeated : List PortConfig → ℕ → PortConfig → ConfigError → Type 0
IsRepeated earlier table p f = IsTwin earlier table p f ⊎ ((twin_place earlier p ≡ None)
    × ((k : ℕ) × (shared_place earlier p ≡ Some k) × (f ≡ SamePlace table (k + 1))))

-- item by item, these ports, none on the network or at the place of an earlier one
abbrev pub ArePorts : List PortConfig → Items → List PortConfig → Type 0
ArePorts earlier no_items ps = ps ≡ []
ArePorts earlier (item d ds) ps = (p : PortConfig) × (rest : List PortConfig) × (ps ≡ p ∷ rest)
    × IsPortItem d p × IsApart earlier p × ArePorts (earlier ++ p ∷ []) ds rest

-- the first fault of the items, which are numbered: each before it is a port
abbrev pub IsFirstFault : List PortConfig → ℕ → Items → ConfigError → Type 0
IsFirstFault earlier table no_items f = ⊥
IsFirstFault earlier table (item d ds) f = IsPortItemFault table d f
    ⊎ ((p : PortConfig) × IsPortItem d p × (IsRepeated earlier table p f
    ⊎ (IsApart earlier p × IsFirstFault (earlier ++ p ∷ []) (table + 1) ds f)))

-- a table describes a router
pub record IsSite (ms : Members) (s : RouterConfig) : Type 0 where
  pub known : first_unknown site_keys ms ≡ None
  pub metrics_file : HoldsIf IsFileName Key.MetricsFile ms s.metrics_file
  pub tables_file : HoldsIf (IsOtherFileName s.metrics_file) Key.TablesFile ms s.tables_file
  pub secret_file : HoldsIf (IsThirdFileName s.metrics_file s.tables_file) Key.SecretFile ms s.secret_file
  pub ports : (ds : Items) × Holds IsPortList Key.Port ms ds × ArePorts [] ds s.ports.items
  pub statics : AreStatics s.ports.items ms s.statics.items

-- its first fault: a name that is no key, the metrics file, the table file, which must differ from it, the file
-- of the secret, which must differ from both, the ports in order, and then the static entries
abbrev pub IsSiteFault : Members → ConfigError → Type 0
IsSiteFault ms f =
    IsUnknown site_keys ms 0 f
    ⊎ ((first_unknown site_keys ms ≡ None) × (IsWrong IsFileName Key.MetricsFile ms 0 f
    ⊎ ((status : Option (String Global)) × HoldsIf IsFileName Key.MetricsFile ms status
    × (IsWrong (IsOtherFileName status) Key.TablesFile ms 0 f
    ⊎ ((tables : Option (String Global)) × HoldsIf (IsOtherFileName status) Key.TablesFile ms tables
    × (IsWrong (IsThirdFileName status tables) Key.SecretFile ms 0 f
    ⊎ (IsRightOr (IsThirdFileName status tables) Key.SecretFile ms × (IsFault IsPortList Key.Port ms 0 f
    ⊎ ((ds : Items) × Holds IsPortList Key.Port ms ds × (IsFirstFault [] 1 ds f
    ⊎ ((ps : List PortConfig) × ArePorts [] ds ps × IsStaticFault ps ms f)))))))))))

-- a text is the file of a router
abbrev pub IsSiteText : List ℕ → RouterConfig → Type 0
IsSiteText text s = (ms : Members) × (parse_document text ≡ Some ms) × IsSite ms s

-- the first fault of a text that is not
abbrev pub IsSiteTextFault : List ℕ → ConfigError → Type 0
IsSiteTextFault text f = IsNoToml text f
    ⊎ ((ms : Members) × (parse_document text ≡ Some ms) × IsSiteFault ms f)
