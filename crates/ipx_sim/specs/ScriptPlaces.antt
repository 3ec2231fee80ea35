-- The names of a network's hosts and routers, and its places. Defined by this project.
use Rattle.std.specs.Prelude.{ℕ, ◌+◌, Bool, false, ◌==◌, ◌&&◌, if◌then◌else◌, List, drop, take, map, position, string_bytes, Option, Some, None, option_map}
use Rattle.std.specs.List.{list_any}
use Rattle.std.specs.Str.{bytes_eq}
use Rattle.ipx_net.specs.declared.event.Member.{Member}
use Rattle.ipx_net.specs.declared.event.Member.TheVariants as Members
use Rattle.ipx_net.specs.declared.place.Place.{Place}
use Rattle.ipx_net.specs.declared.place.Place.TheVariants as Places
use Rattle.ipx_sim.specs.ScriptFields.{number_in, within}
use Rattle.ipx_sim.specs.declared.names.Names.{Names}
use Rattle.ipx_sim.specs.declared.names.ScriptTarget.{ScriptTarget}

-- the names of hosts and of routers, and all members and places, apart from where they are in memory
pub record NamesView : Type 0 where
  pub hosts : List (List ℕ)
  pub routers : List (List ℕ)
  pub members : List Member
  pub spots : List ScriptTarget

abbrev pub map_view : Names → NamesView
map_view m =
    record {
      hosts = map string_bytes m.hosts.items;
      routers = map string_bytes m.routers.items;
      members = m.members.items;
      spots = m.spots.items;
    }

-- the position of a name among others
unfoldable pub place_among : List (List ℕ) → List ℕ → Option ℕ
place_among names name = position (λ known. bytes_eq known name) names

abbrev pub host_in : NamesView → List ℕ → Option ℕ
host_in m name = place_among m.hosts name

abbrev pub router_in : NamesView → List ℕ → Option ℕ
router_in m name = place_among m.routers name

-- a host or a router of that name
abbrev pub member_of : Option ℕ → Option ℕ → Option Member
member_of (Some host) router = Some (Members.Host host)
member_of None router = option_map Members.Router router

abbrev pub member_in : NamesView → List ℕ → Option Member
member_in m name = member_of (host_in m name) (router_in m name)

-- whether two places are the same
abbrev pub same_place : Place → Place → Bool
same_place (Places.Host a) (Places.Host b) = a == b
same_place (Places.Host a) (Places.Port router port) = false
same_place (Places.Port router port) (Places.Host b) = false
same_place (Places.Port router port) (Places.Port r p) = (router == r) && (port == p)

-- a port of a router, if the router has it
abbrev pub port_target : List ScriptTarget → Option ℕ → Option ℕ → Option Place
port_target spots (Some router) (Some port) =
    if list_any (λ s. same_place s.place (Places.Port router port)) spots
    then Some (Places.Port router port) else None
port_target spots (Some router) None = None
port_target spots None port = None

abbrev pub port_in : NamesView → List ℕ → List ℕ → Option Place
port_in m router port = port_target m.spots (router_in m router) (within 0 255 (number_in port))

-- a host, or a router and its port with a dot between them
abbrev pub place_at : NamesView → List ℕ → Option ℕ → Option Place
place_at m field None = option_map Places.Host (host_in m field)
place_at m field (Some dot) = port_in m (take dot field) (drop (dot + 1) field)

abbrev pub place_in : NamesView → List ℕ → Option Place
place_in m field = place_at m field (position (λ b. b == 46) field)
