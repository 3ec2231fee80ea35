-- Which remotes of an Ethernet port a frame is sent to. Defined by this project.
use Rattle.std.specs.Prelude.{ℕ, ◌-◌, List, [], ◌∷◌, ◌++◌, length, drop, filter, find, not, Bool, true, false, ◌==◌, Option, Some, None, ◌&&◌, nat_le, nat_lt, if◌then◌else◌}
use Rattle.std.specs.Str.{bytes_eq}
use Rattle.ipx_wire.specs.declared.address.Node.{Node}
use Rattle.ipx_ethernet.specs.declared.egress.Egress.{Egress}
use Rattle.ipx_ethernet.specs.declared.egress.Egress.TheVariants.{Nowhere, ToOne, ToAll, ToOthers}
use Rattle.ipx_ethernet.specs.declared.mac_table.Station.{Station}
use Rattle.ipx_ethernet.specs.declared.notices.StationMove.{StationMove}

-- how many stations are known at most, and for how many ms each
abbrev pub max_stations : ℕ
max_stations = 1024

abbrev pub ageing_time : ℕ
ageing_time = 300000

-- the last n of xs
abbrev pub last_of : ℕ → List Station → List Station
last_of n xs = drop (length xs - n) xs

abbrev pub is_at : Node → Station → Bool
is_at node s = bytes_eq s.node.0 node.0

-- a station was heard. It is then known once, as the last one, and if there are too many the one heard
-- longest ago goes
abbrev pub stations_with : Station → List Station → List Station
stations_with s known = last_of max_stations (filter (λ k. not (is_at s.node k)) known ++ s ∷ [])

-- the remote of a station that was heard less than five minutes ago. If the clock went back before that, it
-- is not known
abbrev pub end_while_young : ℕ → Option Station → Option ℕ
end_while_young now None = None
end_while_young now (Some s) =
    if nat_le s.moment now && nat_lt (now - s.moment) ageing_time then Some s.end else None

-- the remote at which a station is known
abbrev pub end_of_station : Node → ℕ → List Station → Option ℕ
end_of_station node now known = end_while_young now (find (is_at node) known)

-- a station that is heard at a remote was heard at another less than so many ms ago
abbrev pub moving_time : ℕ
moving_time = 1000

abbrev pub move_from : Option Station → Node → ℕ → ℕ → Option StationMove
move_from None node end now = None
move_from (Some s) node end now =
    if nat_le s.moment now && nat_lt (now - s.moment) moving_time && not (s.end == end)
    then Some (record { node = node; before = s.end; after = end })
    else None

abbrev pub move_of : Node → ℕ → ℕ → List Station → Option StationMove
move_of node end now known = move_from (find (is_at node) known) node end now

-- where the port's own frame is sent, if its destination is known at a remote, or not known
abbrev pub way_out : Option ℕ → Egress
way_out None = ToAll
way_out (Some e) = ToOne e

-- where a frame from a remote is sent; never back there
abbrev pub way_past : ℕ → Option ℕ → Egress
way_past giver None = ToOthers giver
way_past giver (Some e) = if e == giver then Nowhere else ToOne e

-- whether a remote is one of those
abbrev pub is_way_to : Egress → ℕ → Bool
is_way_to Nowhere end = false
is_way_to (ToOne e) end = e == end
is_way_to ToAll end = true
is_way_to (ToOthers giver) end = not (giver == end)
