-- Where a frame is forwarded once its source is known, and which stations are known then.
use Rattle.std.proofs.Common.{◌≡◌, ◌≤◌, ◌<◌, ◌+◌, ℕ, List, ◌∷◌, Bool, true, false, Some, None, length, find, refl, ap, ◌∙◌}
use Rattle.std.specs.Prelude.{◌==◌, if◌then◌else◌}
use Rattle.std.specs.Str.{bytes_eq}
use Rattle.ipx_wire.specs.declared.address.Node.{Node}
use Rattle.ipx_ethernet.specs.declared.mac_table.Station.{Station}
use Rattle.ipx_ethernet.specs.SwitchEnds.{end_of_station, is_at, is_way_to, max_stations, ageing_time, stations_with}
use Rattle.ipx_ethernet.specs.Heard.{SwitchView, switch_passing, may_be_station, may_pass, station_from, station_to, way_after}
use Rattle.ipx_ethernet.proofs.Known.{known_again, known_in_full, known_no_more, known_not_yet, known_still, known_there}

-- ---- where it is forwarded

unknown_at : (h : SwitchView) (bytes : List ℕ) (end now other : ℕ) → h.joined ≡ true → may_pass (length bytes) ≡ true → bytes_eq (station_from bytes).0 h.port.own.0 ≡ false → bytes_eq (station_to bytes).0 h.port.own.0 ≡ false
    → end_of_station (station_to bytes) now h.stations ≡ None → (end == other) ≡ false → is_way_to (way_after h bytes end now) other ≡ true
unknown_at h bytes end now other joined passes from to none apart = rw (joined, passes, from, to, none, apart) refl

pub unknown_goes : (h : SwitchView) (bytes : List ℕ) (end now other : ℕ) → h.joined ≡ true → may_pass (length bytes) ≡ true → bytes_eq (station_from bytes).0 h.port.own.0 ≡ false → bytes_eq (station_to bytes).0 h.port.own.0 ≡ false
    → end_of_station (station_to bytes) now (switch_passing h bytes end now).stations ≡ None → (end == other) ≡ false → is_way_to (way_after (switch_passing h bytes end now) bytes end now) other ≡ true
unknown_goes h bytes end now other = unknown_at (switch_passing h bytes end now) bytes end now other

known_at : (h : SwitchView) (bytes : List ℕ) (end now place other : ℕ) → h.joined ≡ true → may_pass (length bytes) ≡ true → bytes_eq (station_from bytes).0 h.port.own.0 ≡ false → bytes_eq (station_to bytes).0 h.port.own.0 ≡ false
    → end_of_station (station_to bytes) now h.stations ≡ Some place → (place == end) ≡ false → is_way_to (way_after h bytes end now) other ≡ (place == other)
known_at h bytes end now place other joined passes from to some apart = rw (joined, passes, from, to, some, apart) refl

pub known_goes : (h : SwitchView) (bytes : List ℕ) (end now place other : ℕ) → h.joined ≡ true → may_pass (length bytes) ≡ true → bytes_eq (station_from bytes).0 h.port.own.0 ≡ false → bytes_eq (station_to bytes).0 h.port.own.0 ≡ false
    → end_of_station (station_to bytes) now (switch_passing h bytes end now).stations ≡ Some place → (place == end) ≡ false → is_way_to (way_after (switch_passing h bytes end now) bytes end now) other ≡ (place == other)
known_goes h bytes end now place other = known_at (switch_passing h bytes end now) bytes end now place other

-- ---- what is known then

abbrev sender : List ℕ → ℕ → ℕ → Station
sender bytes end heard = record { node = station_from bytes; end = end; moment = heard }

with_sender : (h : SwitchView) (bytes : List ℕ) (end heard : ℕ) → may_pass (length bytes) ≡ true → may_be_station h.port.own (station_from bytes) ≡ true
    → (switch_passing h bytes end heard).stations ≡ stations_with (sender bytes end heard) h.stations
with_sender h bytes end heard passes behind = rw (passes, behind) refl

pub sender_known : (h : SwitchView) (bytes : List ℕ) (end heard now : ℕ) → may_pass (length bytes) ≡ true → may_be_station h.port.own (station_from bytes) ≡ true → heard ≤ now → now < heard + ageing_time
    → end_of_station (station_from bytes) now (switch_passing h bytes end heard).stations ≡ Some end
sender_known h bytes end heard now passes behind le lt =
    ap (end_of_station (station_from bytes) now) (with_sender h bytes end heard passes behind) ∙ known_there (sender bytes end heard) h.stations now le lt

pub sender_old : (h : SwitchView) (bytes : List ℕ) (end heard now : ℕ) → may_pass (length bytes) ≡ true → may_be_station h.port.own (station_from bytes) ≡ true → heard + ageing_time ≤ now
    → end_of_station (station_from bytes) now (switch_passing h bytes end heard).stations ≡ None
sender_old h bytes end heard now passes behind le =
    ap (end_of_station (station_from bytes) now) (with_sender h bytes end heard passes behind) ∙ known_no_more (sender bytes end heard) h.stations now le

pub sender_before : (h : SwitchView) (bytes : List ℕ) (end heard now : ℕ) → may_pass (length bytes) ≡ true → may_be_station h.port.own (station_from bytes) ≡ true → now < heard
    → end_of_station (station_from bytes) now (switch_passing h bytes end heard).stations ≡ None
sender_before h bytes end heard now passes behind lt =
    ap (end_of_station (station_from bytes) now) (with_sender h bytes end heard passes behind) ∙ known_not_yet (sender bytes end heard) h.stations now lt

-- what holds for the table with the sender and for the one before holds for the one after
chosen : (a b : Bool) (other : Node) (now : ℕ) (with known : List Station) → end_of_station other now with ≡ end_of_station other now known
    → end_of_station other now (if a then (if b then with else known) else known) ≡ end_of_station other now known
chosen true true other now with known same = same
chosen true false other now with known same = refl
chosen false b other now with known same = refl

passing_same : (h : SwitchView) (bytes : List ℕ) (end heard : ℕ) (other : Node) (now : ℕ) → end_of_station other now (stations_with (sender bytes end heard) h.stations) ≡ end_of_station other now h.stations
    → end_of_station other now (switch_passing h bytes end heard).stations ≡ end_of_station other now h.stations
passing_same h bytes end heard other now same =
    chosen (may_pass (length bytes)) (may_be_station h.port.own (station_from bytes)) other now (stations_with (sender bytes end heard) h.stations) h.stations same

pub others_with_room : (h : SwitchView) (bytes : List ℕ) (end heard : ℕ) (other : Node) (now : ℕ) → bytes_eq (station_from bytes).0 other.0 ≡ false → length h.stations < max_stations
    → end_of_station other now (switch_passing h bytes end heard).stations ≡ end_of_station other now h.stations
others_with_room h bytes end heard other now apart few =
    passing_same h bytes end heard other now (known_still (sender bytes end heard) h.stations other now apart few)

pub others_in_full : (h : SwitchView) (bytes : List ℕ) (end heard : ℕ) (other : Node) (now : ℕ) (first : Station) (rest : List Station) → h.stations ≡ first ∷ rest → bytes_eq (station_from bytes).0 other.0 ≡ false → length h.stations ≤ max_stations → bytes_eq first.node.0 other.0 ≡ false
    → end_of_station other now (switch_passing h bytes end heard).stations ≡ end_of_station other now h.stations
others_in_full h bytes end heard other now first rest is apart few unlike =
    passing_same h bytes end heard other now (known_in_full (sender bytes end heard) first h.stations rest other now is apart few unlike)

pub others_again : (h : SwitchView) (bytes : List ℕ) (end heard : ℕ) (other : Node) (now : ℕ) (before : Station) → find (is_at (station_from bytes)) h.stations ≡ Some before → bytes_eq (station_from bytes).0 other.0 ≡ false → length h.stations ≤ max_stations
    → end_of_station other now (switch_passing h bytes end heard).stations ≡ end_of_station other now h.stations
others_again h bytes end heard other now before found apart few =
    passing_same h bytes end heard other now (known_again (sender bytes end heard) before h.stations other now found apart few)
