-- No frame is sent back to the remote that it came from.
use Rattle.std.proofs.Common.{◌≡◌, ℕ, List, Bool, true, false, Option, Some, None, length, not, refl, ap, eq-eqb}
use Rattle.std.specs.Prelude.{◌==◌, ◌||◌, if◌then◌else◌}
use Rattle.std.specs.Str.{bytes_eq}
use Rattle.ipx_wire.specs.declared.address.Node.{Node}
use Rattle.ipx_ethernet.specs.declared.egress.Egress.{Egress}
use Rattle.ipx_ethernet.specs.declared.egress.Egress.TheVariants.{Nowhere, ToOne}
use Rattle.ipx_ethernet.specs.declared.mac_table.Station.{Station}
use Rattle.ipx_ethernet.specs.SwitchEnds.{end_of_station, is_way_to, way_past}
use Rattle.ipx_ethernet.specs.Heard.{SwitchView, may_pass, station_from, station_to, way_after, way_between, way_joined}

-- a choice of two egresses that do not lead to a remote
neither : (b : Bool) (o p : Egress) (end : ℕ) → is_way_to o end ≡ false → is_way_to p end ≡ false → is_way_to (if b then o else p) end ≡ false
neither true o p end x y = x
neither false o p end x y = y

to_another : (b : Bool) (e giver : ℕ) → (e == giver) ≡ b → is_way_to (if b then Nowhere else ToOne e) giver ≡ false
to_another true e giver is = refl
to_another false e giver is = is

past_giver : (giver : ℕ) (place : Option ℕ) → is_way_to (way_past giver place) giver ≡ false
past_giver giver None = ap not (eq-eqb giver giver refl)
past_giver giver (Some e) = to_another (e == giver) e giver refl

forwarding_decision : (own : Node) (bytes : List ℕ) (end now : ℕ) (known : List Station)
    → is_way_to (way_between own (station_to bytes) (station_from bytes) end (end_of_station (station_to bytes) now known)) end ≡ false
forwarding_decision own bytes end now known =
    let place = end_of_station (station_to bytes) now known in
    neither (bytes_eq (station_from bytes).0 own.0 || bytes_eq (station_to bytes).0 own.0) Nowhere (way_past end place) end refl (past_giver end place)

joined : (own : Node) (bytes : List ℕ) (end now : ℕ) (known : List Station) → is_way_to (way_joined own bytes end now known) end ≡ false
joined own bytes end now known =
    let way = way_between own (station_to bytes) (station_from bytes) end (end_of_station (station_to bytes) now known) in
    neither (may_pass (length bytes)) way Nowhere end (forwarding_decision own bytes end now known) refl

pub never_back : (h : SwitchView) (bytes : List ℕ) (end now : ℕ) → is_way_to (way_after h bytes end now) end ≡ false
never_back h bytes end now =
    neither h.joined (way_joined h.port.own bytes end now h.stations) Nowhere end (joined h.port.own bytes end now h.stations) refl
