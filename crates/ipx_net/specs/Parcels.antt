-- Parcels, without the place of their bytes in memory.
use Rattle.std.specs.Prelude.{List, map, option_map}
use Rattle.spx_theory.specs.World.{ParcelView, AtHost, AtPort}
use Rattle.spx_theory.specs.World as Worlds
use Rattle.ipx_net.specs.declared.parcel.Parcel.{Parcel}
use Rattle.ipx_net.specs.declared.place.Place.{Place}
use Rattle.ipx_net.specs.declared.place.Place.TheVariants as Places

abbrev pub place_view : Place → Worlds.Place
place_view (Places.Host host) = AtHost host
place_view (Places.Port router port) = AtPort router port

abbrev pub parcel_view : Parcel → ParcelView
parcel_view p =
    record {
      segment = p.segment;
      next = p.next;
      bytes = p.bytes.items;
      sent_by = option_map place_view p.sent_by;
    }

abbrev pub parcel_views : List Parcel → List ParcelView
parcel_views parcels = map parcel_view parcels
