-- Definitions for the private functions that pick from what is advertised.
use Rattle.std.specs.Prelude.{◌≡◌, ◌≢◌, ℕ, ◌==◌, ◌&&◌, Bool, not, Option, Some, None, if◌then◌else◌}
use Rattle.ipx_wire.specs.declared.address.Network.{Network}
use Rattle.ipx_control.specs.declared.rip.packet.RipEntry.{RipEntry}
use Rattle.ipx_control.specs.declared.sap.packet.ServiceEntry.{ServiceEntry}
use Rattle.ipx_tables.specs.declared.service.ServiceKey.{ServiceKey}
use Rattle.ipx_tables.specs.declared.service.ServiceMetric.{ServiceMetric}
use Rattle.ipx_tables.specs.declared.source.Source.{Source}
use Rattle.ipx_router.specs.declared.port.PortNow.{PortNow}
use Rattle.ipx_router.specs.AdvertisedEntries.{advertised_service}
use Rattle.ipx_router.specs.Replying.{is_asked, is_nearer}

-- what is advertised of a network, or that nothing is
abbrev pub IsAdvertisedOf : (RipEntry → Type 0) → Network → Option RipEntry → Type 0
IsAdvertisedOf IsAdvertised network None = (t : RipEntry) → IsAdvertised t → t.network ≢ network
IsAdvertisedOf IsAdvertised network (Some t) = IsAdvertised t × (t.network ≡ network)

-- the nearer of a service and the held one, if there is one
abbrev pub nearer : Option ServiceEntry → ServiceEntry → ServiceEntry
nearer None service = service
nearer (Some held) service = if is_nearer service held then service else held

-- the best offer of a service came by another port, and is asked for
abbrev pub is_item_asked : PortNow → Bool → ℕ → ServiceKey × Source × ServiceMetric → Bool
is_item_asked at nearest kind item =
    not (item.1.port == at.number) && is_asked nearest kind (advertised_service item)
