-- The access lists of a device, as those of the ports of a file. Defined by this project.
use Rattle.std.specs.Prelude.{◌≡◌, List, map}
use Rattle.ipx_carrier.specs.Device.{Access}
use Rattle.ipx_sockets.specs.declared.source_filter.AccessList.{AccessList}
use Rattle.ipx_config.specs.declared.site.Rfc1234PortConfig.{Rfc1234PortConfig}
use Rattle.ipx_config.specs.SitePorts.{access_of, named}

abbrev pub access_by : AccessList → Access
access_by g = record {
  network = g.network;
  sends = named g.sends;
  hears = named g.hears;
  routers = named g.routers;
}

-- the access lists are those of the ports, in order
abbrev pub AccessListPorts : List Rfc1234PortConfig → List AccessList → Type 0
AccessListPorts ports access_lists = map access_by access_lists ≡ map access_of ports
