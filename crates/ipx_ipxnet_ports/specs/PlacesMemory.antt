-- What sockets in memory record.
use Rattle.std.specs.Prelude.{List, map}
use Rattle.ipx_ipxnet_ports.specs.declared.memory.MemoryDatagram.{MemoryDatagram}
use Rattle.ipx_ipxnet_ports.specs.declared.memory.MemoryPlaces.{MemoryPlaces}
use Rattle.ipx_ipxnet_ports.specs.PlaceTraffic.{PlaceDatagram, PlaceTraffic}

abbrev pub memory_datagram : MemoryDatagram → PlaceDatagram
memory_datagram d = record { port = d.port; place = d.place; bytes = d.bytes.items }

abbrev pub memory_datagrams : List MemoryDatagram → List PlaceDatagram
memory_datagrams datagrams = map memory_datagram datagrams

abbrev pub places_traffic : MemoryPlaces → PlaceTraffic
places_traffic m =
    record { came = memory_datagrams m.came.items; went = memory_datagrams m.went.items }

-- what waits at all ports, in order
abbrev pub datagrams_waiting : MemoryPlaces → List PlaceDatagram
datagrams_waiting m = memory_datagrams m.waiting.items
