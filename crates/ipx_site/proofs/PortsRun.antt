-- How the core of a site's router sees its ports does not depend on the times set at Ethernet and ipxnet
-- ports.
use Rattle.std.proofs.Common.{◌≡◌, ◌∙◌, ℕ, ap, map}
use Rattle.ipx_carrier.specs.Turns.{peers_of}
use Rattle.ipx_carrier.specs.declared.datagrams.Datagrams as OfDevice
use Rattle.ipx_ipxnet_ports.specs.declared.place_sockets.PlaceSockets as OfPlaces
use Rattle.ipx_ipxnet_ports.specs.declared.sockets.ServerSockets.{ServerSockets}
use Rattle.ipx_ethernet_ports.specs.declared.end_sockets.EndSockets as OfSockets
use Rattle.ipx_ethernet_ports.specs.declared.sockets.EthernetSockets.{EthernetSockets}
use Rattle.ipx_sockets.specs.declared.source_filter.SourceFilter.{SourceFilter}
use Rattle.ipx_sockets.specs.declared.sockets.UdpSockets.{UdpSockets}
use Rattle.ipx_site.specs.PortsView.{SitePortsRun, ways_in}
use Rattle.ipx_site.specs.RouterPorts.{by_kind}

module _ {gd : OfDevice.Ghosts (SourceFilter UdpSockets)} {ge : OfSockets.Ghosts EthernetSockets} {gl : OfPlaces.Ghosts ServerSockets} (r s : SitePortsRun gd ge gl) (moment : ℕ) (same : s.datagrams ≡ r.datagrams) (later : s.ethernet ≡ record r.ethernet { moment = moment })
    (too : s.servers ≡ record r.servers { moment = moment }) where
  pub ways_stay : s.port_indices ≡ r.port_indices → ways_in s ≡ ways_in r
  ways_stay there =
      ap (λ d. by_kind (peers_of d.peers.items) (map (λ h. h.port) s.ethernet.switches.items) s.port_indices.items) same
      ∙ ap (λ w. by_kind (peers_of r.datagrams.peers.items) (map (λ h. h.port) w.switches.items) s.port_indices.items) later
      ∙ ap (λ p. by_kind (peers_of r.datagrams.peers.items) (map (λ h. h.port) r.ethernet.switches.items) p.items) there

-- nor on what ipxnet servers did by themselves
module _ {gd : OfDevice.Ghosts (SourceFilter UdpSockets)} {ge : OfSockets.Ghosts EthernetSockets} {gl : OfPlaces.Ghosts ServerSockets} (r s : SitePortsRun gd ge gl) (same : s.datagrams ≡ r.datagrams) (still : s.ethernet ≡ r.ethernet) where
  pub ways_pinged : s.port_indices ≡ r.port_indices → ways_in s ≡ ways_in r
  ways_pinged there =
      ap (λ d. by_kind (peers_of d.peers.items) (map (λ h. h.port) s.ethernet.switches.items) s.port_indices.items) same
      ∙ ap (λ w. by_kind (peers_of r.datagrams.peers.items) (map (λ h. h.port) w.switches.items) s.port_indices.items) still
      ∙ ap (λ p. by_kind (peers_of r.datagrams.peers.items) (map (λ h. h.port) r.ethernet.switches.items) p.items) there
