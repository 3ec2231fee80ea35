use Rattle.std.proofs.Common.{◌≡◌, ◌∙◌, ap, arith, length, map, min, sym}
use Rattle.std.proofs.lemmas.List.{length-map}
use Rattle.ipx_ethernet_ports.specs.EthernetAddresses.{known_places, remote_count, remote_counts}
use Rattle.ipx_ipxnet_ports.specs.ServerAddresses.{prefixes_heard}
use Rattle.ipx_config.specs.PortLists.{datagram_ports, ipxnet_ports, ethernet_ports, listed_places}
use Rattle.ipx_site.specs.KindPorts.{switch_of, server_of_port}
use Rattle.ipx_site.proofs.KindLists.{all_fit}
use Rattle.ipx_site.proofs.Ports.{same_length}
use Rattle.ipx_site.proofs.Registered.{as_many_lists}
use Rattle.ipx_site.proofs.routing.bound_ports.Goals as goal

pub new-requires : goal.new-requires
new-requires g c =
    let ports = c.args.ports.now in
    let ethernet = c.in_ok-ethernet.ethernet in
    let sockets = same_length (λ s. s.udp_port) (λ p. p.udp_port) c.in_ok-datagrams.datagrams.device.device.sockets.items (datagram_ports ports) c.in_ok-datagrams.ensures.sockets in
    let switches : length ethernet.switches.items ≡ length (ethernet_ports ports) = ap length c.in_ok-ethernet.ensures.switches ∙ length-map (ethernet_ports ports) switch_of in
    let ends : length (remote_counts ethernet.sockets.ethernet.items) ≡ length (ethernet_ports ports) = length-map ethernet.sockets.ethernet.items (λ w. remote_count w.remotes) ∙ same_length (λ w. known_places w.remotes) (λ p. listed_places p.remotes) ethernet.sockets.ethernet.items (ethernet_ports ports) c.in_ok-ethernet.ensures.ends in
    let servers = c.in_ok-servers.servers in
    let rooms : length servers.servers.items ≡ length (ipxnet_ports ports) = ap length c.in_ok-servers.ensures.servers ∙ length-map (ipxnet_ports ports) (server_of_port c.args.kept.now.secret c.args.kept.now.clients.items) in
    let doors : length servers.sockets.sockets.items ≡ length (ipxnet_ports ports) = sym (length-map servers.sockets.sockets.items prefixes_heard) ∙ as_many_lists (ipxnet_ports ports) (map prefixes_heard servers.sockets.sockets.items) c.in_ok-servers.ensures.registering in
    all_fit ports c.in_ok-port_indices.port_indices.items (length c.in_ok-datagrams.datagrams.device.device.sockets.items) (min (length ethernet.switches.items) (length (remote_counts ethernet.sockets.ethernet.items)))
    (min (length servers.servers.items) (length servers.sockets.sockets.items))
    c.in_ok-port_indices.ensures sockets (omega (arith, switches, ends)) (omega (arith, rooms, doors))
