-- Ports of all kinds, by their indices among those of their kind.
use Rattle.std.proofs.Common.{◌≡◌, ◌∙◌, ◌<◌, ℕ, List, [], ◌∷◌, Option, Some, None, Result, Ok, Err, length, map, get_or, refl, subst, sym, ap}
use Rattle.std.specs.Prelude.{IfOk, OnErr, option_map, unwrap_or}
use Rattle.std.proofs.lemmas.List.{length-map, map-append}
use Rattle.std.proofs.lemmas.Option.{slice_get_read}
use Rattle.ipx_carrier.specs.declared.port_driver.PacketSent.{PacketSent}
use Rattle.ipx_carrier.specs.PortDrivers.{SendsFrontOf, copies_count, count_in}
use Rattle.ipx_carrier.specs.Device.{Traffic}
use Rattle.ipx_carrier.specs.Turns.{Given, IsFrontOf, Peers, by_ip, copies_of}
use Rattle.ipx_ethernet.specs.declared.ethernet_port.EthernetPort.{EthernetPort}
use Rattle.ipx_ipxnet_ports.specs.OnServers.{by_servers}
use Rattle.ipx_ethernet_ports.specs.OnEthernet.{by_frames}
use Rattle.ipx_site.specs.declared.router_ports.PortIndex.{PortIndex}
use Rattle.ipx_site.specs.declared.router_ports.PortIndex.TheVariants.{Datagrams, Ethernet, IpxnetServer}
use Rattle.ipx_site.specs.RouterPorts.{ByDatagram, ByFrame, ByServer, PortCopy, by_kind, given_at, way_at}

-- each copy is one of either kind
as_many_copies : {A B : Type 0} (f : A → B) (o : Option (List A)) → option_map length (option_map (map f) o) ≡ option_map length o
as_many_copies f None = refl
as_many_copies f (Some xs) = ap Some (length-map xs f)

copies_mapped : {A B : Type 0} (f : A → B) (o : Option (List A)) → unwrap_or (option_map (map f) o) [] ≡ map f (unwrap_or o [])
copies_mapped f None = refl
copies_mapped f (Some xs) = refl

front_mapped : {A B : Type 0} (f : A → B) (front whole : List A) → IsFrontOf front whole → IsFrontOf (map f front) (map f whole)
front_mapped f front whole h = (f h.0, map f h.1, ap (map f) h.2 ∙ map-append f front (h.0 ∷ h.1))

module _ (peers : Peers) (ethernet : List EthernetPort) (port_indices : List PortIndex) (p : Given) (k : ℕ) (port_index : PortIndex)
    (there : p.port < length port_indices) (is : port_index ≡ get_or port_indices p.port port_index) where
  at_port_index : (s : PortIndex) → port_index ≡ s → copies_count (by_kind peers ethernet port_indices) p ≡ option_map length (way_at (by_ip peers) (by_frames ethernet) (Some s) p)
  at_port_index s at =
      ap (λ (o : Option PortIndex). option_map length (way_at (by_ip peers) (by_frames ethernet) o p))
      (slice_get_read port_indices (length port_indices) p.port port_index refl there is ∙ ap Some at)

  pub counts_datagrams : {E : Type 0} (sent : Result PacketSent E) → port_index ≡ Datagrams k
      → IfOk sent (λ s. count_in s ≡ copies_count (by_ip peers) (given_at k p)) → IfOk sent (λ s. count_in s ≡ copies_count (by_kind peers ethernet port_indices) p)
  counts_datagrams (Ok s) at h =
      h ∙ sym (at_port_index (Datagrams k) at ∙ as_many_copies ByDatagram (by_ip peers (given_at k p)))
  counts_datagrams (Err e) at h = tt

  pub counts_frames : {E : Type 0} (sent : Result PacketSent E) → port_index ≡ Ethernet k
      → IfOk sent (λ s. count_in s ≡ copies_count (by_frames ethernet) (given_at k p)) → IfOk sent (λ s. count_in s ≡ copies_count (by_kind peers ethernet port_indices) p)
  counts_frames (Ok s) at h =
      h ∙ sym (at_port_index (Ethernet k) at ∙ as_many_copies ByFrame (by_frames ethernet (given_at k p)))
  counts_frames (Err e) at h = tt

  pub counts_servers : {E : Type 0} (sent : Result PacketSent E) → port_index ≡ IpxnetServer k
      → IfOk sent (λ s. count_in s ≡ copies_count by_servers (given_at k p)) → IfOk sent (λ s. count_in s ≡ copies_count (by_kind peers ethernet port_indices) p)
  counts_servers (Ok s) at h =
      h ∙ sym (at_port_index (IpxnetServer k) at ∙ as_many_copies ByServer (by_servers (given_at k p)))
  counts_servers (Err e) at h = tt

  pub refused_datagrams : {T E : Type 0} (sent : Result T E) (before after : Option Traffic) → port_index ≡ Datagrams k
      → OnErr sent (SendsFrontOf (copies_of (by_ip peers) (given_at k p)) before after)
      → OnErr sent (SendsFrontOf (copies_of (by_kind peers ethernet port_indices) p) None None)
  refused_datagrams (Ok x) before after at h = tt
  refused_datagrams (Err e) before after at h =
      let same : copies_of (by_kind peers ethernet port_indices) p ≡ map ByDatagram (copies_of (by_ip peers) (given_at k p)) =
      ap (λ (o : Option PortIndex). unwrap_or (way_at (by_ip peers) (by_frames ethernet) o p) []) (slice_get_read port_indices (length port_indices) p.port port_index refl there is ∙ ap Some at)
      ∙ copies_mapped ByDatagram (by_ip peers (given_at k p)) in
      (map ByDatagram h.0, subst (λ (all : List PortCopy). IsFrontOf (map ByDatagram h.0) all) (sym same) (front_mapped ByDatagram h.0 (copies_of (by_ip peers) (given_at k p)) h.1), tt)
