-- What a call of the ports of one kind says of the ports of a router.
use Rattle.std.proofs.Common.{◌≡◌, ℕ, List, [], ◌∷◌, Option, Some, Result, Ok, Err, subst, sym}
use Rattle.std.specs.Prelude.{IfOk, OnErr, OnOk, slice_get}
use Rattle.ipx_carrier.specs.declared.datagrams.Datagrams as OfDevice
use Rattle.ipx_carrier.specs.Device.{Passes, received_in}
use Rattle.ipx_carrier.specs.DriverTurns.{SendsEach, SendsSomeOf}
use Rattle.ipx_carrier.specs.PortDrivers.{SendsFrontOf}
use Rattle.ipx_carrier.specs.Turns.{Given}
use Rattle.ipx_ethernet_ports.specs.declared.end_sockets.EndSockets as OfSockets
use Rattle.ipx_ethernet_ports.specs.EthernetCalls.{ReceivesByEthernet, SendsByEthernet}
use Rattle.ipx_ipxnet_ports.specs.declared.place_sockets.PlaceSockets as OfPlaces
use Rattle.ipx_ipxnet_ports.specs.ServerCalls.{ReceivesByServers, SendsByServers}
use Rattle.ipx_site.specs.declared.router_ports.PortIndex.{PortIndex}
use Rattle.ipx_site.specs.declared.router_ports.PortIndex.TheVariants.{Datagrams, Ethernet, IpxnetServer}
use Rattle.ipx_site.specs.declared.router_ports.RouterPorts.{RouterPorts}
use Rattle.ipx_site.specs.PortCalls.{FailsToReceive, FailsToReceiveAt, FailsToSend, FailsToSendBy, ReceivesAtPort, ReceivesByKind, SendsByKind, SendsByPort, StayIndexed, datagrams_of}
use Rattle.ipx_site.specs.RouterPorts.{given_at}

module _ {D E L : Type 0} {gd : OfDevice.Ghosts D} {ge : OfSockets.Ghosts E} {gl : OfPlaces.Ghosts L} (old new : RouterPorts D E L gd ge gl) (k : ℕ) (stay : StayIndexed old new) where
  module _ (port size : ℕ) (room : List ℕ) where
    at_index : (i : PortIndex) (n : Option ℕ) → slice_get old.port_indices.items port ≡ Some i
        → ReceivesByKind (Some i) old size (received_in room n) new → ReceivesAtPort old port size (received_in room n) new
    at_index i n there h = subst (λ (o : Option PortIndex). ReceivesByKind o old size (received_in room n) new) (sym there) h

    pub receives_datagrams : {F : Type 0} (r : Result (Option ℕ) F) → slice_get old.port_indices.items port ≡ Some (Datagrams k) → new.ethernet ≡ old.ethernet → new.servers ≡ old.servers
        → IfOk r (λ n. (new.datagrams.peers ≡ old.datagrams.peers) × gd.receives old.datagrams.device k size (received_in room n) new.datagrams.device)
        → IfOk r (λ n. Passes (gd.traffic old.datagrams.device) (gd.traffic new.datagrams.device) (record { port = k; bytes = received_in room n } ∷ []) [])
        → IfOk r (λ n. ReceivesAtPort old port size (received_in room n) new)
    receives_datagrams (Ok n) there e s h p = at_index (Datagrams k) n there (h.1, h.0, p, e, s, stay)
    receives_datagrams (Err f) there e s h p = tt

    pub receives_ethernet : {F : Type 0} (r : Result (Option ℕ) F) → slice_get old.port_indices.items port ≡ Some (Ethernet k) → new.datagrams ≡ old.datagrams → new.servers ≡ old.servers
        → IfOk r (λ n. ReceivesByEthernet ge.ends_of ge.traffic ge.failed ge.asks ge.sends old.ethernet k size (received_in room n) new.ethernet)
        → IfOk r (λ n. ReceivesAtPort old port size (received_in room n) new)
    receives_ethernet (Ok n) there d s h = at_index (Ethernet k) n there (h, d, s, stay)
    receives_ethernet (Err f) there d s h = tt

    pub receives_servers : {F : Type 0} (r : Result (Option ℕ) F) → slice_get old.port_indices.items port ≡ Some (IpxnetServer k) → new.datagrams ≡ old.datagrams → new.ethernet ≡ old.ethernet
        → IfOk r (λ n. ReceivesByServers gl.traffic gl.failed gl.asks gl.sends old.servers k size (received_in room n) new.servers)
        → IfOk r (λ n. ReceivesAtPort old port size (received_in room n) new)
    receives_servers (Ok n) there d e h = at_index (IpxnetServer k) n there (h, d, e, stay)
    receives_servers (Err f) there d e h = tt

  module _ (p : Given) where
    of_index : (i : PortIndex) → slice_get old.port_indices.items p.port ≡ Some i → SendsByKind (Some i) old p new → SendsByPort old p new
    of_index i there h = subst (λ (o : Option PortIndex). SendsByKind o old p new) (sym there) h

    pub sends_datagrams : {T F : Type 0} (r : Result T F) → slice_get old.port_indices.items p.port ≡ Some (Datagrams k) → new.ethernet ≡ old.ethernet → new.servers ≡ old.servers
        → OnOk r ((new.datagrams.peers ≡ old.datagrams.peers) × SendsEach gd.sends (datagrams_of old k p) old.datagrams.device new.datagrams.device)
        → OnOk r (Passes (gd.traffic old.datagrams.device) (gd.traffic new.datagrams.device) [] (datagrams_of old k p))
        → OnOk r (SendsByPort old p new)
    sends_datagrams (Ok t) there e s h passes = of_index (Datagrams k) there (h.1, h.0, passes, e, s, stay)
    sends_datagrams (Err f) there e s h passes = tt

    pub sends_ethernet : {T F : Type 0} (r : Result T F) → slice_get old.port_indices.items p.port ≡ Some (Ethernet k) → new.datagrams ≡ old.datagrams → new.servers ≡ old.servers
        → OnOk r (SendsByEthernet ge.ends_of ge.traffic ge.failed ge.sends old.ethernet (given_at k p) new.ethernet)
        → OnOk r (SendsByPort old p new)
    sends_ethernet (Ok t) there d s h = of_index (Ethernet k) there (h, d, s, stay)
    sends_ethernet (Err f) there d s h = tt

    pub sends_servers : {T F : Type 0} (r : Result T F) → slice_get old.port_indices.items p.port ≡ Some (IpxnetServer k) → new.datagrams ≡ old.datagrams → new.ethernet ≡ old.ethernet
        → OnOk r (SendsByServers gl.traffic gl.failed gl.sends old.servers (given_at k p) new.servers)
        → OnOk r (SendsByPort old p new)
    sends_servers (Ok t) there d e h = of_index (IpxnetServer k) there (h, d, e, stay)
    sends_servers (Err f) there d e h = tt

    pub fails_to_send : {T F : Type 0} (r : Result T F) → slice_get old.port_indices.items p.port ≡ Some (Datagrams k) → new.ethernet ≡ old.ethernet → new.servers ≡ old.servers
        → OnErr r ((new.datagrams.peers ≡ old.datagrams.peers) × SendsSomeOf gd.sends gd.fails_to_send (datagrams_of old k p) old.datagrams.device new.datagrams.device)
        → OnErr r (SendsFrontOf (datagrams_of old k p) (gd.traffic old.datagrams.device) (gd.traffic new.datagrams.device))
        → OnErr r (FailsToSendBy old p new)
    fails_to_send (Ok t) there e s h front = tt
    fails_to_send (Err f) there e s h front =
        subst (λ (o : Option PortIndex). FailsToSend o old p new) (sym there) (h.1, h.0, front, e, s, stay)

  pub fails_to_receive : {T F : Type 0} (port size : ℕ) (r : Result T F) → slice_get old.port_indices.items port ≡ Some (Datagrams k) → new.ethernet ≡ old.ethernet → new.servers ≡ old.servers
      → OnErr r ((new.datagrams.peers ≡ old.datagrams.peers) × gd.fails_to_receive old.datagrams.device k size new.datagrams.device)
      → OnErr r (gd.traffic new.datagrams.device ≡ gd.traffic old.datagrams.device)
      → OnErr r (FailsToReceiveAt old port size new)
  fails_to_receive port size (Ok t) there e s h same = tt
  fails_to_receive port size (Err f) there e s h same =
      subst (λ (o : Option PortIndex). FailsToReceive o old size new) (sym there) (h.1, h.0, same, e, s, stay)

-- a call that never fails
pub never_fails : {T F : Type 0} (P : Type 0) (r : Result T F) → OnErr r ⊥ → OnErr r P
never_fails P (Ok t) h = tt
never_fails P (Err f) h = absurd h
