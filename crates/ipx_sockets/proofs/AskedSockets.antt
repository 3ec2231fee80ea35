-- What came of asking the socket of a port.
use Rattle.std.proofs.Common.{◌≡◌, ◌∙◌, ℕ, Bool, false, List, Option, Some, None, Result, Ok, Err, refl, subst, sym, slice_index_or, slice_set, take}
use Rattle.std.proofs.lemmas.Option.{get_or_from_slice_get}
use Rattle.std.specs.Prelude.{IfSome, slice_get}
use Rattle.std.specs.declared.net.socket_addr.SocketAddr.{SocketAddr}
use Rattle.ipx_carrier.specs.declared.fault.DeviceFault.{DeviceFault}
use Rattle.ipx_carrier.specs.declared.placed_socket.PlacedSocket.{PlacedSocket}
use Rattle.ipx_carrier.specs.Device.{received_in}
use Rattle.ipx_carrier.specs.ReadySet.{marks_after}
use Rattle.ipx_carrier.specs.Traces.{Got, TriesToReceive}
use Rattle.ipx_ipxnet_ports.specs.ServerAddresses.{ipv4_of_place}
use Rattle.ipx_sockets.specs.declared.sockets.PortSocket.{PortSocket}
use Rattle.ipx_sockets.specs.Senders.{AsksForPacket, sender_after, size_got}

-- what holds of a socket holds of the one at its port
at_port : (P : PortSocket → Type 0) (found : Option PortSocket) (s : PortSocket) → ((v : PortSocket) → found ≡ Some v → v ≡ s) → P s → IfSome found P
at_port P None s same p = tt
at_port P (Some v) s same p = subst P (sym (same v refl)) p

pub asks_there : (sockets : List PortSocket) (port : ℕ) (s : PortSocket) (after : PlacedSocket) (got : Got) (room : List ℕ) (faults more : ℕ)
    → s ≡ slice_index_or sockets port s → TriesToReceive got room s.socket after faults more
    → AsksForPacket port got room sockets (slice_set sockets port (record s { socket = after })) faults more
asks_there sockets port s after got room faults more there tries =
    at_port _ (slice_get sockets port) s (λ v e. sym (there ∙ get_or_from_slice_get sockets port v s e)) (after, tries, refl)

-- what becomes of the marks, the answer and the last sender by what a socket got
abbrev AnswersBy : ℕ → List Bool → Option (List ℕ) → List ℕ → List Bool → Option (List ℕ) → Option (List ℕ) → Got → Type 0
AnswersBy port marks sender room after answer sender_then got = (after ≡ marks_after port got marks)
    × (answer ≡ received_in room (size_got got)) × (sender_then ≡ sender_after got sender)

module _ (port : ℕ) (marks : List Bool) (sender : Option (List ℕ)) (room : List ℕ) (got : Got) where
  pub of_datagram : (size : ℕ) (from : SocketAddr) → got ≡ Ok (Some (size, from)) → AnswersBy port marks sender room marks (Some (take size room)) (ipv4_of_place from) got
  of_datagram size from e = subst (AnswersBy port marks sender room marks (Some (take size room)) (ipv4_of_place from)) (sym e) (refl, refl, refl)

  pub of_nothing : got ≡ Ok None → AnswersBy port marks sender room (slice_set marks port false) None sender got
  of_nothing e = subst (AnswersBy port marks sender room (slice_set marks port false) None sender) (sym e) (refl, refl, refl)

  pub of_failing : (fault : DeviceFault) → got ≡ Err fault → AnswersBy port marks sender room marks None sender got
  of_failing fault e = subst (AnswersBy port marks sender room marks None sender) (sym e) (refl, refl, refl)
