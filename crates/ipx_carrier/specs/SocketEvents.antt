-- What became of each call that asked the system to receive a datagram at a UDP socket, or to send one.
-- Defined by this project.
use Rattle.std.specs.Prelude.{ℕ, List}
use Rattle.std.specs.declared.net.socket_addr.SocketAddr.{SocketAddr}

-- a socket was asked for a datagram, into a buffer of this size: these bytes came from this address; nothing
-- waited; or the system failed. A datagram was sent to this address, or the system refused it
pub data SocketEvent : Type 0 where
  Received : SocketAddr → ℕ → List ℕ → SocketEvent
  FoundNothing : ℕ → SocketEvent
  ReceiveFailed : ℕ → SocketEvent
  Sent : SocketAddr → List ℕ → SocketEvent
  SendRefused : SocketAddr → List ℕ → SocketEvent
