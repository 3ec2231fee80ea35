-- Sockets were asked at a port, and a datagram came.
use Rattle.std.proofs.Common.{◌≡◌, ℕ, List, Option, Some, Result, Ok, length, ap, sym}
use Rattle.ipxnet_server.specs.ServerHears.{ServerView}
use Rattle.ipx_carrier.specs.declared.fault.DeviceFault.{DeviceFault}
use Rattle.ipx_ipxnet_ports.specs.declared.place_sockets.DatagramCame.{DatagramCame}
use Rattle.ipx_ipxnet_ports.specs.OnServers.{AreAskedForDatagram, HandsAnswerOn, datagram_buffer}
use Rattle.ipx_ipxnet_ports.specs.PlaceTraffic.{PlaceDatagram, came_from_place, datagram_answered}

module _ {S : Type 0} (asks : ℕ → Result (Option DatagramCame) DeviceFault → List ℕ → S → S → Type 0) (sends : S → PlaceDatagram → S → Type 0) (now : ℕ) (servers servers_after : List ServerView) (port : ℕ) (before asked after : S) (buffer : List ℕ) (answer : Result (Option DatagramCame) DeviceFault)
    (asking : asks port answer buffer before asked) (size : length buffer ≡ datagram_buffer) where
  pub asked_datagram : (c : DatagramCame) → answer ≡ Ok (Some c) → HandsAnswerOn sends now servers servers_after (came_from_place port buffer (Some c)) asked after
      → AreAskedForDatagram asks sends now servers servers_after port before (came_from_place port buffer (Some c)) after
  asked_datagram c is onward = record {
    answer = answer;
    buffer = buffer;
    asked = asked;
    asking = asking;
    size = size;
    answered = sym (ap (datagram_answered port buffer) is);
    onward = onward;
  }
