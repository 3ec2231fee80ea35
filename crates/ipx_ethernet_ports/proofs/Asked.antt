-- Sockets were asked at a port, and a frame came.
use Rattle.std.proofs.Common.{◌≡◌, ◌<◌, ℕ, List, Option, Some, Result, Ok, length, ap, sym}
use Rattle.ipx_ethernet.specs.Heard.{SwitchView}
use Rattle.ipx_carrier.specs.declared.fault.DeviceFault.{DeviceFault}
use Rattle.ipx_ethernet_ports.specs.declared.end_sockets.FrameCame.{FrameCame}
use Rattle.ipx_ethernet_ports.specs.EndTraffic.{EndFrame, came_in, frame_answered}
use Rattle.ipx_ethernet_ports.specs.OnEthernet.{AreAskedForFrame, HandsOn, frame_buffer}

module _ {S : Type 0} (asks : ℕ → Result (Option FrameCame) DeviceFault → List ℕ → S → S → Type 0) (sends : S → EndFrame → S → Type 0) (n now : ℕ) (switches switches_after : List SwitchView) (port : ℕ) (before asked after : S) (buffer : List ℕ) (answer : Result (Option FrameCame) DeviceFault)
    (asking : asks port answer buffer before asked) (whole : frame_buffer < length buffer) where
  pub asked_frame : (c : FrameCame) → answer ≡ Ok (Some c) → HandsOn sends n now switches switches_after (came_in port buffer (Some c)) asked after → AreAskedForFrame asks sends n now switches switches_after port before (came_in port buffer (Some c)) after
  asked_frame c is onward = record {
    answer = answer;
    buffer = buffer;
    asked = asked;
    asking = asking;
    whole = whole;
    answered = sym (ap (frame_answered port buffer) is);
    onward = onward;
  }
