-- What passes through the sockets of Ethernet ports: which frame came from which remote of a port, and which
-- was sent to which. Defined by this project.
use Rattle.std.specs.Prelude.{◌≡◌, ℕ, zero, suc, List, [], ◌∷◌, ◌++◌, Option, Some, None, Result, Ok, Err, IfSome, take}
use Rattle.ipx_carrier.specs.declared.fault.DeviceFault.{DeviceFault}
use Rattle.ipx_carrier.specs.Counting.{raised}
use Rattle.ipx_ethernet_ports.specs.declared.end_sockets.FrameCame.{FrameCame}

-- a frame that came from a remote of a port, or was sent to one
pub record EndFrame : Type 0 where
  pub port : ℕ
  pub end : ℕ
  pub bytes : List ℕ

-- all that passed so far, in order
pub record EndTraffic : Type 0 where
  pub came : List EndFrame
  pub went : List EndFrame

-- the same bytes for a remote
abbrev pub frame_at : ℕ → List ℕ → ℕ → EndFrame
frame_at port bytes end = record { port = port; end = end; bytes = bytes }

-- what came is at the front of the buffer
abbrev pub came_in : ℕ → List ℕ → Option FrameCame → Option EndFrame
came_in port room None = None
came_in port room (Some c) = Some (frame_at port (take c.size room) c.end)

-- the frame that sockets answered at a port, if one came
abbrev pub frame_answered : ℕ → List ℕ → Result (Option FrameCame) DeviceFault → Option EndFrame
frame_answered port room (Ok came) = came_in port room came
frame_answered port room (Err _) = None

-- one frame or none, as a list
abbrev pub frames_in : Option EndFrame → List EndFrame
frames_in None = []
frames_in (Some f) = f ∷ []

-- sockets that record what passes record this after what they recorded before
abbrev pub EndsPass : Option EndTraffic → Option EndTraffic → List EndFrame → List EndFrame → Type 0
EndsPass old new came went =
    IfSome old (λ t. new ≡ Some (record { came = t.came ++ came; went = t.went ++ went }))

-- a count after this many failures, which stays at the greatest
abbrev pub raised_times : ℕ → ℕ → ℕ
raised_times zero n = n
raised_times (suc k) n = raised (raised_times k n)

-- the same after one call
abbrev pub failures_counted : {T E : Type 0} → Result T E → ℕ → ℕ
failures_counted (Ok x) n = n
failures_counted (Err e) n = raised n
