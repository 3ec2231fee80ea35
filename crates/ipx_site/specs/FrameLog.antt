-- What a router logs of frames that show a mistake on the segment of an Ethernet port. Defined by this project.
use Rattle.std.specs.Prelude.{ℕ, List, map, Option, Some, None}
use Rattle.ipx_ethernet.specs.Heard.{SwitchView}
use Rattle.ipx_sockets.specs.Moments.{AreLoggedIfDue}
use Rattle.ipx_site.specs.KindMetrics.{switch_at}
use Rattle.ipx_site.specs.declared.frame_log.FrameLog.{FrameLog}
use Rattle.ipx_site.specs.declared.frame_log.FrameMistake.{FrameMistake}
use Rattle.ipx_site.specs.declared.frame_log.FrameMistake.TheVariants.{OtherNetwork, TwoPlaces, OwnAddress}
use Rattle.ipx_site.specs.declared.router_ports.PortIndex.{PortIndex}

-- how often a switch noticed a mistake: a router that says that the segment has another network, a station
-- heard at two remotes within a second, or a frame from the port's own address
abbrev pub count_in : FrameMistake → SwitchView → ℕ
count_in OtherNetwork s = s.notices.claims
count_in TwoPlaces s = s.notices.moves
count_in OwnAddress s = s.counts.own

-- how often at a port; never at a port of another kind
abbrev pub port_mistakes : FrameMistake → Option SwitchView → ℕ
port_mistakes mistake None = 0
port_mistakes mistake (Some s) = count_in mistake s

-- how often at each port
abbrev pub mistakes : FrameMistake → List SwitchView → List PortIndex → List ℕ
mistakes mistake switches port_indices = map (λ p. port_mistakes mistake (switch_at switches p)) port_indices

-- each mistake is logged for each port, exactly if it is due
pub record AreMistakesLogged (switches : List SwitchView) (port_indices : List PortIndex) (now : ℕ) (old new : FrameLog) : Type 0 where
  pub other_network : AreLoggedIfDue (mistakes OtherNetwork switches port_indices) now old.other_network new.other_network
  pub two_places : AreLoggedIfDue (mistakes TwoPlaces switches port_indices) now old.two_places new.two_places
  pub own_address : AreLoggedIfDue (mistakes OwnAddress switches port_indices) now old.own_address new.own_address
