-- When a router logs what it dropped, and which lines are warnings. Defined by this project.
use Rattle.std.specs.Prelude.{◌≡◌, ℕ, List, Bool, true, false, not, ◌==◌, ◌&&◌, Option, Some, None, replicate}
use Rattle.ipx_wire.specs.Assigned.{rip_socket, sap_socket}
use Rattle.ipx_wire.specs.declared.address.Address.{Address}
use Rattle.ipx_router.specs.Classify.{is_node}
use Rattle.ipx_router.specs.RouterPackets.{broadcast}
use Rattle.ipx_metrics.specs.declared.last_drops.LastDrop.{LastDrop}
use Rattle.ipx_carrier.specs.declared.outcome_counters.OutcomeCounters.{OutcomeCounters}
use Rattle.ipx_source_checks.specs.declared.drops.SourceDrops.{SourceDrops}
use Rattle.ipx_ethernet.specs.Heard.{SwitchView}
use Rattle.ipx_site.specs.FrameLog.{AreMistakesLogged}
use Rattle.ipx_site.specs.declared.frame_log.FrameLog.{FrameLog}
use Rattle.ipx_site.specs.declared.router_ports.PortIndex.{PortIndex}
use Rattle.ipx_site.specs.declared.drop_log.DropLog.{DropLog}
use Rattle.ipx_site.specs.declared.drop_log.DropReason.{DropReason}
use Rattle.ipx_site.specs.declared.drop_log.DropReason.TheVariants.{Bad, NotOurs, NoRoute, HopLimit, BadControl, ForwardedControl, GroupSource, LoopedSource}
use Rattle.ipx_sockets.specs.Moments.{AreLoggedIfDue, IsLoggedIfDue, never_logged}

-- no mistake has been logged
abbrev pub no_mistakes_logged : FrameLog
no_mistakes_logged = record {
  other_network = replicate 16 never_logged;
  two_places = replicate 16 never_logged;
  own_address = replicate 16 never_logged;
}

-- nothing has been logged
abbrev pub no_drops_logged : DropLog
no_drops_logged = record {
  bad = never_logged;
  not_ours = never_logged;
  no_route = never_logged;
  hop_limit = never_logged;
  bad_control = never_logged;
  forwarded_control = never_logged;
  group_source = never_logged;
  looped_source = never_logged;
  tunnels = record { ports = replicate 16 never_logged };
  frames = no_mistakes_logged;
}

-- the drops of each of eight reasons, and those at the tunnel of each port, are logged exactly if they are due. So
-- are the mistakes that the switch of each port noticed
pub record AreDropsLogged (outcomes : OutcomeCounters) (source : SourceDrops) (tunnels : List ℕ) (switches : List SwitchView) (port_indices : List PortIndex) (now : ℕ) (old new : DropLog) : Type 0 where
  pub bad : IsLoggedIfDue outcomes.bad now old.bad new.bad
  pub not_ours : IsLoggedIfDue outcomes.not_ours now old.not_ours new.not_ours
  pub no_route : IsLoggedIfDue outcomes.no_route now old.no_route new.no_route
  pub hop_limit : IsLoggedIfDue outcomes.hop_limit now old.hop_limit new.hop_limit
  pub bad_control : IsLoggedIfDue outcomes.bad_control now old.bad_control new.bad_control
  pub forwarded_control :
      IsLoggedIfDue source.forwarded_control.count now old.forwarded_control new.forwarded_control
  pub group_source : IsLoggedIfDue source.group_source.count now old.group_source new.group_source
  pub looped_source : IsLoggedIfDue source.looped_source.count now old.looped_source new.looped_source
  pub at_tunnels : AreLoggedIfDue tunnels now old.tunnels.ports new.tunnels.ports
  pub frames : AreMistakesLogged switches port_indices now old.frames new.frames

-- the last datagram of a reason was for all nodes of a network, to a socket other than those of RIP and SAP,
-- which routers hear
abbrev pub is_for_all_nodes : Option Address → Bool
is_for_all_nodes None = false
is_for_all_nodes (Some a) =
    is_node a.node broadcast && not (a.socket.0 == rip_socket) && not (a.socket.0 == sap_socket)

abbrev pub is_of_all_nodes : Option LastDrop → Bool
is_of_all_nodes None = false
is_of_all_nodes (Some d) = is_for_all_nodes d.to

-- a line about drops is a warning, unless the last datagram was not for the router because it was for all
-- nodes
abbrev pub warns_of : DropReason → Option LastDrop → Bool
warns_of Bad last = true
warns_of NotOurs last = not (is_of_all_nodes last)
warns_of NoRoute last = true
warns_of HopLimit last = true
warns_of BadControl last = true
warns_of ForwardedControl last = true
warns_of GroupSource last = true
warns_of LoopedSource last = true

-- ---- relations for private functions

-- what the router dropped is logged if it is due, and no other reason
pub record AreRouterDropsLogged (outcomes : OutcomeCounters) (now : ℕ) (old new : DropLog) : Type 0 where
  pub bad : IsLoggedIfDue outcomes.bad now old.bad new.bad
  pub not_ours : IsLoggedIfDue outcomes.not_ours now old.not_ours new.not_ours
  pub no_route : IsLoggedIfDue outcomes.no_route now old.no_route new.no_route
  pub hop_limit : IsLoggedIfDue outcomes.hop_limit now old.hop_limit new.hop_limit
  pub bad_control : IsLoggedIfDue outcomes.bad_control now old.bad_control new.bad_control
  pub rest : new ≡ record old {
    bad = new.bad;
    not_ours = new.not_ours;
    no_route = new.no_route;
    hop_limit = new.hop_limit;
    bad_control = new.bad_control;
  }

-- what failed a source check is logged if it is due, and no other reason
pub record AreSourceDropsLogged (source : SourceDrops) (now : ℕ) (old new : DropLog) : Type 0 where
  pub forwarded_control :
      IsLoggedIfDue source.forwarded_control.count now old.forwarded_control new.forwarded_control
  pub group_source : IsLoggedIfDue source.group_source.count now old.group_source new.group_source
  pub looped_source : IsLoggedIfDue source.looped_source.count now old.looped_source new.looped_source
  pub rest : new ≡ record old {
    forwarded_control = new.forwarded_control;
    group_source = new.group_source;
    looped_source = new.looped_source;
  }
