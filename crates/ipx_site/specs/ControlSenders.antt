-- The source of the RIP and SAP that a router hears by its RFC 1234 ports. Defined by this project.
use Rattle.std.specs.Prelude.{◌≡◌, ℕ, true, List, Option, Some}
use Rattle.ipx_wire.specs.Ipx.{BeginsWith, PacketView}
use Rattle.ipx_router.specs.Classify.{class_of}
use Rattle.ipx_router.specs.declared.port.Port.{Port}
use Rattle.ipx_source_checks.specs.SourceChecks.{is_control}
use Rattle.ipx_sockets.specs.SourceFilter.{IsVerdictOn, is_node_of}
use Rattle.ipx_sockets.specs.declared.source_filter.AccessList.{AccessList}
use Rattle.ipx_sockets.specs.declared.source_filter.Verdict.TheVariants.{Heard}

-- bytes from this IP address are RIP or SAP for the router at this port, and the port's access list accepts
-- them
pub record IsControlHeard (list : AccessList) (at : Port) (from : Option (List ℕ)) (bytes : List ℕ) (p : PacketView) : Type 0 where
  pub here : list.network ≡ at.network
  pub heard : IsVerdictOn (Some list) from bytes Heard
  pub packet : BeginsWith bytes p
  pub control : is_control (class_of at p.header) ≡ true

-- then their source node is that of the IP address that sent the datagram, and no router forwarded them
abbrev pub ControlIsOfItsSender : Type 0
ControlIsOfItsSender = (list : AccessList) (at : Port) (from : Option (List ℕ)) (bytes : List ℕ) (p : PacketView)
    → IsControlHeard list at from bytes p
    → (is_node_of p.header.from.node from ≡ true) × (p.header.hops ≡ 0)
