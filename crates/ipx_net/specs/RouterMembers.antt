-- A router as a member of a network: what it gives in a poll, and its packets as parcels (Novell IPX Router
-- Specification).
use Rattle.std.specs.Prelude.{ℕ, zero, suc, ◌≡◌, ◌++◌, true, List, [], MatchBool, Option, None, Some, map, slice_get}
use Rattle.ipx_wire.specs.declared.address.Network.{Network}
use Rattle.ipx_router.specs.declared.port.Port.{Port}
use Rattle.ipx_router.specs.Knowledge.{HoldsKnown, KeepsAllButOffers, known_at, tables}
use Rattle.ipx_router.specs.RouterPackets.{SendingView}
use Rattle.ipx_router.specs.Starting.{AreStarts}
use Rattle.ipx_router.specs.Advertisements.{TellsIfDue}
use Rattle.spx_theory.specs.World.{AtPort, ParcelView}
use Rattle.ipx_net.specs.declared.routers.RouterNow.{RouterNow}

-- the port of this number, from 1 on
abbrev pub port_at : List Port → ℕ → Option Port
port_at ports zero = None
port_at ports (suc k) = slice_get ports k

abbrev pub network_of : Option Port → Network
network_of None = record { 0 = 0 }
network_of (Some p) = p.network

-- a packet of a router is on the network of the port by which it leaves
abbrev pub letter_of : ℕ → List Port → SendingView → ParcelView
letter_of router ports s =
    record {
      segment = network_of (port_at ports s.port);
      next = s.next;
      bytes = s.bytes;
      sent_by = Some (AtPort router s.port);
    }

abbrev pub letters_of : ℕ → List Port → List SendingView → List ParcelView
letters_of router ports sent = map (letter_of router ports) sent

-- at its first poll it asks its neighbours, and at each poll it advertises what it knows if that is due
pub record IsPolled (old new : RouterNow) (now : ℕ) (sent : List SendingView) : Type 0 where
  pub asked : List SendingView
  pub told : List SendingView
  pub are : sent ≡ asked ++ told
  pub asks : MatchBool old.started (asked ≡ []) (AreStarts 1 old.router.ports asked)
  pub tells : TellsIfDue (known_at old.router now) old.router.advertised_at now told new.router.advertised_at
  pub known : HoldsKnown (known_at old.router now) (tables new.router)
  pub rest : KeepsAllButOffers old.router new.router
  pub started : new.started ≡ true
