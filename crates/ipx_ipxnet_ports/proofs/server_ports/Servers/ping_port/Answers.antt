use Rattle.std.proofs.Common.{◌≡◌, ℕ, List, [], Option, length, refl, subst}
use Rattle.std.specs.Prelude.{slice_set}
use Rattle.std.proofs.lemmas.Option.{slice_get_read}
use Rattle.ipx_wire.specs.Ipx.{IsIpx, packet_of}
use Rattle.ipxnet_server.specs.declared.pings.PingTurn.{PingTurn}
use Rattle.ipxnet_server.specs.ServerHears.{ServerView, router_ping}
use Rattle.ipx_carrier.specs.DriverTurns.{SendsEach}
use Rattle.ipx_carrier.proofs.DriverStates.{sends_on}
use Rattle.ipx_ipxnet_ports.specs.OnServers.{clients_pinged, noted_asked, pings_sent, relayed_to, sent_to_noted}
use Rattle.ipx_ipxnet_ports.proofs.Handing.{hands_both}
use Rattle.ipx_ipxnet_ports.specs.PlaceTraffic.{HandsOver, PlaceDatagram, PlaceTraffic}
use Rattle.ipx_ipxnet_ports.proofs.server_ports.Servers.ping_port.Goals as goal

-- the same for an equal turn
by_turn : (port : ℕ) (ping : List ℕ) (l : ServerView) (a b : PingTurn) (s t : Option PlaceTraffic) (f g : ℕ) → a ≡ b → HandsOver (pings_sent port ping a l) [] s t f g → HandsOver (pings_sent port ping b l) [] s t f g
by_turn port ping l a b s t f g same h = subst (λ (turn : PingTurn). HandsOver (pings_sent port ping turn l) [] s t f g) same h

pub returns-clause-pings : goal.returns-clause-pings
returns-clause-pings g c =
    let servers = c.args.self.now.servers.items in
    let server = c.index_mut-server.result.now in
    let after = c.begin_pings-turn.new.self in
    record {
      server = server;
      after = after;
      ping = c.ping-ping.result;
      at_port = slice_get_read servers (length servers) c.args.port server (refl {a = length servers}) c.requires.server c.index_mut-server.ensures.value;
      becomes = c.begin_pings-turn.ensures.server;
      is_ping = subst (λ (v : ServerView). IsIpx (packet_of (router_ping v.port) []) c.ping-ping.result []) c.begin_pings-turn.ensures.server c.ping-ping.ensures;
      gone = by_turn c.args.port c.ping-ping.result after _ _ _ _ _ _ c.begin_pings-turn.ensures.turn
          (hands_both _ _ _ _ _ _ _ _ c.send_pings.ensures.gone c.send_asks.ensures.gone);
      once = c.send_pings.ensures.once;
      servers = refl {a = slice_set servers c.args.port after};
      counted = refl {a = c.args.self.now.kept};
    }

hands_by : {S : Type 0} (sends : S → PlaceDatagram → S → Type 0) (port : ℕ) (ping : List ℕ) (l m : ServerView) (a b : PingTurn) (x y : S) → l ≡ m → a ≡ b
    → SendsEach sends (pings_sent port ping a l) x y → SendsEach sends (pings_sent port ping b m) x y
hands_by sends port ping l m a b x y is same h =
    subst (λ (v : ServerView). SendsEach sends (pings_sent port ping b v) x y) is (subst (λ (turn : PingTurn). SendsEach sends (pings_sent port ping turn l) x y) same h)

pub returns-clause-sends : goal.returns-clause-sends
returns-clause-sends g c =
    let servers = c.args.self.now.servers.items in
    let server = c.index_mut-server.result.now in
    let after = c.begin_pings-turn.new.self in
    let ping = c.ping-ping.result in
    let turn = c.begin_pings-turn.result in
    let sends = g.D.PlaceSockets.sends in (
      server,
      ping,
      slice_get_read servers (length servers) c.args.port server (refl {a = length servers}) c.requires.server c.index_mut-server.ensures.value,
      subst (λ (v : ServerView). IsIpx (packet_of (router_ping v.port) []) ping []) c.begin_pings-turn.ensures.server c.ping-ping.ensures,
      hands_by sends c.args.port ping after _ turn _ _ _ c.begin_pings-turn.ensures.server c.begin_pings-turn.ensures.turn
          (sends_on sends (relayed_to c.args.port ping (clients_pinged turn after)) (sent_to_noted c.args.port ping (noted_asked turn after)) _ _ _ c.send_pings.ensures.sends c.send_asks.ensures.sends),
    )
