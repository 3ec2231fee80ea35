use Rattle.std.proofs.Common.{◌≡◌, ap, length, refl, subst}
use Rattle.std.specs.Prelude.{slice_set}
use Rattle.std.proofs.lemmas.Option.{slice_get_read}
use Rattle.ipx_carrier.specs.DriverTurns.{SendsEach}
use Rattle.ipx_carrier.proofs.DriverStates.{sends_on}
use Rattle.ipxnet_server.specs.ServerHears.{ServerView}
use Rattle.ipx_ipxnet_ports.specs.OnServers.{clients_reached, packet_sends, relayed_on, relayed_to, routers_reached, takers_given}
use Rattle.ipx_ipxnet_ports.proofs.Handing.{hands_both}
use Rattle.ipx_ipxnet_ports.proofs.Steady.{kept_from_routers, relays_joined, relays_known, told_to_nobody}
use Rattle.ipx_ipxnet_ports.proofs.server_ports.Servers.send_packet.Goals as goal
use Rattle.ipx_ipxnet_ports.proofs.server_ports.Servers.send_packet.Goals.{in-Ok, in-Err}

pub returns-clause-sent : goal.returns-clause-sent
returns-clause-sent g c =
    let servers = c.args.self.now.servers.items in
    let server = c.index_mut-server.result.now in
    let after = c.give.new.self in
    let given = c.give.result in
    let port = c.args.port in
    let packet = c.args.packet.now in
    let given_to = c.match-give.takers in
    let takers : takers_given given ≡ c.match-give.takers =
    elim c.match-give.branch [
      | in-Ok w ↦ rw w.takers-is (ap takers_given w.in-Ok.is)
      | in-Err w ↦ rw w.takers-is (ap takers_given w.in-Err.is)
    ] in
    record {
      server = server;
      after = after;
      given = given;
      at_port = slice_get_read servers (length servers) c.args.port server (refl {a = length servers}) c.requires.server c.index_mut-server.ensures.value;
      gives = record { malformed = c.give.ensures.malformed; packet = c.give.ensures.packet };
      becomes = c.give.ensures.server;
      gone = rw takers (hands_both (relayed_to port packet (clients_reached after given_to)) (relayed_on port packet (routers_reached after given_to)) _ _ _ _ _ _ c.send_to_clients.ensures.gone c.send_to_routers.ensures.gone);
      quiet = λ p begins asks all. told_to_nobody port c.args.self.now.moment packet server after c.args.node p given asks all (c.give.ensures.packet p begins);
      own = λ p begins here. kept_from_routers port packet after given (c.give.ensures.own p begins here);
      once = c.send_to_clients.ensures.once;
      known = relays_known port packet after (takers_given given);
      joined = relays_joined port packet after (takers_given given);
      said = c.said_of.ensures;
      servers = refl {a = slice_set servers c.args.port after};
      counted = refl {a = c.args.self.now.kept};
    }

pub returns-clause-sends : goal.returns-clause-sends
returns-clause-sends g c =
    let servers = c.args.self.now.servers.items in
    let server = c.index_mut-server.result.now in
    let after = c.give.new.self in
    let given = c.give.result in
    let port = c.args.port in
    let packet = c.args.packet.now in
    let given_to = c.match-give.takers in
    let takers : takers_given given ≡ c.match-give.takers =
    elim c.match-give.branch [
      | in-Ok w ↦ rw w.takers-is (ap takers_given w.in-Ok.is)
      | in-Err w ↦ rw w.takers-is (ap takers_given w.in-Err.is)
    ] in
    let sends = g.D.PlaceSockets.sends in
    let both : SendsEach sends (packet_sends port packet after given_to) c.args.self.now.sockets c.send_to_routers.new.sockets =
    sends_on sends (relayed_to port packet (clients_reached after given_to)) (relayed_on port packet (routers_reached after given_to)) _ _ _ c.send_to_clients.ensures.sends c.send_to_routers.ensures.sends in (
      server,
      given,
      slice_get_read servers (length servers) c.args.port server (refl {a = length servers}) c.requires.server c.index_mut-server.ensures.value,
      record { malformed = c.give.ensures.malformed; packet = c.give.ensures.packet },
      subst (λ (l : ServerView). SendsEach sends (packet_sends port packet l (takers_given given)) c.args.self.now.sockets c.send_to_routers.new.sockets) c.give.ensures.server (rw takers both),
    )
