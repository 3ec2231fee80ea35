use Rattle.std.proofs.Common.{ap, length, refl, sym, ◌∙◌}
use Rattle.std.specs.Prelude.{is_some, slice_set}
use Rattle.std.proofs.lemmas.Option.{slice_get_read}
use Rattle.ipx_ipxnet_ports.specs.PlaceTraffic.{place_datagram}
use Rattle.ipxnet_server.specs.ServerHears.{takers_of}
use Rattle.ipx_ipxnet_ports.proofs.Steady.{nothing_goes_round, relays_joined, relays_known}
use Rattle.ipx_ipxnet_ports.proofs.server_ports.Servers.hear_datagram.Goals as goal

pub returns-then-not-is_for_core-clause-heard : goal.returns-then-not-is_for_core-clause-heard
returns-then-not-is_for_core-clause-heard g c =
    let servers = c.args.self.now.servers.items in
    let server = c.index_mut-server.result.now in
    let after = c.hear-heard.new.self in
    let heard = c.hear-heard.result in
    let onward = c.give_on.ensures.gone in
    let d = place_datagram c.args.port c.args.bytes.now c.args.from in
    record {
      server = server;
      after = after;
      heard = heard;
      at_port = slice_get_read servers (length servers) c.args.port server (refl {a = length servers}) c.requires.server c.index_mut-server.ensures.value;
      hears = record {
        malformed = c.hear-heard.ensures.malformed;
        unread = c.hear-heard.ensures.unread;
        packet = c.hear-heard.ensures.packet;
        becomes = c.hear-heard.ensures.server;
        stays = c.hear-heard.ensures.stays;
      };
      onward = onward;
      known = relays_known c.args.port c.args.bytes.now after (takers_of heard);
      answers = λ of. ap is_some (c.hear-heard.ensures.sender of);
      joined = relays_joined c.args.port c.args.bytes.now after (takers_of heard);
      ring = λ is. nothing_goes_round after heard d (c.hear-heard.ensures.ring is);
      no_longer = c.hear-heard.ensures.no_longer;
      core = sym c.is_for_core.ensures ∙ c.if-not-is_for_core.true;
      servers = refl {a = slice_set servers c.args.port after};
      counted = c.saturating_increment.ensures.counted;
    }

pub returns-clause-heard : goal.returns-clause-heard
returns-clause-heard g c =
    let servers = c.args.self.now.servers.items in
    let server = c.index_mut-server.result.now in
    let after = c.hear-heard.new.self in
    let heard = c.hear-heard.result in
    let onward = c.give_on.ensures.gone in
    let d = place_datagram c.args.port c.args.bytes.now c.args.from in
    record {
      server = server;
      after = after;
      heard = heard;
      at_port = slice_get_read servers (length servers) c.args.port server (refl {a = length servers}) c.requires.server c.index_mut-server.ensures.value;
      hears = record {
        malformed = c.hear-heard.ensures.malformed;
        unread = c.hear-heard.ensures.unread;
        packet = c.hear-heard.ensures.packet;
        becomes = c.hear-heard.ensures.server;
        stays = c.hear-heard.ensures.stays;
      };
      onward = onward;
      known = relays_known c.args.port c.args.bytes.now after (takers_of heard);
      answers = λ of. ap is_some (c.hear-heard.ensures.sender of);
      joined = relays_joined c.args.port c.args.bytes.now after (takers_of heard);
      ring = λ is. nothing_goes_round after heard d (c.hear-heard.ensures.ring is);
      no_longer = c.hear-heard.ensures.no_longer;
      core = (sym c.is_for_core.ensures ∙ c.if-not-is_for_core.false, c.put_front.ensures.put);
      servers = refl {a = slice_set servers c.args.port after};
      counted = refl {a = c.args.self.now.kept};
    }

pub returns-then-not-is_for_core-clause-sends : goal.returns-then-not-is_for_core-clause-sends
returns-then-not-is_for_core-clause-sends g c =
    let servers = c.args.self.now.servers.items in
    let server = c.index_mut-server.result.now in (
      server,
      c.hear-heard.new.self,
      c.hear-heard.result,
      slice_get_read servers (length servers) c.args.port server (refl {a = length servers}) c.requires.server c.index_mut-server.ensures.value,
      refl {a = slice_set servers c.args.port c.hear-heard.new.self},
      record {
        malformed = c.hear-heard.ensures.malformed;
        unread = c.hear-heard.ensures.unread;
        packet = c.hear-heard.ensures.packet;
        becomes = c.hear-heard.ensures.server;
        stays = c.hear-heard.ensures.stays;
      },
      c.give_on.ensures.sends,
    )

pub returns-clause-sends : goal.returns-clause-sends
returns-clause-sends g c =
    let servers = c.args.self.now.servers.items in
    let server = c.index_mut-server.result.now in (
      server,
      c.hear-heard.new.self,
      c.hear-heard.result,
      slice_get_read servers (length servers) c.args.port server (refl {a = length servers}) c.requires.server c.index_mut-server.ensures.value,
      refl {a = slice_set servers c.args.port c.hear-heard.new.self},
      record {
        malformed = c.hear-heard.ensures.malformed;
        unread = c.hear-heard.ensures.unread;
        packet = c.hear-heard.ensures.packet;
        becomes = c.hear-heard.ensures.server;
        stays = c.hear-heard.ensures.stays;
      },
      c.give_on.ensures.sends,
    )
