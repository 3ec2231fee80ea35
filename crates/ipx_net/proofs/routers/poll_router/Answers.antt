use Rattle.std.proofs.Common.{inr, refl, true}
use Rattle.ipx_router.specs.RouterPackets.{sendings}
use Rattle.ipx_net.proofs.Wanting.{on_err, some_after}
use Rattle.ipx_net.proofs.routers.poll_router.Goals as goal

pub returns-in_err-append-clause-refused : goal.returns-in_err-append-clause-refused
returns-in_err-append-clause-refused c =
    on_err c.from_residual-in_err-append.result
    (inr (inr (
      record { router = c.tell.new.self; started = true },
      _,
      record {
        asked = sendings c.in_ok-packets.packets.items;
        told = sendings c.in_ok-told.told.items;
        are = refl;
        asks = c.in_ok-packets.ensures.asks;
        tells = c.in_ok-told.ensures.tells;
        known = c.in_ok-told.ensures.known;
        rest = c.in_ok-told.ensures.rest;
        started = refl;
      },
      some_after c.in_ok-packets.packets c.in_ok-told.told c.in_err-append.ensures.full,
    )))
