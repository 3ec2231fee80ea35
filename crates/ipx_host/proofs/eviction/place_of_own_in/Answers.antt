use Rattle.std.proofs.Common.{◌≡◌, subst}
use Rattle.ipx_wire.specs.declared.address.Network.{Network}
use Rattle.ipx_host.specs.Sessions.{place_of_own as of_own}
use Rattle.ipx_host.proofs.eviction.place_of_own_in.Goals as goal

pub returns-clause-place : goal.returns-clause-place
returns-clause-place c =
    subst (λ (n : Network). c.place_of_own.result ≡ of_own c.args.once n c.args.endpoint.now c.args.moment c.args.from.now c.args.sessions.now) c.network.ensures c.place_of_own.ensures.place
