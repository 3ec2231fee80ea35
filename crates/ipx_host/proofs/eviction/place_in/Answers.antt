use Rattle.std.proofs.Common.{◌≡◌, subst}
use Rattle.ipx_wire.specs.declared.address.Network.{Network}
use Rattle.ipx_host.specs.Sessions.{place_to_free as to_free}
use Rattle.ipx_host.proofs.eviction.place_in.Goals as goal

pub returns-clause-place : goal.returns-clause-place
returns-clause-place c =
    subst (λ (n : Network). c.place_to_evict.result ≡ to_free c.args.once n c.args.endpoint.now c.args.moment c.args.asker.now c.args.sessions.now) c.network.ensures c.place_to_evict.ensures.place
