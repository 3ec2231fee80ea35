use Rattle.std.proofs.Common.{◌↔◌, subst}
use Rattle.std.specs.Prelude.{IsTrue}
use Rattle.ipx_wire.specs.declared.address.Network.{Network}
use Rattle.ipx_host.specs.Sessions.{HasNoPlaceFor}
use Rattle.ipx_host.proofs.eviction.is_full.Goals as goal

pub returns : goal.returns
returns c = subst (λ (n : Network). IsTrue c.is_full_on.result ↔ HasNoPlaceFor c.args.once n c.args.from.now c.args.sessions.now) c.network.ensures c.is_full_on.ensures
