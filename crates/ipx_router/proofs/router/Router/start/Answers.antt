use Rattle.ipx_router.specs.RouterPackets.{sendings}
use Rattle.ipx_router.proofs.Fits.{starts_own_ok}
use Rattle.ipx_router.proofs.router.Router.start.Goals as goal

pub returns-clause-own : goal.returns-clause-own
returns-clause-own c = starts_own_ok (λ v. sendings v.items) c.deref.result.now c.ask_all.result c.ask_all.ensures.asks
