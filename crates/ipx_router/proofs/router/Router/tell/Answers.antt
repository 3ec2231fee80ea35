use Rattle.ipx_router.specs.Knowledge.{known_aged}
use Rattle.ipx_router.specs.RouterPackets.{sendings}
use Rattle.ipx_router.proofs.Fits.{tells_own_ok}
use Rattle.ipx_router.proofs.router.Router.tell.Goals as goal

pub invariant_of-self : goal.invariant_of-self
invariant_of-self c = rw c.deref.ensures.value at c.tell_at.ensures.sound

pub returns-clause-tells : goal.returns-clause-tells
returns-clause-tells c = rw (← c.self.view_is, ← c.deref.ensures.value) c.tell_at.ensures.tells

pub returns-clause-refused : goal.returns-clause-refused
returns-clause-refused c = rw (← c.self.view_is, ← c.deref.ensures.value) c.tell_at.ensures.refused

pub returns-clause-own : goal.returns-clause-own
returns-clause-own c =
    tells_own_ok (λ v. sendings v.items) (known_aged c.deref.result.now c.self.inside.routes c.self.inside.services c.args.now) c.self.inside.advertised_at c.args.now c.tell_at.new.told c.tell_at.result c.tell_at.ensures.tells
