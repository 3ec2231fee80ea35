use Rattle.std.proofs.Common.{Err, Ok, Result, refl, sym}
use Rattle.std.specs.Prelude.{OnErr, OnOk}
use Rattle.ipx_carrier.proofs.owned_rfc1234_ports.OwnedRfc1234PortsPortDriver.send.Goals as goal

on_ok : {T E P Q : Type 0} (r : Result T E) → OnOk r P → (P → Q) → OnOk r Q
on_ok (Ok x) p then = then p
on_ok (Err e) p then = tt

on_err : {T E P Q : Type 0} (r : Result T E) → OnErr r P → (P → Q) → OnErr r Q
on_err (Ok x) p then = tt
on_err (Err e) p then = then p

pub returns-clause-count : goal.returns-clause-count
returns-clause-count g c = rw (sym c.deref.ensures.value) c.send.ensures.count

pub returns-clause-sends : goal.returns-clause-sends
returns-clause-sends g c = on_ok c.send.result c.send.ensures.sends (λ h. (refl, rw (sym c.deref.ensures.value) h.1))

pub returns-clause-fails_to_send : goal.returns-clause-fails_to_send
returns-clause-fails_to_send g c = on_err c.send.result c.send.ensures.fails_to_send (λ h. (refl, rw (sym c.deref.ensures.value) h.1))
