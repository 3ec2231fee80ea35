use Rattle.std.proofs.Common.{◌≡◌, Some, ap, ◌∙◌}
use Rattle.spx_link.specs.declared.state.State.TheVariants.{Confirmed}
use Rattle.ipx_readers.proofs.ConfirmedTold.{peer_holds, told_at}
use Rattle.ipx_readers.proofs.closing.closed_with.Goals as goal

pub returns-in-Some-Confirmed-clause-holds : goal.returns-in-Some-Confirmed-clause-holds
returns-in-Some-Confirmed-clause-holds c =
    let x = c.in_ok-info.info.now in
    let t = c.ends.result.now in
    let last : c.in-Some-Confirmed.field-0 ≡ Confirmed = rw c.in-Some-Confirmed.is at c.in-Some-Confirmed.field-0-is in
    let is : x.state ≡ Some Confirmed = c.in-Some-Confirmed.is ∙ ap Some last in
    peer_holds c.args.net.now t c.args.end x (told_at t c.args.end x _ c.in_ok-info.ensures.lookup.0 c.in_ok-info.ensures.lookup.1) is c.ends.ensures.closed
