use Rattle.std.proofs.Common.{◌<◌, ◌↔◌, length, sym, ◌∙◌, subst, arith}
use Rattle.std.specs.Prelude.{IsTrue}
use Rattle.ipx_net.specs.Begins.{BeginsAsRead}
use Rattle.ipx_net.specs.IndexedLogView.{IndexedLogView}
use Rattle.ipx_net.specs.LogEntries.{entry_notes}
use Rattle.ipx_net.proofs.Peering.{begins_with}
use Rattle.ipx_net.proofs.indexed_log.IndexedLog.begins.Goals as goal

pub returns-in-Some : goal.returns-in-Some
returns-in-Some c =
    let kept = c.self.inside.scanned in
    let within : c.args.end < length kept.roles.items = omega (arith, c.len.ensures, kept.roles.ok.0) in
    subst (λ (b : IndexedLogView). IsTrue c.is_beginning.result ↔ BeginsAsRead b.log c.args.end) c.self.view_is
    (begins_with (IsTrue c.is_beginning.result) (entry_notes c.self.inside.entries.items) kept c.args.end c.in-Some.peer c.peer_is_found.ensures c.self.invariant within
    (sym c.peer.ensures ∙ c.in-Some.is) (rw c.deref.ensures.value at c.is_beginning.ensures))
