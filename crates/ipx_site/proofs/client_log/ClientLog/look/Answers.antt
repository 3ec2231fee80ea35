use Rattle.std.proofs.Common.{◌≡◌, ◌++◌, ◌∙◌, List, ap}
use Rattle.ipx_site.specs.ClientLog.{clients_come, clients_gone, clients_without}
use Rattle.ipx_site.specs.declared.client_log.PortClient.{PortClient}
use Rattle.ipx_site.proofs.client_log.ClientLog.look.Goals as goal

pub returns-clause-logged : goal.returns-clause-logged
returns-clause-logged c =
    let logged = c.args.self.now.logged.items in
    let there = c.args.there.now in
    let same : c.deref.result.now ≡ logged = c.deref.ensures.value in
    c.in_ok-self.ensures ∙ ap (λ (t : List PortClient). clients_without t c.in_ok-changes.changes.gone.items ++ c.in_ok-changes.changes.came.items) c.deref-2.ensures.value
    ∙ ap (λ (gone : List PortClient). clients_without logged gone ++ c.in_ok-changes.changes.came.items) (c.in_ok-changes.ensures.gone ∙ ap (λ (t : List PortClient). clients_gone t there) same)
    ∙ ap (λ (come : List PortClient). clients_without logged (clients_gone logged there) ++ come) (c.in_ok-changes.ensures.came ∙ ap (λ (t : List PortClient). clients_come t there) same)
