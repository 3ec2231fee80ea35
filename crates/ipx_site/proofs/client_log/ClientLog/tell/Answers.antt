use Rattle.std.proofs.Common.{◌∙◌, ap}
use Rattle.ipx_site.specs.ClientLog.{clients_logged}
use Rattle.ipx_site.proofs.client_log.ClientLog.tell.Goals as goal

pub returns-clause-logged : goal.returns-clause-logged
returns-clause-logged g c =
    λ passed. c.in_ok-changes.ensures.logged ∙ ap (clients_logged c.args.self.now.logged.items) (c.deref.ensures.value ∙ c.in_ok-there.ensures)
