use Rattle.std.proofs.Common.{◌<◌, ◌^◌, ◌↔◌, ◌∙◌, ℕ, List, ap, subst}
use Rattle.ipx_site.specs.ClientLog.{IsClientLookDue}
use Rattle.ipx_site.specs.IdleTime.{IsLineDue, happened}
use Rattle.ipx_sockets.specs.Moments.{IsReached}
use Rattle.ipxnet_server.specs.ServerHears.{ServerView}
use Rattle.ipx_site.proofs.Parts.{both}
use Rattle.ipx_site.proofs.running_router.RunningRouter.next_line.Goals as goal

pub returns : goal.returns
returns g c =
    let self = c.args.self.now in
    let lines = subst (λ n. (t : ℕ) → t < 2 ^ 64 → IsReached c.next-warnings.result t ↔ IsLineDue self.warnings n t) {y = happened self.totals self.core self.ports}
    c.metrics.ensures.happened c.next-warnings.ensures in
    let looks = subst (λ (servers : List ServerView). (t : ℕ) → t < 2 ^ 64 → IsReached c.next-clients.result t ↔ IsClientLookDue self.client_log servers t)
    (c.servers-2.ensures ∙ ap (λ s. s.servers.items) c.servers.ensures) c.next-clients.ensures in
    λ t h. both (c.sooner.ensures t) (lines t h) (looks t h)
