use Rattle.std.proofs.Common.{◌≡◌, ◌∙◌, ◌≤◌, ◌<◌, ◌^◌, ◌↔◌, ℕ, List, Option, Some, ap, slice_get, subst}
use Rattle.ipx_router.specs.Advertisements.{IsNextAdvertisement}
use Rattle.ipx_site.specs.IdleTime.{IsDue, deadlines, happened, askings}
use Rattle.ipx_sockets.specs.Moments.{HasPassed, IsReached}
use Rattle.ipxnet_server.specs.Pings.{IsNextPing}
use Rattle.ipxnet_server.specs.ServerHears.{ServerView}
use Rattle.ipx_ipxnet_ports.specs.OnServers.{is_any_pinged}
use Rattle.ipx_site.proofs.Parts.{as_long, both, pinging, reached, regrouped, telling, then}
use Rattle.ipx_site.proofs.running_router.RunningRouter.time_until_due.Goals as goal

pub returns : goal.returns
returns g c =
    let self = c.args.self.now in
    let count = happened self.totals self.core self.ports in
    let asks = λ (t : ℕ). subst (λ o. IsReached c.discovery_retry.result t ↔ ((moment : ℕ) × (o ≡ Some moment) × (moment ≤ t)))
    {y = slice_get askings self.asked} c.discovery_retry.ensures.moment (reached c.discovery_retry.result t) in
    let told = subst (λ (l : Option ℕ). IsNextAdvertisement l c.next_advertisement-telling.result) (ap (λ r. r.advertised_at) (c.router.ensures ∙ ap (λ k. k.router) (c.core-3.ensures ∙ ap (λ k. k.core) (c.core-2.ensures ∙ ap (λ k. k.core) c.core.ensures)))) c.next_advertisement-telling.ensures in
    let said = subst (λ (l : Option ℕ). IsNextAdvertisement l c.next_refresh-words.result) (ap (λ k. k.refreshed_at) (c.core-5.ensures ∙ ap (λ k. k.core) c.core-4.ensures)) c.next_refresh-words.ensures in
    let looks = subst (λ period. (t : ℕ) → t < 2 ^ 64 → IsReached c.end_of-look.result t ↔ HasPassed period self.looked t) c.look_period.ensures c.end_of-look.ensures in
    let servers = self.ports.servers.servers.items in
    let next = subst (λ (ls : List ServerView). IsNextPing (is_any_pinged ls) c.next_pings-pings.result) (ap (λ s. s.servers.items) c.servers.ensures) c.next_pings-pings.ensures in
    as_long (IsReached c.sooner-4.result) (IsDue (deadlines self.asked self.looked self.responses self.written self.core self.warnings self.client_log count servers))
    c.args.now c.time_to.result
    (λ t h.
    let packets = both (c.sooner-packets.ensures t) (asks t) (telling self.core.core.core.core.router.advertised_at c.next_advertisement-telling.result t told h) in
    let words = telling self.core.core.core.refreshed_at c.next_refresh-words.result t said h in
    let metrics = both (c.sooner-metrics.ensures t) (c.end_of.ensures t h) (c.next_line.ensures t h) in
    let pings = pinging (is_any_pinged servers) c.next_pings-pings.result t next h in
    let due = then (both (c.sooner-due.ensures t) packets (both (c.sooner-3.ensures t) words (both (c.sooner-2.ensures t) pings (both (c.sooner.ensures t) (looks t h) metrics)))) regrouped in
    both (c.sooner-4.ensures t) (c.sending_time.ensures t) due)
    c.time_to.ensures
