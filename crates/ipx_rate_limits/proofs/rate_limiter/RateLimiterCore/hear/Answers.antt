use Rattle.std.proofs.Common.{List, inr, refl, subst}
use Rattle.ipx_router.specs.declared.port.Port.{Port}
use Rattle.ipx_rate_limits.specs.declared.directed_broadcast.DirectedBroadcast.{DirectedBroadcast}
use Rattle.ipx_rate_limits.specs.declared.port_buckets.PortBuckets.{PortBuckets}
use Rattle.ipx_rate_limits.specs.declared.querier.Querier.{Querier}
use Rattle.ipx_rate_limits.specs.DirectedBroadcasts.{IsDirectedBroadcast}
use Rattle.ipx_rate_limits.specs.RateLimiter.{HearOutOfMemoryBelow, HearsRateLimited, IsGeneralQuery, IsNarrowQuery, RateLimiterView}
use Rattle.ipx_rate_limits.proofs.Either.{on_err, on_ok}
use Rattle.ipx_rate_limits.proofs.rate_limiter.RateLimiterCore.hear.Goals as goal

pub returns-clause-heard : goal.returns-clause-heard
returns-clause-heard g c =
    let inside = c.self.inside in
    let new : RateLimiterView g.row.C.Denot = record { core = c.hear.new.self; ports = inside.ports.items; buckets = inside.buckets; kept = inside.kept; directed = inside.directed } in
    let no_query = subst (λ (ports : List Port). (who : Querier) → IsGeneralQuery ports c.args.port c.args.bytes.now who → ⊥) c.deref.ensures.value c.in_default.ensures.none in
    let no_narrow = subst (λ (ports : List Port). (who : Querier) → IsNarrowQuery ports c.args.port c.args.bytes.now who → ⊥) c.deref-2.ensures.value c.in_default-narrow_query_from.ensures.none in
    let no_directed = subst (λ (ports : List Port). (it : DirectedBroadcast) → IsDirectedBroadcast ports c.ports.result.now c.args.port c.args.bytes.now it → ⊥) c.deref-3.ensures.value c.in_default-directed_broadcast_in.ensures.none in
    let no_broadcast = subst (λ (limits : List PortBuckets). (it : DirectedBroadcast) → IsDirectedBroadcast inside.ports.items limits c.args.port c.args.bytes.now it → ⊥) c.ports.ensures no_directed in
    on_ok c.hear.result
    (λ heard. subst (λ (v : RateLimiterView g.row.C.Denot). HearsRateLimited g.C.Core.hears v c.args.port c.args.bytes.now c.args.now new) c.self.view_is
    (inr (inr (inr (no_query, no_narrow, no_broadcast, heard, refl)))))
    c.hear.ensures.heard

pub returns-clause-refused : goal.returns-clause-refused
returns-clause-refused g c =
    let inside = c.self.inside in
    let new : RateLimiterView g.row.C.Denot = record { core = c.hear.new.self; ports = inside.ports.items; buckets = inside.buckets; kept = inside.kept; directed = inside.directed } in
    let no_query = subst (λ (ports : List Port). (who : Querier) → IsGeneralQuery ports c.args.port c.args.bytes.now who → ⊥) c.deref.ensures.value c.in_default.ensures.none in
    let no_narrow = subst (λ (ports : List Port). (who : Querier) → IsNarrowQuery ports c.args.port c.args.bytes.now who → ⊥) c.deref-2.ensures.value c.in_default-narrow_query_from.ensures.none in
    let no_directed = subst (λ (ports : List Port). (it : DirectedBroadcast) → IsDirectedBroadcast ports c.ports.result.now c.args.port c.args.bytes.now it → ⊥) c.deref-3.ensures.value c.in_default-directed_broadcast_in.ensures.none in
    let no_broadcast = subst (λ (limits : List PortBuckets). (it : DirectedBroadcast) → IsDirectedBroadcast inside.ports.items limits c.args.port c.args.bytes.now it → ⊥) c.ports.ensures no_directed in
    on_err c.hear.result
    (λ heard. subst (λ (v : RateLimiterView g.row.C.Denot). HearOutOfMemoryBelow g.C.Core.hear_out_of_memory v c.args.port c.args.bytes.now c.args.now new) c.self.view_is
    (inr (inr (inr (no_query, no_narrow, no_broadcast, heard, refl)))))
    c.hear.ensures.refused
