use Rattle.std.proofs.Common.{◌≡◌, ◌≢◌, ℕ}
use Rattle.spx_link.specs.Links.{count_of}
use Rattle.spx_messages.specs.Changes.{SameSelf}
use Rattle.spx_messages.specs.EndpointView.{held_at}
use Rattle.ipx_host.specs.Feeding.{KeepsQueue}
use Rattle.ipx_host.proofs.Dropped.{SoFar}
use Rattle.ipx_host.proofs.handing.drop_what_came.Given as goal

-- so many units were dropped, and what is queued is unchanged
abbrev pub invariant-loop : goal.invariant-loop
invariant-loop l = record {
  so : SoFar l.counter (held_at l.fn.endpoint l.id) (held_at l.endpoint l.id);
  queue : KeepsQueue (held_at l.fn.endpoint l.id) (held_at l.endpoint l.id);
  others : (q : ℕ) → q ≢ l.id → held_at l.endpoint q ≡ held_at l.fn.endpoint q;
  last : l.endpoint.links.last ≡ l.fn.endpoint.links.last;
  count : count_of l.endpoint.links ≡ count_of l.fn.endpoint.links;
  self : SameSelf l.fn.endpoint l.endpoint;
}
